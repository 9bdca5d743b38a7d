-- A part of a tree whose places all lie so much further on.
use Rattle.std.specs.Prelude.{ℕ, ◌+◌, List}
use Rattle.vlt_base.specs.declared.places.Span.{Span}
use Rattle.vlt_syntax.specs.Tree.{Name, States, KeyStates, Named, Ty, Expr, Build, Call, Init, Right, Returned, Stmt, Block, If, Else, Stmts, Arms, SetState, HeaderKey, Field, Case, Entry, ResultType, Parameter, Head, Decl}
use Rattle.vlt_syntax_copies.specs.Mapped as m

module _ (by : ℕ) where
  abbrev pub raised_span : Span → Span
  raised_span at = record { from = at.from + by; to = at.to + by }

  abbrev pub raised_name : Name → Name
  raised_name = m.mapped_name raised_span

  abbrev pub raised_names : List Name → List Name
  raised_names = m.mapped_names raised_span

  abbrev pub raised_states : States → States
  raised_states = m.mapped_states raised_span

  abbrev pub raised_key_states : KeyStates → KeyStates
  raised_key_states = m.mapped_key_states raised_span

  abbrev pub raised_named : Named → Named
  raised_named = m.mapped_named raised_span

  abbrev pub raised_ty : Ty → Ty
  raised_ty = m.mapped_ty raised_span

  abbrev pub raised_expr : Expr → Expr
  raised_expr = m.mapped_expr raised_span

  abbrev pub raised_build : Build → Build
  raised_build = m.mapped_build raised_span

  abbrev pub raised_call : Call → Call
  raised_call = m.mapped_call raised_span

  abbrev pub raised_init : Init → Init
  raised_init = m.mapped_init raised_span

  abbrev pub raised_right : Right → Right
  raised_right = m.mapped_right raised_span

  abbrev pub raised_returned : Returned → Returned
  raised_returned = m.mapped_returned raised_span

  abbrev pub raised_stmt : Stmt → Stmt
  raised_stmt = m.mapped_stmt raised_span

  abbrev pub raised_block : Block → Block
  raised_block = m.mapped_block raised_span

  abbrev pub raised_if : If → If
  raised_if = m.mapped_if raised_span

  abbrev pub raised_else : Else → Else
  raised_else = m.mapped_else raised_span

  abbrev pub raised_stmts : Stmts → Stmts
  raised_stmts = m.mapped_stmts raised_span

  abbrev pub raised_arms : Arms → Arms
  raised_arms = m.mapped_arms raised_span

  abbrev pub raised_set_state : SetState → SetState
  raised_set_state = m.mapped_set_state raised_span

  abbrev pub raised_header_key : HeaderKey → HeaderKey
  raised_header_key = m.mapped_header_key raised_span

  abbrev pub raised_field : Field → Field
  raised_field = m.mapped_field raised_span

  abbrev pub raised_case : Case → Case
  raised_case = m.mapped_case raised_span

  abbrev pub raised_entry : Entry → Entry
  raised_entry = m.mapped_entry raised_span

  abbrev pub raised_result : ResultType → ResultType
  raised_result = m.mapped_result raised_span

  abbrev pub raised_parameter : Parameter → Parameter
  raised_parameter = m.mapped_parameter raised_span

  abbrev pub raised_head : Head → Head
  raised_head = m.mapped_head raised_span

  abbrev pub raised : Decl → Decl
  raised = m.mapped_decl raised_span
