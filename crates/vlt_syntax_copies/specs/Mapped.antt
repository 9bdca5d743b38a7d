-- A part of a tree with a function applied to each of its spans: one equation for each form of the grammar.
use Rattle.std.specs.Prelude.{List, map}
use Rattle.std.specs.Option.{option_map}
use Rattle.vlt_base.specs.declared.places.Span.{Span}
use Rattle.vlt_syntax.specs.Tree as s
use Rattle.vlt_syntax.specs.Tree.{Name, States, KeyStates, Named, Ty, Expr, Build, Call, Init, Right, Returned, Stmt, Block, If, Else, Stmts, Arms, SetState, HeaderKey, Field, Case, Entry, ResultType, Parameter, Head, Decl}

module _ (go : Span → Span) where
  abbrev pub mapped_name : Name → Name
  mapped_name n = record { text = n.text; at = go n.at }

  abbrev pub mapped_names : List Name → List Name
  mapped_names = map mapped_name

  abbrev pub mapped_states : States → States
  mapped_states (s.one n) = s.one (mapped_name n)
  mapped_states (s.several ns at) = s.several (mapped_names ns) (go at)

  abbrev pub mapped_key_states : KeyStates → KeyStates
  mapped_key_states k = record { key = mapped_name k.key; states = option_map mapped_states k.states }

  abbrev pub mapped_named : Named → Named
  mapped_named n = record { name = mapped_name n.name; keys = mapped_names n.keys }

  abbrev pub mapped_ty : Ty → Ty
  mapped_ty (s.int at) = s.int (go at)
  mapped_ty (s.bool at) = s.bool (go at)
  mapped_ty (s.tracked k n at) = s.tracked (mapped_name k) (mapped_named n) (go at)
  mapped_ty (s.owning ss n at) = s.owning (option_map mapped_states ss) (mapped_named n) (go at)
  mapped_ty (s.guarded k n) = s.guarded (mapped_name k) (mapped_named n)
  mapped_ty (s.plain n) = s.plain (mapped_named n)

  abbrev pub mapped_expr : Expr → Expr
  mapped_expr (s.number z at) = s.number z (go at)
  mapped_expr (s.true at) = s.true (go at)
  mapped_expr (s.false at) = s.false (go at)
  mapped_expr (s.variable x) = s.variable (mapped_name x)
  mapped_expr (s.field x f) = s.field (mapped_name x) (mapped_name f)
  mapped_expr (s.group e at) = s.group (mapped_expr e) (go at)
  mapped_expr (s.unary o e at) = s.unary o (mapped_expr e) (go at)
  mapped_expr (s.binary o l r at) = s.binary o (mapped_expr l) (mapped_expr r) (go at)

  abbrev pub mapped_build : Build → Build
  mapped_build b =
      record { case = mapped_name b.case; payload = map mapped_expr b.payload; at = go b.at }

  abbrev pub mapped_call : Call → Call
  mapped_call c = record {
    function = mapped_name c.function;
    arguments = map mapped_expr c.arguments;
    at = go c.at;
  }

  abbrev pub mapped_init : Init → Init
  mapped_init i = record { field = mapped_name i.field; value = mapped_expr i.value }

  abbrev pub mapped_right : Right → Right
  mapped_right (s.value e) = s.value (mapped_expr e)
  mapped_right (s.build b) = s.build (mapped_build b)
  mapped_right (s.call c) = s.call (mapped_call c)
  mapped_right (s.input at) = s.input (go at)
  mapped_right (s.more at) = s.more (go at)
  mapped_right (s.make r n is at) =
      s.make (option_map mapped_name r) (mapped_named n) (map mapped_init is) (go at)
  mapped_right (s.adopt x r at) = s.adopt (mapped_name x) (mapped_name r) (go at)

  abbrev pub mapped_returned : Returned → Returned
  mapped_returned s.nothing = s.nothing
  mapped_returned (s.value e) = s.value (mapped_expr e)
  mapped_returned (s.build b) = s.build (mapped_build b)

  abbrev mutual
    pub mapped_stmt : Stmt → Stmt
    mapped_stmt (s.declare t x right at) =
        s.declare (mapped_ty t) (mapped_name x) (mapped_right right) (go at)
    mapped_stmt (s.assign x right at) = s.assign (mapped_name x) (mapped_right right) (go at)
    mapped_stmt (s.put x f e at) = s.put (mapped_name x) (mapped_name f) (mapped_expr e) (go at)
    mapped_stmt (s.call c at) = s.call (mapped_call c) (go at)
    mapped_stmt (s.print e at) = s.print (mapped_expr e) (go at)
    mapped_stmt (s.block b) = s.block (mapped_block b)
    mapped_stmt (s.choose i) = s.choose (mapped_if i)
    mapped_stmt (s.loop e b at) = s.loop (mapped_expr e) (mapped_block b) (go at)
    mapped_stmt (s.break at) = s.break (go at)
    mapped_stmt (s.continue at) = s.continue (go at)
    mapped_stmt (s.return r at) = s.return (mapped_returned r) (go at)
    mapped_stmt (s.switch x arms at) = s.switch (mapped_name x) (mapped_arms arms) (go at)
    mapped_stmt (s.release x at) = s.release (mapped_name x) (go at)
    mapped_stmt (s.become x n at) = s.become (mapped_name x) (mapped_name n) (go at)
    mapped_stmt (s.swap x f v at) = s.swap (mapped_name x) (mapped_name f) (mapped_name v) (go at)
    mapped_stmt (s.open_into x vs at) = s.open_into (mapped_name x) (mapped_names vs) (go at)
    mapped_stmt (s.focus y k z b at) =
        s.focus (mapped_name y) (mapped_name k) (mapped_name z) (mapped_block b) (go at)

    pub mapped_block : Block → Block
    mapped_block (s.braced ss at) = s.braced (mapped_stmts ss) (go at)

    pub mapped_if : If → If
    mapped_if (s.choice e b other at) =
        s.choice (mapped_expr e) (mapped_block b) (mapped_else other) (go at)

    pub mapped_else : Else → Else
    mapped_else s.nothing = s.nothing
    mapped_else (s.last b) = s.last (mapped_block b)
    mapped_else (s.chained i) = s.chained (mapped_if i)

    pub mapped_stmts : Stmts → Stmts
    mapped_stmts s.done = s.done
    mapped_stmts (s.next x xs) = s.next (mapped_stmt x) (mapped_stmts xs)

    pub mapped_arms : Arms → Arms
    mapped_arms s.no_arms = s.no_arms
    mapped_arms (s.arm tick vs b at rest) =
        s.arm (mapped_name tick) (mapped_names vs) (mapped_block b) (go at) (mapped_arms rest)

  abbrev pub mapped_set_state : SetState → SetState
  mapped_set_state x = record { name = mapped_name x.name; above = x.above }

  abbrev pub mapped_header_key : HeaderKey → HeaderKey
  mapped_header_key p = record { key = mapped_name p.key; key_type = option_map mapped_name p.key_type }

  abbrev pub mapped_field : Field → Field
  mapped_field f = record {
    ty = mapped_ty f.ty;
    name = mapped_name f.name;
    states = option_map mapped_states f.states;
    at = go f.at;
  }

  abbrev pub mapped_case : Case → Case
  mapped_case c = record {
    name = mapped_name c.name;
    payload = map mapped_ty c.payload;
    keys = map mapped_key_states c.keys;
    at = go c.at;
  }

  abbrev pub mapped_entry : Entry → Entry
  mapped_entry (s.held k) = s.held (mapped_key_states k)
  mapped_entry (s.changed k before after) = s.changed (mapped_name k) (mapped_states before) (mapped_states after)
  mapped_entry (s.bound k v b) = s.bound (mapped_name k) (mapped_name v) (mapped_name b)
  mapped_entry (s.taken k at) = s.taken (mapped_key_states k) (go at)
  mapped_entry (s.given k at) = s.given (mapped_key_states k) (go at)
  mapped_entry (s.fresh k at) = s.fresh (mapped_key_states k) (go at)

  abbrev pub mapped_result : ResultType → ResultType
  mapped_result (s.void at) = s.void (go at)
  mapped_result (s.value t) = s.value (mapped_ty t)

  abbrev pub mapped_parameter : Parameter → Parameter
  mapped_parameter p = record { ty = mapped_ty p.ty; name = mapped_name p.name }

  abbrev pub mapped_head : Head → Head
  mapped_head h = record {
    result_type = mapped_result h.result_type;
    name = mapped_name h.name;
    parameters = map mapped_parameter h.parameters;
    clause = option_map (map mapped_entry) h.clause;
    at = go h.at;
  }

  abbrev pub mapped_decl : Decl → Decl
  mapped_decl (s.stateset n ss at) = s.stateset (mapped_name n) (map mapped_set_state ss) (go at)
  mapped_decl (s.abstract n ss at) = s.abstract (mapped_name n) (option_map mapped_name ss) (go at)
  mapped_decl (s.struct n ps ss fs r at) =
      s.struct (mapped_name n) (map mapped_header_key ps) (option_map mapped_name ss)
      (map mapped_field fs) (option_map mapped_states r) (go at)
  mapped_decl (s.variant n ps cs at) =
      s.variant (mapped_name n) (map mapped_header_key ps) (map mapped_case cs) (go at)
  mapped_decl (s.extern h at) = s.extern (mapped_head h) (go at)
  mapped_decl (s.function h b at) = s.function (mapped_head h) (mapped_block b) (go at)
