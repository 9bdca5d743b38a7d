-- The tokens after a part are no more than those from its start on.
use Rattle.std.proofs.Common.{◌≤◌, ℕ, suc, List, [], ◌∷◌, length, Some, None, arith}
use Rattle.vlt_tokens.specs.declared.token.Mark.{Mark}
use Rattle.vlt_syntax.specs.Tokens.{Token}
use Rattle.vlt_syntax.specs.Tree as s
use Rattle.vlt_syntax.specs.Tree.{Stmt, Block, If}
use Rattle.vlt_syntax.specs.Lists.{each_then, further_then, listed_then, enclosed_then}
use Rattle.vlt_syntax.specs.Spelling.{name_then, marked_name_then, states_then, at_states_then, key_states_then, named_then, ty_then, expr_then, build_then, call_then, init_then, owner_then, right_then, returned_then, condition_then, stmt_then, block_then, if_then, else_then, stmts_then, arms_then, further_states_then, set_states_then, header_key_then, header_then, field_then, release_then, case_then, entry_then, result_type_then, parameter_then, clause_then, head_then, decl_then}

abbrev pub Leaves : {X : Type 0} → (X → List Token → List Token) → Type 0
Leaves {X} spell = (x : X) (rest : List Token) → length rest ≤ length (spell x rest)

pub over : {a b c : ℕ} → a ≤ b → b ≤ c → a ≤ c
over x y = omega (arith, x, y)

pub one : {a b : ℕ} → suc a ≤ b → a ≤ b
one x = omega (arith, x)

pub more : {a b : ℕ} → a ≤ b → a ≤ suc b
more x = omega (arith, x)

pub same : (a : ℕ) → a ≤ a
same a = omega arith

pub after_each : {X : Type 0} (spell : X → List Token → List Token) → Leaves spell → Leaves (each_then spell)
after_each spell leaves [] rest = same _
after_each spell leaves (x ∷ xs) rest = over (after_each spell leaves xs rest) (leaves x _)

pub after_further : {X : Type 0} (spell : X → List Token → List Token) → Leaves spell → (m : Mark) → Leaves (further_then spell m)
after_further spell leaves m [] rest = more (same _)
after_further spell leaves m (x ∷ xs) rest = over (after_further spell leaves m xs rest) (more (leaves x _))

pub after_listed : {X : Type 0} (spell : X → List Token → List Token) → Leaves spell → (m : Mark) → Leaves (listed_then spell m)
after_listed spell leaves m [] rest = more (same _)
after_listed spell leaves m (x ∷ xs) rest = over (after_further spell leaves m xs rest) (leaves x _)

pub after_enclosed : {X : Type 0} (spell : X → List Token → List Token) → Leaves spell → (m n : Mark) → Leaves (enclosed_then spell m n)
after_enclosed spell leaves m n [] rest = same _
after_enclosed spell leaves m n (x ∷ xs) rest = more (after_listed spell leaves n (x ∷ xs) rest)

-- ---- names, states and types

pub after_name : Leaves name_then
after_name n rest = more (same _)

pub after_marked_name : (m : Mark) → Leaves (marked_name_then m)
after_marked_name m None rest = same _
after_marked_name m (Some n) rest = more (more (same _))

pub after_states : Leaves states_then
after_states (s.one n) rest = more (same _)
after_states (s.several ns at) rest = more (after_listed name_then after_name _ ns rest)

pub after_at_states : Leaves at_states_then
after_at_states None rest = same _
after_at_states (Some ss) rest = more (after_states ss rest)

pub after_key_states : Leaves key_states_then
after_key_states k rest = more (after_at_states k.states rest)

pub after_named : Leaves named_then
after_named n rest = more (after_enclosed name_then after_name _ _ n.keys rest)

pub after_ty : Leaves ty_then
after_ty (s.int at) rest = more (same _)
after_ty (s.bool at) rest = more (same _)
after_ty (s.tracked k n at) rest = more (more (more (more (after_named n rest))))
after_ty (s.owning ss n at) rest = more (over (after_named n rest) (after_at_states ss _))
after_ty (s.guarded k n) rest = more (more (after_named n rest))
after_ty (s.plain n) rest = after_named n rest

-- ---- expressions and right sides

pub after_expr : Leaves expr_then
after_expr (s.number z at) rest = more (same _)
after_expr (s.true at) rest = more (same _)
after_expr (s.false at) rest = more (same _)
after_expr (s.variable x) rest = more (same _)
after_expr (s.field x f) rest = more (more (more (same _)))
after_expr (s.group e at) rest = more (one (after_expr e _))
after_expr (s.unary o e at) rest = more (after_expr e rest)
after_expr (s.binary o l r at) rest = over (more (after_expr r rest)) (after_expr l _)

pub after_build : Leaves build_then
after_build b rest = more (after_enclosed expr_then after_expr _ _ b.payload rest)

pub after_call : Leaves call_then
after_call c rest = more (more (after_listed expr_then after_expr _ c.arguments rest))

pub after_init : Leaves init_then
after_init i rest = more (more (after_expr i.value rest))

pub after_owner : Leaves owner_then
after_owner None rest = same _
after_owner (Some r) rest = more (more (more (same _)))

pub after_right : Leaves right_then
after_right (s.value e) rest = after_expr e rest
after_right (s.build b) rest = after_build b rest
after_right (s.call c) rest = after_call c rest
after_right (s.input at) rest = more (more (more (same _)))
after_right (s.more at) rest = more (more (more (same _)))
after_right (s.make r n fs at) rest = more (over (over (more (after_listed init_then after_init _ fs rest)) (after_named n _)) (after_owner r _))
after_right (s.adopt x r at) rest = more (more (more (more (same _))))

pub after_returned : Leaves returned_then
after_returned s.nothing rest = same _
after_returned (s.value e) rest = after_expr e rest
after_returned (s.build b) rest = after_build b rest

pub after_condition : Leaves condition_then
after_condition e rest = more (one (after_expr e _))

-- ---- statements: each has a token of its own

mutual
  pub past_stmt : (x : Stmt) (rest : List Token) → suc (length rest) ≤ length (stmt_then x rest)
  past_stmt (s.declare t x v at) rest = over (more (more (after_right v _))) (after_ty t _)
  past_stmt (s.assign x v at) rest = more (more (after_right v _))
  past_stmt (s.put x f e at) rest = more (more (more (more (after_expr e _))))
  past_stmt (s.call c at) rest = after_call c _
  past_stmt (s.print e at) rest = more (after_condition e _)
  past_stmt (s.block b) rest = past_block b rest
  past_stmt (s.choose i) rest = past_if i rest
  past_stmt (s.loop e b at) rest = more (over (past_block b rest) (after_condition e _))
  past_stmt (s.break at) rest = more (same _)
  past_stmt (s.continue at) rest = more (same _)
  past_stmt (s.return v at) rest = more (after_returned v _)
  past_stmt (s.switch x arms at) rest = more (more (more (more (more (after_arms arms _)))))
  past_stmt (s.release x at) rest = more (more (same _))
  past_stmt (s.become x t at) rest = more (more (more (more (same _))))
  past_stmt (s.swap x f v at) rest = more (more (more (more (more (more (same _))))))
  past_stmt (s.open_into x vs at) rest = more (more (more (more (after_listed name_then after_name _ vs _))))
  past_stmt (s.focus x k z b at) rest = more (more (more (more (more (more (more (more (past_block b rest))))))))

  pub past_block : (b : Block) (rest : List Token) → suc (length rest) ≤ length (block_then b rest)
  past_block (s.braced ss at) rest = more (after_stmts ss _)

  pub past_if : (i : If) (rest : List Token) → suc (length rest) ≤ length (if_then i rest)
  past_if (s.choice e b other at) rest = more (over (over (next (after_else other rest)) (past_block b _)) (after_condition e _))
    where
      next : {a c : ℕ} → a ≤ c → suc a ≤ suc c
      next x = omega (arith, x)

  pub after_else : Leaves else_then
  after_else s.nothing rest = same _
  after_else (s.last b) rest = more (one (past_block b rest))
  after_else (s.chained i) rest = more (one (past_if i rest))

  pub after_stmts : Leaves stmts_then
  after_stmts s.done rest = same _
  after_stmts (s.next x xs) rest = over (after_stmts xs rest) (one (past_stmt x _))

  pub after_arms : Leaves arms_then
  after_arms s.no_arms rest = same _
  after_arms (s.arm c vs b at others) rest = more (more (over (over (over (after_arms others rest) (one (past_block b _))) (more (same _))) (after_enclosed name_then after_name _ _ vs _)))

-- ---- declarations

after_further_states : Leaves further_states_then
after_further_states [] rest = more (same _)
after_further_states (x ∷ xs) rest = more (more (after_further_states xs rest))

after_set_states : Leaves set_states_then
after_set_states [] rest = more (same _)
after_set_states (x ∷ xs) rest = more (after_further_states xs rest)

pub after_header_key : Leaves header_key_then
after_header_key p rest = more (after_marked_name _ p.key_type rest)

pub after_header : Leaves header_then
after_header ps rest = after_enclosed header_key_then after_header_key _ _ ps rest

pub after_field : Leaves field_then
after_field f rest = over (over (more (same _)) (more (after_at_states f.states _))) (after_ty f.ty _)

pub after_release : Leaves release_then
after_release None rest = same _
after_release (Some ss) rest = more (one (after_states ss _))

pub after_case : Leaves case_then
after_case c rest = more (over (after_enclosed key_states_then after_key_states _ _ c.keys rest) (after_enclosed ty_then after_ty _ _ c.payload _))

pub after_entry : Leaves entry_then
after_entry (s.held k) rest = after_key_states k rest
after_entry (s.changed k a b) rest = more (more (over (more (after_states b rest)) (after_states a _)))
after_entry (s.bound k v b) rest = more (more (more (more (more (more (more (same _)))))))
after_entry (s.taken k at) rest = more (after_key_states k rest)
after_entry (s.given k at) rest = more (after_key_states k rest)
after_entry (s.fresh k at) rest = more (after_key_states k rest)

pub after_result_type : Leaves result_type_then
after_result_type (s.void at) rest = more (same _)
after_result_type (s.value t) rest = after_ty t rest

pub after_parameter : Leaves parameter_then
after_parameter p rest = one (after_ty p.ty _)

pub after_clause : Leaves clause_then
after_clause None rest = same _
after_clause (Some es) rest = more (after_listed entry_then after_entry _ es rest)

pub after_head : Leaves head_then
after_head h rest = over (more (more (over (after_clause h.clause rest) (after_listed parameter_then after_parameter _ h.parameters _)))) (after_result_type h.result_type _)

pub after_decl : Leaves decl_then
after_decl (s.stateset n ss at) rest = more (more (more (after_set_states ss rest)))
after_decl (s.abstract n ss at) rest = more (more (one (after_marked_name _ ss _)))
after_decl (s.struct n ps ss fs r at) rest =
    more (more (over (over (more (over (over (more (same _)) (after_release r _)) (after_each field_then after_field fs _))) (after_marked_name _ ss _)) (after_header ps _)))
after_decl (s.variant n ps cs at) rest = more (more (over (more (after_listed case_then after_case _ cs rest)) (after_header ps _)))
after_decl (s.extern x at) rest = more (one (after_head x _))
after_decl (s.function x b at) rest = over (one (past_block b rest)) (after_head x _)
