-- A fact that each token of a part of a tree has, and each one after it: the tokens after the part have it.
use Rattle.std.proofs.Common.{List, [], ◌∷◌, Some, None}
use Rattle.vlt_tokens.specs.declared.token.Mark.{Mark}
use Rattle.vlt_syntax.specs.Tokens.{Token}
use Rattle.vlt_syntax.specs.Tree as s
use Rattle.vlt_syntax.specs.Lists.{Each, each_then, further_then, listed_then, enclosed_then}
use Rattle.vlt_syntax.specs.Spelling.{name_then, marked_name_then, states_then, at_states_then, key_states_then, named_then, ty_then, expr_then, build_then, call_then, init_then, owner_then, right_then, returned_then, condition_then, stmt_then, block_then, if_then, else_then, stmts_then, arms_then, further_states_then, set_states_then, header_key_then, header_then, field_then, release_then, case_then, entry_then, result_type_then, parameter_then, clause_then, head_then, decl_then}

module _ (P : Token → Type 0) where
  -- the tokens after such a part have the fact, where all from its start on have it
  abbrev pub Leaves : {X : Type 0} → (X → List Token → List Token) → Type 0
  Leaves {X} spell = (x : X) (rest : List Token) → Each P (spell x rest) → Each P rest

  -- the part is spelled by tokens that have the fact
  abbrev pub Spells : {X : Type 0} → (X → List Token → List Token) → X → Type 0
  Spells spell x = (rest : List Token) × Each P (spell x rest)

  -- ---- lists

  pub after_each : {X : Type 0} (spell : X → List Token → List Token) → Leaves spell → Leaves (each_then spell)
  after_each spell leaves [] rest h = h
  after_each spell leaves (x ∷ xs) rest h = after_each spell leaves xs rest (leaves x _ h)

  pub after_further : {X : Type 0} (spell : X → List Token → List Token) → Leaves spell → (m : Mark) → Leaves (further_then spell m)
  after_further spell leaves m [] rest h = h.1
  after_further spell leaves m (x ∷ xs) rest h = after_further spell leaves m xs rest (leaves x _ h.1)

  pub after_listed : {X : Type 0} (spell : X → List Token → List Token) → Leaves spell → (m : Mark) → Leaves (listed_then spell m)
  after_listed spell leaves m [] rest h = h.1
  after_listed spell leaves m (x ∷ xs) rest h = after_further spell leaves m xs rest (leaves x _ h)

  pub after_enclosed : {X : Type 0} (spell : X → List Token → List Token) → Leaves spell → (m n : Mark) → Leaves (enclosed_then spell m n)
  after_enclosed spell leaves m n [] rest h = h
  after_enclosed spell leaves m n (x ∷ xs) rest h = after_listed spell leaves n (x ∷ xs) rest h.1

  pub each_further : {X : Type 0} (spell : X → List Token → List Token) → Leaves spell → (m : Mark) (xs : List X) (rest : List Token) → Each P (further_then spell m xs rest) → Each (Spells spell) xs
  each_further spell leaves m [] rest h = tt
  each_further spell leaves m (x ∷ xs) rest h = ((_, h.1), each_further spell leaves m xs rest (leaves x _ h.1))

  pub each_listed : {X : Type 0} (spell : X → List Token → List Token) → Leaves spell → (m : Mark) (xs : List X) (rest : List Token) → Each P (listed_then spell m xs rest) → Each (Spells spell) xs
  each_listed spell leaves m [] rest h = tt
  each_listed spell leaves m (x ∷ xs) rest h = ((_, h), each_further spell leaves m xs rest (leaves x _ h))

  pub each_enclosed : {X : Type 0} (spell : X → List Token → List Token) → Leaves spell → (m n : Mark) (xs : List X) (rest : List Token) → Each P (enclosed_then spell m n xs rest) → Each (Spells spell) xs
  each_enclosed spell leaves m n [] rest h = tt
  each_enclosed spell leaves m n (x ∷ xs) rest h = each_listed spell leaves n (x ∷ xs) rest h.1

  -- ---- names and states

  pub after_name : Leaves name_then
  after_name n rest h = h.1

  pub after_marked_name : (m : Mark) → Leaves (marked_name_then m)
  after_marked_name m None rest h = h
  after_marked_name m (Some n) rest h = h.1.1

  pub after_states : Leaves states_then
  after_states (s.one n) rest h = h.1
  after_states (s.several ns at) rest h = after_listed name_then after_name _ ns rest h.1

  pub after_at_states : Leaves at_states_then
  after_at_states None rest h = h
  after_at_states (Some ss) rest h = after_states ss rest h.1

  pub after_key_states : Leaves key_states_then
  after_key_states k rest h = after_at_states k.states rest h.1

  -- ---- types

  pub after_named : Leaves named_then
  after_named n rest h = after_enclosed name_then after_name _ _ n.keys rest h.1

  pub after_ty : Leaves ty_then
  after_ty (s.int at) rest h = h.1
  after_ty (s.bool at) rest h = h.1
  after_ty (s.tracked k n at) rest h = after_named n rest h.1.1.1.1
  after_ty (s.owning ss n at) rest h = after_named n rest (after_at_states ss _ h.1)
  after_ty (s.guarded k n) rest h = after_named n rest h.1.1
  after_ty (s.plain n) rest h = after_named n rest h

  -- ---- expressions and right sides

  pub after_expr : Leaves expr_then
  after_expr (s.number z at) rest h = h.1
  after_expr (s.true at) rest h = h.1
  after_expr (s.false at) rest h = h.1
  after_expr (s.variable x) rest h = h.1
  after_expr (s.field x f) rest h = h.1.1.1
  after_expr (s.group e at) rest h = (after_expr e _ h.1).1
  after_expr (s.unary o e at) rest h = after_expr e rest h.1
  after_expr (s.binary o l r at) rest h = after_expr r rest (after_expr l _ h).1

  pub after_build : Leaves build_then
  after_build b rest h = after_enclosed expr_then after_expr _ _ b.payload rest h.1

  pub after_call : Leaves call_then
  after_call c rest h = after_listed expr_then after_expr _ c.arguments rest h.1.1

  pub after_init : Leaves init_then
  after_init i rest h = after_expr i.value rest h.1.1

  pub after_owner : Leaves owner_then
  after_owner None rest h = h
  after_owner (Some r) rest h = h.1.1.1

  pub after_right : Leaves right_then
  after_right (s.value e) rest h = after_expr e rest h
  after_right (s.build b) rest h = after_build b rest h
  after_right (s.call c) rest h = after_call c rest h
  after_right (s.input at) rest h = h.1.1.1
  after_right (s.more at) rest h = h.1.1.1
  after_right (s.make r n fs at) rest h = after_listed init_then after_init _ fs rest (after_named n _ (after_owner r _ h.1)).1
  after_right (s.adopt x r at) rest h = h.1.1.1.1

  pub after_returned : Leaves returned_then
  after_returned s.nothing rest h = h
  after_returned (s.value e) rest h = after_expr e rest h
  after_returned (s.build b) rest h = after_build b rest h

  pub after_condition : Leaves condition_then
  after_condition e rest h = (after_expr e _ h.1).1

  -- ---- statements

  mutual
    pub after_stmt : Leaves stmt_then
    after_stmt (s.declare t x v at) rest h = (after_right v _ (after_ty t _ h).1.1).1
    after_stmt (s.assign x v at) rest h = (after_right v _ h.1.1).1
    after_stmt (s.put x f e at) rest h = (after_expr e _ h.1.1.1.1).1
    after_stmt (s.call c at) rest h = (after_call c _ h).1
    after_stmt (s.print e at) rest h = (after_condition e _ h.1).1
    after_stmt (s.block b) rest h = after_block b rest h
    after_stmt (s.choose i) rest h = after_if i rest h
    after_stmt (s.loop e b at) rest h = after_block b rest (after_condition e _ h.1)
    after_stmt (s.break at) rest h = h.1.1
    after_stmt (s.continue at) rest h = h.1.1
    after_stmt (s.return v at) rest h = (after_returned v _ h.1).1
    after_stmt (s.switch x arms at) rest h = (after_arms arms _ h.1.1.1.1.1).1
    after_stmt (s.release x at) rest h = h.1.1.1
    after_stmt (s.become x t at) rest h = h.1.1.1.1.1
    after_stmt (s.swap x f v at) rest h = h.1.1.1.1.1.1.1
    after_stmt (s.open_into x vs at) rest h = (after_listed name_then after_name _ vs _ h.1.1.1.1).1
    after_stmt (s.focus x k z b at) rest h = after_block b rest h.1.1.1.1.1.1.1.1

    pub after_block : Leaves block_then
    after_block (s.braced ss at) rest h = (after_stmts ss _ h.1).1

    pub after_if : Leaves if_then
    after_if (s.choice e b other at) rest h = after_else other rest (after_block b _ (after_condition e _ h.1))

    pub after_else : Leaves else_then
    after_else s.nothing rest h = h
    after_else (s.last b) rest h = after_block b rest h.1
    after_else (s.chained i) rest h = after_if i rest h.1

    pub after_stmts : Leaves stmts_then
    after_stmts s.done rest h = h
    after_stmts (s.next x xs) rest h = after_stmts xs rest (after_stmt x _ h)

    pub after_arms : Leaves arms_then
    after_arms s.no_arms rest h = h
    after_arms (s.arm c vs b at more) rest h =
        after_arms more rest (after_block b _ (after_enclosed name_then after_name _ _ vs _ h.1.1).1)

  -- ---- declarations

  after_further_states : Leaves further_states_then
  after_further_states [] rest h = h.1
  after_further_states (x ∷ xs) rest h = after_further_states xs rest h.1.1

  pub after_set_states : Leaves set_states_then
  after_set_states [] rest h = h.1
  after_set_states (x ∷ xs) rest h = after_further_states xs rest h.1

  pub after_header_key : Leaves header_key_then
  after_header_key p rest h = after_marked_name _ p.key_type rest h.1

  pub after_header : Leaves header_then
  after_header ps rest h = after_enclosed header_key_then after_header_key _ _ ps rest h

  pub after_field : Leaves field_then
  after_field f rest h = (after_at_states f.states _ (after_ty f.ty _ h).1).1

  pub after_release : Leaves release_then
  after_release None rest h = h
  after_release (Some ss) rest h = (after_states ss _ h.1).1

  pub after_case : Leaves case_then
  after_case c rest h = after_enclosed key_states_then after_key_states _ _ c.keys rest (after_enclosed ty_then after_ty _ _ c.payload _ h.1)

  pub after_entry : Leaves entry_then
  after_entry (s.held k) rest h = after_key_states k rest h
  after_entry (s.changed k a b) rest h = after_states b rest (after_states a _ h.1.1).1
  after_entry (s.bound k v b) rest h = h.1.1.1.1.1.1.1
  after_entry (s.taken k at) rest h = after_key_states k rest h.1
  after_entry (s.given k at) rest h = after_key_states k rest h.1
  after_entry (s.fresh k at) rest h = after_key_states k rest h.1

  pub after_result_type : Leaves result_type_then
  after_result_type (s.void at) rest h = h.1
  after_result_type (s.value t) rest h = after_ty t rest h

  pub after_parameter : Leaves parameter_then
  after_parameter p rest h = (after_ty p.ty _ h).1

  pub after_clause : Leaves clause_then
  after_clause None rest h = h
  after_clause (Some es) rest h = after_listed entry_then after_entry _ es rest h.1

  pub after_head : Leaves head_then
  after_head h rest m =
      after_clause h.clause rest (after_listed parameter_then after_parameter _ h.parameters _ (after_result_type h.result_type _ m).1.1)

  pub after_decl : Leaves decl_then
  after_decl (s.stateset n ss at) rest h = after_set_states ss rest h.1.1.1
  after_decl (s.abstract n ss at) rest h = (after_marked_name _ ss _ h.1.1).1
  after_decl (s.struct n ps ss fs r at) rest h =
      (after_release r _ (after_each field_then after_field fs _ (after_marked_name _ ss _ (after_header ps _ h.1.1)).1)).1
  after_decl (s.variant n ps cs at) rest h = after_listed case_then after_case _ cs rest (after_header ps _ h.1.1).1
  after_decl (s.extern x at) rest h = (after_head x _ h.1).1
  after_decl (s.function x b at) rest h = after_block b rest (after_head x _ h)
