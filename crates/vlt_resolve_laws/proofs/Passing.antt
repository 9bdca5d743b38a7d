-- A test that what each expression of a tree becomes passes, all expressions of the elaborated program pass. The tree's
-- expressions are those of the language whose tokens have a fact.
use Rattle.std.proofs.Common.{◌≡◌, ℕ, ◌-◌, Bool, true, false, ◌&&◌, if◌then◌else◌, List, [], ◌∷◌, ◌++◌, length, Option, Some, None, Ok, refl, subst}
use Rattle.vlt_syntax.specs.Tokens.{Token}
use Rattle.vlt_syntax.specs.Tree as s
use Rattle.vlt_syntax.specs.Tree.{Name, Init, Right, Stmt, Block, Else, Stmts, Arms, Decl, Tree}
use Rattle.vlt_syntax.specs.Lists.{Each, each_then}
use Rattle.vlt_syntax.specs.Spelling.{name_then, expr_then, build_then, call_then, init_then, right_then, returned_then, condition_then, stmt_then, block_then, else_then, stmts_then, arms_then, decl_then, spelling}
use Rattle.vlt_syntax.specs.Grammar.{language, IsExpr, IsInit, IsBuild, IsCall, IsRight, IsReturned, IsStmt, IsBlock, IsElse, AreStmts, AreArms, IsDecl}
use Rattle.vlt_syntax_laws.proofs.Tokenwise.{Spells, each_listed, each_enclosed, after_name, after_enclosed, after_named, after_ty, after_expr, after_init, after_owner, after_condition, after_block, after_stmt, after_head, after_decl}
use Rattle.vlt_core.specs.Core as core
use Rattle.vlt_core.specs.Core.{States, Ty, bool, Operand, Form, Func, Program}
use Rattle.vlt_core.specs.Lookups.{is_owning}
use Rattle.vlt_core.specs.Proper.{all_in_operand, all_in_operands, all_in_simple, all_in_form, all_in_block, all_in, all_in_arms, AllPass}
use Rattle.vlt_core.specs.View.{stmts_made, arms_made}
use Rattle.vlt_kinds_types.specs.declared.names.found.Refusal.{Refusal}
use Rattle.vlt_kinds_types.specs.Names.Refusals.{least, least_from}
use Rattle.vlt_resolve_laws.proofs.OfKindsLaws.Rows.{each_at}
use Rattle.vlt_kinds_types.specs.Kinds.{Kinds, head_named, function_named}
use Rattle.vlt_resolve_exprs.specs.Scopes.{Scope, var_ty, scope_inside, scope_after}
use Rattle.vlt_resolve_exprs.specs.Exprs.{wanted_refused, type_of, core_expr, var_number, number_of}
use Rattle.vlt_resolve_exprs.specs.Operands.{object_operand, operand_for, core_operand, core_operands, variable_in}
use Rattle.vlt_resolve_exprs.specs.Targets.{Target, value_form, core_value}
use Rattle.vlt_resolve_calls.specs.Builds.{Case, case_form, case_of_tick, core_build}
use Rattle.vlt_resolve_calls.specs.Calls.{Use, dropped, given, param_types, head_form, callee_form, core_call}
use Rattle.vlt_resolve_rights.specs.News.{init_operands, made_operands, made_forms, new_forms}
use Rattle.vlt_resolve_rights.specs.Adopts.{core_adopt}
use Rattle.vlt_elaboration.specs.Rights.{right_forms}
use Rattle.vlt_elaboration.specs.Around.{Around, inside_loop, inside_focus}
use Rattle.vlt_elaboration.specs.Declarations.{declare_became, keyed_became, hidden_became, declared_became, assign_became}
use Rattle.vlt_elaboration.specs.Statements.{core_put, release_form, core_become, core_swap, opened_parts, opened_became, open_became, hidden_operand, returned_value, returned_build, return_became, simple_refused, simple_became}
use Rattle.vlt_elaboration.specs.Switches.{arm_names, switch_refused, arm_case, arm_refused, arm_scope, arm_numbers, case_number, focus_refused, bound_scope}
use Rattle.vlt_elaboration.specs.Blocks.{block_ends, closing, else_closing, ends, stmt_place}
use Rattle.vlt_elaboration.specs.Walk.{late, placed_at, block_made, walk_stmts, walk_stmt, walk_block, walk_else, walk_arms, walk_arm, walk_simple}
use Rattle.vlt_elaboration.specs.Elaboration.{body_scope, body_around, head_refused, end_refused, last_return, func_made, walk_body, walk_function, walk_decls, walk_tree, elaborated}
use Rattle.vlt_resolve_laws.proofs.Results.{same_ok, then_ok, unless_ok}
use Rattle.vlt_resolve_laws.proofs.Made.{told_ok}

pub both : (a b : Bool) → a ≡ true → b ≡ true → (a && b) ≡ true
both true b e f = f
both false b e f = e

module _ (P : Token → Type 0) (test : core.Expr → Bool) where
  -- what such an expression becomes passes
  abbrev pub PassExprs : Type 0
  PassExprs = (kinds : Kinds) (scope : Scope) (e : s.Expr) → IsExpr language e → Spells P expr_then e → test (core_expr kinds scope e) ≡ true

module _ (P : Token → Type 0) (test : core.Expr → Bool) (var_right : (v : ℕ) → test (core.var v) ≡ true) (expr_right : PassExprs P test) where
  -- ---- operands

  object_right : (states : States) (got : Option Ty) (v : ℕ) → all_in_operand test (object_operand states got v) ≡ true
  object_right states None v = refl
  object_right states (Some core.int) v = refl
  object_right states (Some core.bool) v = refl
  object_right states (Some (core.tracked k t args)) v = refl
  object_right states (Some (core.owning o t args)) v = refl
  object_right states (Some (core.guarded k t args)) v = refl
  object_right states (Some (core.variant t args)) v = refl
  object_right states (Some (core.owning_variant t args)) v = refl

  for_right : (w : Ty) (got : Option Ty) (e : core.Expr) → test e ≡ true → all_in_operand test (operand_for w got e) ≡ true
  unfolding operand_for
  for_right core.int got e h = h
  for_right core.bool got e h = h
  for_right (core.tracked k t args) got e h = h
  for_right (core.owning o t args) got e h = object_right o got (variable_in e)
  for_right (core.guarded k t args) got e h = h
  for_right (core.variant t args) got e h = h
  for_right (core.owning_variant t args) got e h = refl

  operand_right : (kinds : Kinds) (scope : Scope) (w : Ty) (e : s.Expr) → IsExpr language e → Spells P expr_then e → all_in_operand test (core_operand kinds scope w e) ≡ true
  unfolding core_operand
  operand_right kinds scope w e g h = for_right w (type_of kinds scope e) (core_expr kinds scope e) (expr_right kinds scope e g h)

  operands_right : (kinds : Kinds) (scope : Scope) (es : List s.Expr) (ws : List Ty) → Each (IsExpr language) es → Each (Spells P expr_then) es → all_in_operands test (core_operands kinds scope es ws) ≡ true
  operands_right kinds scope [] ws g h = refl
  operands_right kinds scope (e ∷ es) [] g h = refl
  operands_right kinds scope (e ∷ es) (w ∷ ws) g h =
      both (all_in_operand test (core_operand kinds scope w e)) (all_in_operands test (core_operands kinds scope es ws)) (operand_right kinds scope w e g.0 h.0) (operands_right kinds scope es ws g.1 h.1)

  inits_right : (kinds : Kinds) (scope : Scope) (is : List Init) (ws : List Ty) → Each (IsInit language) is → Each (Spells P init_then) is → all_in_operands test (init_operands kinds scope is ws) ≡ true
  inits_right kinds scope [] ws g h = refl
  inits_right kinds scope (i ∷ is) [] g h = refl
  inits_right kinds scope (i ∷ is) (w ∷ ws) g h =
      both (all_in_operand test (core_operand kinds scope w i.value)) (all_in_operands test (init_operands kinds scope is ws)) (operand_right kinds scope w i.value g.0 (h.0.0, h.0.1.1.1)) (inits_right kinds scope is ws g.1 h.1)

  -- ---- statements without blocks

  abbrev AreRightForms : List Form → Type 0
  AreRightForms = Each (λ f. all_in_form test f ≡ true)

  release_right : (o : Option Ty) (v : ℕ) → all_in_form test (release_form o v) ≡ true
  unfolding release_form
  release_right None v = refl
  release_right (Some core.int) v = refl
  release_right (Some core.bool) v = refl
  release_right (Some (core.tracked k t args)) v = refl
  release_right (Some (core.owning s t args)) v = refl
  release_right (Some (core.guarded k t args)) v = refl
  release_right (Some (core.variant t args)) v = refl
  release_right (Some (core.owning_variant t args)) v = refl

  make_right : (scope : Scope) (ty : Ty) (x hidden : ℕ) (r : Option Name) (args : List Operand) → all_in_operands test args ≡ true → AreRightForms (made_forms scope ty x hidden r args)
  make_right scope ty x hidden (Some r) args h = (h, (refl, tt))
  make_right scope core.int x hidden None args h = (h, tt)
  make_right scope core.bool x hidden None args h = (h, tt)
  make_right scope (core.tracked k t a) x hidden None args h = (h, tt)
  make_right scope (core.owning states t a) x hidden None args h = (h, (refl, tt))
  make_right scope (core.guarded k t a) x hidden None args h = (h, tt)
  make_right scope (core.variant t a) x hidden None args h = (h, tt)
  make_right scope (core.owning_variant t a) x hidden None args h = (h, tt)

  made_right : (kinds : Kinds) (scope : Scope) (n : s.Named) (is : List Init) → Each (IsInit language) is → Each (Spells P init_then) is → all_in_operands test (made_operands kinds scope n is) ≡ true
  unfolding made_operands
  made_right kinds scope n is g h = inits_right kinds scope is _ g h

  value_right : (t : Target) (x : ℕ) (got : Option Ty) (e : core.Expr) → test e ≡ true → all_in_simple test (value_form t x got e) ≡ true
  unfolding value_form
  value_right t x got e h = by t.binds (is_owning t.ty)
    where
      by : (b o : Bool) → all_in_simple test (if b then core.unpack x (variable_in e) else if o then core.own x (operand_for t.ty got e) else core.set x e) ≡ true
      by true o = refl
      by false true = for_right t.ty got e h
      by false false = h

  case_right : (kinds : Kinds) (scope : Scope) (v : ℕ) (c : Option Case) (b : s.Build) → IsBuild language b → Spells P build_then b → all_in_form test (case_form kinds scope v c b) ≡ true
  case_right kinds scope v None b g h = refl
  case_right kinds scope v (Some c) b g h =
      operands_right kinds scope b.payload c.payload g (each_enclosed P expr_then (after_expr P) _ _ b.payload _ h.1.1)

  build_right : (kinds : Kinds) (scope : Scope) (ty : Ty) (v : ℕ) (b : s.Build) → IsBuild language b → Spells P build_then b → all_in_form test (core_build kinds scope ty v b) ≡ true
  unfolding core_build
  build_right kinds scope ty v b g h = case_right kinds scope v (case_of_tick kinds ty b.case) b g h

  callee_right : (kinds : Kinds) (scope : Scope) (g : Option Func) (f : ℕ) (used : Use) (target : Option ℕ) (c : s.Call) → IsCall language c → Spells P call_then c → all_in_form test (callee_form kinds scope g f used target c) ≡ true
  unfolding head_form
  callee_right kinds scope None f used target c g h = refl
  callee_right kinds scope (Some head) f used target c g h =
      operands_right kinds scope c.arguments (param_types head) g (each_listed P expr_then (after_expr P) _ c.arguments _ h.1.1.1)

  call_right : (kinds : Kinds) (scope : Scope) (used : Use) (target : Option ℕ) (c : s.Call) → IsCall language c → Spells P call_then c → all_in_form test (core_call kinds scope used target c) ≡ true
  unfolding core_call
  call_right kinds scope used target c g h = callee_right kinds scope (head_named kinds c.function) (number_of (function_named kinds c.function)) used target c g h

  right_right : (kinds : Kinds) (scope : Scope) (t : Option Target) (x hidden : ℕ) (right : Right) → IsRight language right → Spells P right_then right → AreRightForms (right_forms kinds scope t x hidden right)
  unfolding right_forms core_value new_forms core_adopt
  right_right kinds scope None x hidden right g h = tt
  right_right kinds scope (Some t) x hidden (s.value e) g h = (value_right t x (type_of kinds scope e) (core_expr kinds scope e) (expr_right kinds scope e g h), tt)
  right_right kinds scope (Some t) x hidden (s.build b) g h = (build_right kinds scope t.ty x b g h, tt)
  right_right kinds scope (Some t) x hidden (s.call c) g h = (call_right kinds scope (given t) (Some x) c g h, tt)
  right_right kinds scope (Some t) x hidden (s.input at) g h = (refl, tt)
  right_right kinds scope (Some t) x hidden (s.more at) g h = (refl, tt)
  right_right kinds scope (Some t) x hidden (s.make r n is at) g h =
      make_right scope t.ty x hidden r (made_operands kinds scope n is)
      (made_right kinds scope n is g (each_listed P init_then (after_init P) _ is _ (after_named P n _ (after_owner P r _ h.1.1)).1))
  right_right kinds scope (Some t) x hidden (s.adopt y r at) g h = (refl, tt)

  opened_right : (scope : Scope) (o : Option (List Ty)) (x : Name) (vs : List Name) → AreRightForms (opened_became scope o x vs).0
  opened_right scope None x vs = tt
  opened_right scope (Some ws) x vs = (refl, tt)

  hidden_right : (w : Ty) (v : ℕ) → all_in_operand test (hidden_operand w v) ≡ true
  hidden_right w v = by (is_owning w)
    where
      by : (b : Bool) → all_in_operand test (if b then core.move v else core.pure (core.var v)) ≡ true
      by true = refl
      by false = var_right v

  returned_right : (kinds : Kinds) (around : Around) (scope : Scope) (r : s.Returned) → IsReturned language r → Spells P returned_then r → AreRightForms (return_became kinds around scope r).0
  unfolding return_became
  returned_right kinds around scope s.nothing g h = (refl, tt)
  returned_right kinds around scope (s.value e) g h = by around.result
    where
      by : (o : Option Ty) → AreRightForms (returned_value kinds scope o e)
      by None = tt
      by (Some w) = (operand_right kinds scope w e g h, tt)
  returned_right kinds around scope (s.build b) g h = by around.result
    where
      by : (o : Option Ty) → AreRightForms (returned_build kinds scope o b).0
      by None = tt
      by (Some w) = (build_right kinds _ w (length scope.vars) b g h, (hidden_right w (length scope.vars), tt))

  plain_right : (kinds : Kinds) (around : Around) (scope : Scope) (room : ℕ) (x : Stmt) → IsStmt language room x → Spells P stmt_then x → AreRightForms (simple_became kinds around scope x).0
  unfolding declare_became keyed_became hidden_became declared_became assign_became core_put core_become core_swap open_became
  plain_right kinds around scope room (s.declare t x right at) g h = right_right kinds _ _ _ _ right g.1 (_, (after_ty P t _ h.1).1.1)
  plain_right kinds around scope room (s.assign x right at) g h = right_right kinds _ _ _ _ right g (_, h.1.1.1)
  plain_right kinds around scope room (s.put x f e at) g h = (expr_right kinds scope e g (_, h.1.1.1.1.1), tt)
  plain_right kinds around scope room (s.call c at) g h = (call_right kinds scope (dropped at.from) None c g (_, h.1), tt)
  plain_right kinds around scope room (s.print e at) g h = (expr_right kinds scope e g (_, h.1.1.1), tt)
  plain_right kinds around scope room (s.break at) g h = (refl, tt)
  plain_right kinds around scope room (s.continue at) g h = (refl, tt)
  plain_right kinds around scope room (s.return r at) g h = returned_right kinds around scope r g (_, h.1.1)
  plain_right kinds around scope room (s.release x at) g h = (release_right (var_ty scope x.text) (var_number scope x), tt)
  plain_right kinds around scope room (s.become x n at) g h = (refl, tt)
  plain_right kinds around scope room (s.swap x f v at) g h = (refl, tt)
  plain_right kinds around scope room (s.open_into x vs at) g h = opened_right scope (opened_parts kinds (var_ty scope x.text)) x vs
  plain_right kinds around scope room (s.block b) g h = tt
  plain_right kinds around scope room (s.choose i) g h = tt
  plain_right kinds around scope room (s.loop e b at) g h = tt
  plain_right kinds around scope room (s.switch x arms at) g h = tt
  plain_right kinds around scope room (s.focus y k z b at) g h = tt

  -- ---- lists

  abbrev AreRightStmts : core.Stmts → Type 0
  AreRightStmts ss = all_in test ss ≡ true

  placed_right : (at : ℕ) (fs : List Form) → AreRightForms fs → AreRightStmts (stmts_made (placed_at at fs))
  placed_right at [] e = refl
  placed_right at (f ∷ fs) e = both (all_in_form test f) (all_in test (stmts_made (placed_at at fs))) e.0 (placed_right at fs e.1)

  joined_right : (xs ys : List (ℕ × Form)) → AreRightStmts (stmts_made xs) → AreRightStmts (stmts_made ys) → AreRightStmts (stmts_made (xs ++ ys))
  joined_right [] ys x y = y
  joined_right (z ∷ xs) ys x y = by (all_in_form test z.1) x (λ k. joined_right xs ys k y)
    where
      by : (b : Bool) → (b && all_in test (stmts_made xs)) ≡ true → (all_in test (stmts_made xs) ≡ true → all_in test (stmts_made (xs ++ ys)) ≡ true)
          → (b && all_in test (stmts_made (xs ++ ys))) ≡ true
      by true x more = more x
      by false x more = x

  -- ---- statements with blocks

  module _ (kinds : Kinds) where
    simple_right : (around : Around) (scope : Scope) (room : ℕ) (found : Option Refusal) (x : Stmt) (r : List Form × Scope) → IsStmt language room x → Spells P stmt_then x → walk_simple kinds around scope found x ≡ Ok r → AreRightForms r.0
    simple_right around scope room found x r g h e =
        let u = unless_ok (least_from found (simple_refused kinds around scope x)) (Ok (simple_became kinds around scope x)) r e in
        subst (λ z. AreRightForms z.0) (same_ok (simple_became kinds around scope x) r u.1) (plain_right kinds around scope room x g h)

    -- what stands in the parentheses of an `if` or a `while`
    wanted_right : (scope : Scope) (w : s.Expr) → IsExpr language w → Spells P condition_then w → test (core_expr kinds scope w) ≡ true
    wanted_right scope w g h = expr_right kinds scope w g (_, h.1.1)

    mutual
      stmts_right : (around : Around) (scope : Scope) (room : ℕ) (ended : Bool) (xs : Stmts) (r : List (ℕ × Form) × Scope) → AreStmts language room xs → Spells P stmts_then xs → walk_stmts kinds around scope ended xs ≡ Ok r → AreRightStmts (stmts_made r.0)
      stmts_right around scope room ended s.done r g h e = subst (λ z. AreRightStmts (stmts_made z.0)) (same_ok ([], scope) r e) refl
      stmts_right around scope room ended (s.next x xs) r g h e =
          let a = then_ok (walk_stmt kinds around scope (late ended x) x) _ r e in
          let c = then_ok (walk_stmts kinds around a.first.1 (ends x) xs) _ r a.rest in
          subst (λ z. AreRightStmts (stmts_made z.0)) (same_ok (placed_at (stmt_place x) a.first.0 ++ c.first.0, c.first.1) r c.rest)
          (joined_right (placed_at (stmt_place x) a.first.0) c.first.0 (placed_right (stmt_place x) a.first.0 (stmt_right around scope room (late ended x) x a.first g.0 (_, h.1) a.one))
          (stmts_right around a.first.1 room (ends x) xs c.first g.1 (_, after_stmt P x _ h.1) c.one))

      stmt_right : (around : Around) (scope : Scope) (room : ℕ) (found : Option Refusal) (x : Stmt) (r : List Form × Scope) → IsStmt language room x → Spells P stmt_then x → walk_stmt kinds around scope found x ≡ Ok r → AreRightForms r.0
      stmt_right around scope room found (s.declare t v w at) r g h e = simple_right around scope room found (s.declare t v w at) r g h e
      stmt_right around scope room found (s.assign v w at) r g h e = simple_right around scope room found (s.assign v w at) r g h e
      stmt_right around scope room found (s.put v i w at) r g h e = simple_right around scope room found (s.put v i w at) r g h e
      stmt_right around scope room found (s.call c at) r g h e = simple_right around scope room found (s.call c at) r g h e
      stmt_right around scope room found (s.print w at) r g h e = simple_right around scope room found (s.print w at) r g h e
      stmt_right around scope room found (s.break at) r g h e = simple_right around scope room found (s.break at) r g h e
      stmt_right around scope room found (s.continue at) r g h e = simple_right around scope room found (s.continue at) r g h e
      stmt_right around scope room found (s.return v at) r g h e = simple_right around scope room found (s.return v at) r g h e
      stmt_right around scope room found (s.release v at) r g h e = simple_right around scope room found (s.release v at) r g h e
      stmt_right around scope room found (s.become v t at) r g h e = simple_right around scope room found (s.become v t at) r g h e
      stmt_right around scope room found (s.swap v i w at) r g h e = simple_right around scope room found (s.swap v i w at) r g h e
      stmt_right around scope room found (s.open_into v ws at) r g h e = simple_right around scope room found (s.open_into v ws at) r g h e
      stmt_right around scope room found (s.block b) r g h e =
          let u = unless_ok found _ r e in
          let a = then_ok (walk_block kinds around scope b) _ r u.1 in
          subst (λ z. AreRightForms z.0) (same_ok (core.scope a.first.0 ∷ [], a.first.1) r a.rest) (block_right around scope room b a.first g h a.one, tt)
      stmt_right around scope room found (s.choose (s.choice w b other at)) r g h e =
          let u = unless_ok (least_from found (wanted_refused kinds scope (Some bool) w)) _ r e in
          let a = then_ok (walk_block kinds around scope b) _ r u.1 in
          let c = then_ok (walk_else kinds around a.first.1 (else_closing (closing b) other) other) _ r a.rest in
          let after = after_condition P w _ h.1.1 in
          subst (λ z. AreRightForms z.0) (same_ok (core.choose (core_expr kinds scope w) a.first.0 c.first.0 ∷ [], c.first.1) r c.rest) (
            both (test (core_expr kinds scope w)) (all_in_block test a.first.0 && all_in_block test c.first.0) (wanted_right scope w g.0 (_, h.1.1))
                (both (all_in_block test a.first.0) (all_in_block test c.first.0) (block_right around scope room b a.first g.1 (_, after) a.one)
                (else_right around a.first.1 room (else_closing (closing b) other) other c.first g.2 (_, after_block P b _ after) c.one)),
            tt,
          )
      stmt_right around scope room found (s.loop w b at) r g h e =
          let u = unless_ok (least_from found (wanted_refused kinds scope (Some bool) w)) _ r e in
          let a = then_ok (walk_block kinds (inside_loop around) scope b) _ r u.1 in
          subst (λ z. AreRightForms z.0) (same_ok (core.loop (core_expr kinds scope w) a.first.0 ∷ [], a.first.1) r a.rest) (
            both (test (core_expr kinds scope w)) (all_in_block test a.first.0) (wanted_right scope w g.0 (_, h.1.1)) (block_right (inside_loop around) scope room b a.first g.1 (_, after_condition P w _ h.1.1) a.one),
            tt,
          )
      stmt_right around scope room found (s.switch x arms at) r g h e =
          let u = unless_ok (least_from found (switch_refused kinds (var_ty scope x.text) x (arm_names arms) at.from)) _ r e in
          let a = then_ok (walk_arms kinds around scope (var_ty scope x.text) arms) _ r u.1 in
          subst (λ z. AreRightForms z.0) (same_ok (core.switch (var_number scope x) (arms_made a.first.0) (at.to - 1) ∷ [], a.first.1) r a.rest)
          (arms_right around scope room (var_ty scope x.text) arms a.first g.1 (_, h.1.1.1.1.1.1) a.one, tt)
      stmt_right around scope room found (s.focus y k z (s.braced ss close) at) r g h e =
          let inside = scope_inside scope in
          let ty = var_ty scope y.text in
          let u = unless_ok (least_from found (focus_refused kinds inside ty y k z)) _ r e in
          let a = then_ok (walk_stmts kinds (inside_focus around) (bound_scope inside ty k z) false ss) _ r u.1 in
          subst (λ z. AreRightForms z.0) (same_ok (core.focus (var_number scope y) (length scope.vars) (block_made a.first (close.to - 1)) ∷ [], scope_after scope a.first.1) r a.rest)
          (stmts_right (inside_focus around) (bound_scope inside ty k z) (room - 1) false ss a.first g.1 (_, h.1.1.1.1.1.1.1.1.1.1) a.one, tt)

      block_right : (around : Around) (scope : Scope) (room : ℕ) (b : Block) (r : core.Block × Scope) → IsBlock language room b → Spells P block_then b → walk_block kinds around scope b ≡ Ok r → all_in_block test r.0 ≡ true
      block_right around scope room (s.braced ss at) r g h e =
          let a = then_ok (walk_stmts kinds around (scope_inside scope) false ss) _ r e in
          subst (λ z. all_in_block test z.0 ≡ true) (same_ok (block_made a.first (at.to - 1), scope_after scope a.first.1) r a.rest) (stmts_right around (scope_inside scope) (room - 1) false ss a.first g.1 (_, h.1.1) a.one)

      else_right : (around : Around) (scope : Scope) (room end : ℕ) (o : Else) (r : core.Block × Scope) → IsElse language room o → Spells P else_then o → walk_else kinds around scope end o ≡ Ok r → all_in_block test r.0 ≡ true
      else_right around scope room end s.nothing r g h e = subst (λ z. all_in_block test z.0 ≡ true) (same_ok (core.block core.done [] end, scope) r e) refl
      else_right around scope room end (s.last b) r g h e = block_right around scope room b r g (_, h.1.1) e
      else_right around scope room end (s.chained (s.choice w b other at)) r g h e =
          let u = unless_ok (least_from None (wanted_refused kinds scope (Some bool) w)) _ r e in
          let a = then_ok (walk_block kinds around scope b) _ r u.1 in
          let c = then_ok (walk_else kinds around a.first.1 end other) _ r a.rest in
          let after = after_condition P w _ h.1.1.1 in
          let here = both (test (core_expr kinds scope w)) (all_in_block test a.first.0 && all_in_block test c.first.0) (wanted_right scope w g.1.0 (_, h.1.1.1))
          (both (all_in_block test a.first.0) (all_in_block test c.first.0) (block_right around scope (room - 1) b a.first g.1.1 (_, after) a.one)
          (else_right around a.first.1 (room - 1) end other c.first g.1.2 (_, after_block P b _ after) c.one)) in
          subst (λ z. all_in_block test z.0 ≡ true) (same_ok (core.block (core.next at.from (core.choose (core_expr kinds scope w) a.first.0 c.first.0) core.done) [] end, c.first.1) r c.rest)
          (both (test (core_expr kinds scope w) && (all_in_block test a.first.0 && all_in_block test c.first.0)) true here refl)

      arms_right : (around : Around) (scope : Scope) (room : ℕ) (ty : Option Ty) (arms : Arms) (r : List (ℕ × List ℕ × core.Block) × Scope) → AreArms language room arms → Spells P arms_then arms → walk_arms kinds around scope ty arms ≡ Ok r → all_in_arms test (arms_made r.0) ≡ true
      arms_right around scope room ty s.no_arms r g h e = subst (λ z. all_in_arms test (arms_made z.0) ≡ true) (same_ok ([], scope) r e) refl
      arms_right around scope room ty (s.arm tick vs (s.braced ss close) at rest) r g h e =
          let c = arm_case kinds ty tick in
          let a = then_ok (walk_arm kinds around scope c tick vs (s.braced ss close)) _ r e in
          let d = then_ok (walk_arms kinds around a.first.1 ty rest) _ r a.rest in
          let u = unless_ok (least_from None (arm_refused kinds (scope_inside scope) c tick vs)) _ a.first a.one in
          let y = then_ok (walk_stmts kinds around (arm_scope (scope_inside scope) c vs) false ss) _ a.first u.1 in
          let body = (after_enclosed P name_then (after_name P) _ _ vs _ h.1.1.1).1 in
          let here : all_in_block test a.first.0.2 ≡ true = subst (λ z. all_in_block test z.0.2 ≡ true) (same_ok ((case_number c, arm_numbers (scope_inside scope) c vs, block_made y.first (close.to - 1)), scope_after scope y.first.1) a.first y.rest)
          (stmts_right around (arm_scope (scope_inside scope) c vs) (room - 1) false ss y.first g.0.1 (_, body.1) y.one) in
          let more = arms_right around a.first.1 room ty rest d.first g.1 (_, after_block P (s.braced ss close) _ body) d.one in
          subst (λ z. all_in_arms test (arms_made z.0) ≡ true) (same_ok (a.first.0 ∷ d.first.0, d.first.1) r d.rest)
          (both (all_in_block test a.first.0.2) (all_in_arms test (arms_made d.first.0)) here more)

    -- the last statement of a body
    last_right : (b : Block) → AreRightStmts (stmts_made (last_return b))
    last_right b = by (block_ends b)
      where
        by : (t : Bool) → AreRightStmts (stmts_made (if t then [] else (closing b, core.return None) ∷ []))
        by true = refl
        by false = refl

    body_right : (h : Func) (b : Block) (f : Func) → IsBlock language language.depth b → Spells P block_then b → walk_body kinds h b ≡ Ok f → AreRightStmts f.body
    body_right h (s.braced ss at) f g is e =
        let b = s.braced ss at in
        let y = then_ok (walk_stmts kinds (body_around h) (body_scope h) false ss) _ f e in
        let u = unless_ok (least (end_refused h b)) (Ok (func_made h b y.first)) f y.rest in
        subst (λ g. AreRightStmts g.body) (same_ok (func_made h b y.first) f u.1)
        (joined_right y.first.0 (last_return b) (stmts_right (body_around h) (body_scope h) (language.depth - 1) false ss y.first g.1 (_, is.1.1) y.one) (last_right b))

    -- ---- the functions

    functions_right : (hs : List Func) (ds : List Decl) (fs : List Func) → Each (IsDecl language) ds → Spells P (each_then decl_then) ds → walk_decls kinds hs ds ≡ Ok fs → Each (λ f. AreRightStmts f.body) fs
    functions_right hs [] fs g is e = subst (Each (λ f. AreRightStmts f.body)) (same_ok [] fs e) tt
    functions_right [] (d ∷ ds) fs g is e = subst (Each (λ f. AreRightStmts f.body)) (same_ok [] fs e) tt
    functions_right (h ∷ hs) (s.function head b at ∷ ds) fs g is e =
        let f = then_ok (walk_function kinds h (s.function head b at)) _ fs e in
        let rest = then_ok (walk_decls kinds hs ds) _ fs f.rest in
        let w = unless_ok (least (head_refused h at.from)) (walk_body kinds h b) f.first f.one in
        subst (Each (λ f. AreRightStmts f.body)) (same_ok (f.first ∷ rest.first) fs rest.rest)
        (body_right h b f.first g.0.1 (_, after_head P head _ is.1) w.1, functions_right hs ds rest.first g.1 (_, after_decl P (s.function head b at) _ is.1) rest.one)
    functions_right (h ∷ hs) (s.extern head at ∷ ds) fs g is e =
        let f = then_ok (walk_function kinds h (s.extern head at)) _ fs e in
        let rest = then_ok (walk_decls kinds hs ds) _ fs f.rest in
        let w = unless_ok (least (head_refused h at.from)) (Ok (record h { body = core.done })) f.first f.one in
        subst (Each (λ f. AreRightStmts f.body)) (same_ok (f.first ∷ rest.first) fs rest.rest)
        (subst (λ f. AreRightStmts f.body) (same_ok (record h { body = core.done }) f.first w.1) refl, functions_right hs ds rest.first g.1 (_, after_decl P (s.extern head at) _ is.1) rest.one)
    functions_right (h ∷ hs) (s.stateset n ss at ∷ ds) fs g is e = functions_right (h ∷ hs) ds fs g.1 (_, after_decl P (s.stateset n ss at) _ is.1) e
    functions_right (h ∷ hs) (s.abstract n ss at ∷ ds) fs g is e = functions_right (h ∷ hs) ds fs g.1 (_, after_decl P (s.abstract n ss at) _ is.1) e
    functions_right (h ∷ hs) (s.struct n ps ss xs r at ∷ ds) fs g is e = functions_right (h ∷ hs) ds fs g.1 (_, after_decl P (s.struct n ps ss xs r at) _ is.1) e
    functions_right (h ∷ hs) (s.variant n ps cs at ∷ ds) fs g is e = functions_right (h ∷ hs) ds fs g.1 (_, after_decl P (s.variant n ps cs at) _ is.1) e

  pub all_pass : (t : Tree) (kinds : Kinds) (p : Program) → Each (IsDecl language) t.decls → Each P (spelling t) → elaborated t kinds ≡ Ok p → AllPass test p
  all_pass t kinds p right is e g f at =
      let fs = then_ok (walk_decls kinds kinds.heads t.decls) _ p (told_ok (walk_tree t kinds) p e) in
      each_at (λ f. AreRightStmts f.body) p.fns g f
      (subst (λ q. Each (λ f. AreRightStmts f.body) q.fns) (same_ok _ p fs.rest) (functions_right kinds kinds.heads t.decls fs.first right (_, is) fs.one)) at
