-- Each set of states in the body of an elaborated function is a mask, where those of the types that stand around are.
use Rattle.std.proofs.Common.{◌≡◌, ℕ, ◌-◌, Bool, true, false, if◌then◌else◌, List, [], ◌∷◌, ◌++◌, map, length, Option, Some, None, slice_get, option_map, Ok, refl, sym, subst}
use Rattle.std.proofs.lemmas.Option.{none-some, same_Some}
use Rattle.vlt_syntax.specs.Tree as s
use Rattle.vlt_syntax.specs.Tree.{Name, Init, Right, Stmt, Block, Else, Stmts, Arms}
use Rattle.vlt_syntax.specs.Lists.{Each}
use Rattle.vlt_core.specs.Core as core
use Rattle.vlt_core.specs.Core.{States, Ty, bool, VarDecl, FieldDecl, CaseDecl, Operand, Form, Func}
use Rattle.vlt_core.specs.Lookups.{is_owning, VariantOf, variant_in}
use Rattle.vlt_core.specs.View.{stmts_made, arms_made}
use Rattle.vlt_kinds_types.specs.declared.names.found.Refusal.{Refusal}
use Rattle.vlt_kinds_types.specs.Names.Refusals.{least_from}
use Rattle.vlt_kinds_types.specs.Kinds.{Kinds, head_named, function_named}
use Rattle.vlt_resolve_exprs.specs.Types.{then_with, ty_under}
use Rattle.vlt_resolve_exprs.specs.Scopes.{Scope, ty_in, var_named, var_ty, scope_inside, scope_after}
use Rattle.vlt_resolve_exprs.specs.Exprs.{wanted_refused, type_of, core_expr, var_number, number_of, fields_of}
use Rattle.vlt_resolve_exprs.specs.Operands.{object_operand, operand_for, core_operand, core_operands, variable_in}
use Rattle.vlt_resolve_exprs.specs.Targets.{Target, value_form, core_value}
use Rattle.vlt_resolve_calls.specs.Builds.{Case, cases_of, case_position, payload_in, case_at, case_in, case_form, case_of_tick, core_build}
use Rattle.vlt_resolve_calls.specs.Calls.{Use, dropped, given, param_types, head_form, callee_form, core_call}
use Rattle.vlt_resolve_rights.specs.News.{field_types, init_operands, made_operands, made_forms, new_forms, with_hidden}
use Rattle.vlt_resolve_rights.specs.Adopts.{core_adopt}
use Rattle.vlt_elaboration.specs.Rights.{right_forms}
use Rattle.vlt_elaboration.specs.Around.{Around, inside_loop, inside_focus}
use Rattle.vlt_elaboration.specs.Declarations.{with_bound_key, binds_key, declared_target, assigned_target, declare_became, keyed_became, hidden_became, declared_became, assign_became}
use Rattle.vlt_elaboration.specs.Statements.{core_put, release_form, core_become, core_swap, opened_parts, opened_became, open_became, hidden_operand, returned_value, returned_build, return_became, simple_refused, simple_became}
use Rattle.vlt_elaboration.specs.Switches.{arm_names, switch_refused, arm_case, arm_refused, arm_scope, arm_numbers, case_number, focus_refused, bound_scope}
use Rattle.vlt_elaboration.specs.Blocks.{block_ends, closing, else_closing, ends, stmt_place}
use Rattle.vlt_elaboration.specs.Walk.{late, placed_at, block_made, walk_stmts, walk_stmt, walk_block, walk_else, walk_arms, walk_arm, walk_simple}
use Rattle.vlt_elaboration.specs.Elaboration.{body_scope, body_around, stmts_in, last_return, func_made}
use Rattle.vlt_resolve_laws.specs.KindsLaws.Said.{TypeSays}
use Rattle.vlt_resolve_laws.specs.WalkSteps.{Leads}
use Rattle.vlt_resolve_laws.proofs.OfKindsLaws.Rows.{each_at}
use Rattle.vlt_resolve_laws.proofs.Results.{same_ok, then_ok, unless_ok, least_none}
use Rattle.vlt_resolve_laws.proofs.WalkGrowing.{leads_kept, stmts_grow, else_grow, arms_grow}
use Rattle.cert_rows.specs.Parts.{All}
use Rattle.cert_rows.specs.Values.{mask}
use Rattle.cert_fit_laws.proofs.Masked.{IsMaskedOperand, IsMaskedSimple, IsMasked, IsMaskedBlock, AreMasked, AreMaskedArms}

-- ---- lists

pub each_before : {A : Type 0} (Q : A → Type 0) (xs ys : List A) → Each Q (xs ++ ys) → Each Q xs
each_before Q [] ys are = tt
each_before Q (x ∷ xs) ys are = (are.0, each_before Q xs ys are.1)

last_of : {A : Type 0} (Q : A → Type 0) (xs : List A) (x : A) → Each Q (xs ++ x ∷ []) → Q x
last_of Q [] x are = are.0
last_of Q (y ∷ xs) x are = last_of Q xs x are.1

each_mapped : {A B : Type 0} (Q : B → Type 0) (g : A → B) (xs : List A) → Each (λ x. Q (g x)) xs → Each Q (map g xs)
each_mapped Q g [] are = tt
each_mapped Q g (x ∷ xs) are = (are.0, each_mapped Q g xs are.1)

module _ (P : States → Type 0) (fits : (states : States) → P states → mask.Fits states) where
  abbrev Says : Ty → Type 0
  Says = TypeSays P

  abbrev VarsSay : List VarDecl → Type 0
  VarsSay = Each (λ d. Says d.ty)

  -- of a function's result
  abbrev pub ResultSays : Option Ty → Type 0
  ResultSays None = Unit {0}
  ResultSays (Some w) = Says w

  -- what the types of fields, payloads and parameters say
  pub record HaveSaid (kinds : Kinds) : Type 0 where
    pub fields : (t : ℕ) → Each (λ (d : FieldDecl). Says d.ty) (fields_of kinds t)
    pub cases : (t : ℕ) → Each (λ (c : CaseDecl). Each Says c.payload) (cases_of kinds t)
    pub heads : (g : ℕ) (h : Func) → slice_get kinds.heads g ≡ Some h → VarsSay h.vars

  -- ---- types

  says_under : (args : List ℕ) (ty : Ty) → Says ty → Says (ty_under args ty)
  unfolding ty_under
  says_under args core.int say = say
  says_under args core.bool say = say
  says_under args (core.tracked k t a) say = λ states e. absurd (none-some states e)
  says_under args (core.owning o t a) say = say
  says_under args (core.guarded k t a) say = λ states e. absurd (none-some states e)
  says_under args (core.variant t a) say = λ states e. absurd (none-some states e)
  says_under args (core.owning_variant t a) say = λ states e. absurd (none-some states e)

  payload_under : (args : List ℕ) (ts : List Ty) → Each Says ts → Each Says (map (ty_under args) ts)
  payload_under args [] are = tt
  payload_under args (t ∷ ts) are = (says_under args t are.0, payload_under args ts are.1)

  fields_under : (args : List ℕ) (ds : List FieldDecl) → Each (λ (d : FieldDecl). Says d.ty) ds → Each Says (field_types ds args)
  fields_under args [] are = tt
  fields_under args (d ∷ ds) are = (says_under args d.ty are.0, fields_under args ds are.1)

  -- ---- operands

  object_masked : (states : States) (got : Option Ty) (v : ℕ) → mask.Fits states → IsMaskedOperand (object_operand states got v)
  object_masked states None v is = tt
  object_masked states (Some core.int) v is = tt
  object_masked states (Some core.bool) v is = tt
  object_masked states (Some (core.tracked k t args)) v is = is
  object_masked states (Some (core.owning o t args)) v is = tt
  object_masked states (Some (core.guarded k t args)) v is = tt
  object_masked states (Some (core.variant t args)) v is = tt
  object_masked states (Some (core.owning_variant t args)) v is = tt

  for_masked : (w : Ty) (got : Option Ty) (e : core.Expr) → Says w → IsMaskedOperand (operand_for w got e)
  unfolding operand_for
  for_masked core.int got e say = tt
  for_masked core.bool got e say = tt
  for_masked (core.tracked k t args) got e say = tt
  for_masked (core.owning o t args) got e say = object_masked o got (variable_in e) (fits o (say o refl))
  for_masked (core.guarded k t args) got e say = tt
  for_masked (core.variant t args) got e say = tt
  for_masked (core.owning_variant t args) got e say = tt

  operand_masked : (kinds : Kinds) (scope : Scope) (w : Ty) (e : s.Expr) → Says w → IsMaskedOperand (core_operand kinds scope w e)
  unfolding core_operand
  operand_masked kinds scope w e say = for_masked w (type_of kinds scope e) (core_expr kinds scope e) say

  operands_masked : (kinds : Kinds) (scope : Scope) (es : List s.Expr) (ws : List Ty) → Each Says ws → All IsMaskedOperand (core_operands kinds scope es ws)
  operands_masked kinds scope [] ws say = tt
  operands_masked kinds scope (e ∷ es) [] say = tt
  operands_masked kinds scope (e ∷ es) (w ∷ ws) say = (operand_masked kinds scope w e say.0, operands_masked kinds scope es ws say.1)

  inits_masked : (kinds : Kinds) (scope : Scope) (is : List Init) (ws : List Ty) → Each Says ws → All IsMaskedOperand (init_operands kinds scope is ws)
  inits_masked kinds scope [] ws say = tt
  inits_masked kinds scope (x ∷ is) [] say = tt
  inits_masked kinds scope (x ∷ is) (w ∷ ws) say = (operand_masked kinds scope w x.value say.0, inits_masked kinds scope is ws say.1)

  -- ---- statements without blocks

  release_masked : (o : Option Ty) (v : ℕ) → IsMasked (release_form o v)
  unfolding release_form
  release_masked None v = tt
  release_masked (Some core.int) v = tt
  release_masked (Some core.bool) v = tt
  release_masked (Some (core.tracked k t args)) v = tt
  release_masked (Some (core.owning o t args)) v = tt
  release_masked (Some (core.guarded k t args)) v = tt
  release_masked (Some (core.variant t args)) v = tt
  release_masked (Some (core.owning_variant t args)) v = tt

  make_masked : (scope : Scope) (ty : Ty) (x hidden : ℕ) (r : Option Name) (args : List Operand) → Says ty → All IsMaskedOperand args → All IsMasked (made_forms scope ty x hidden r args)
  make_masked scope ty x hidden (Some r) args say are = (are, (tt, tt))
  make_masked scope core.int x hidden None args say are = (are, tt)
  make_masked scope core.bool x hidden None args say are = (are, tt)
  make_masked scope (core.tracked k t a) x hidden None args say are = (are, tt)
  make_masked scope (core.owning states t a) x hidden None args say are = (are, (fits states (say states refl), tt))
  make_masked scope (core.guarded k t a) x hidden None args say are = (are, tt)
  make_masked scope (core.variant t a) x hidden None args say are = (are, tt)
  make_masked scope (core.owning_variant t a) x hidden None args say are = (are, tt)

  value_masked : (t : Target) (x : ℕ) (got : Option Ty) (e : core.Expr) → Says t.ty → IsMaskedSimple (value_form t x got e)
  unfolding value_form
  value_masked t x got e say = by t.binds (is_owning t.ty)
    where
      by : (b o : Bool) → IsMaskedSimple (if b then core.unpack x (variable_in e) else if o then core.own x (operand_for t.ty got e) else core.set x e)
      by true o = tt
      by false true = for_masked t.ty got e say
      by false false = tt

  hidden_masked : (w : Ty) (v : ℕ) → IsMaskedOperand (hidden_operand w v)
  hidden_masked w v = by (is_owning w)
    where
      by : (b : Bool) → IsMaskedOperand (if b then core.move v else core.pure (core.var v))
      by true = tt
      by false = tt

  module _ (kinds : Kinds) (said : HaveSaid kinds) where
    made_masked : (scope : Scope) (n : s.Named) (is : List Init) → All IsMaskedOperand (made_operands kinds scope n is)
    unfolding made_operands
    made_masked scope n is = inits_masked kinds scope is _ (fields_under _ (fields_of kinds _) (said.fields _))

    -- the payload of a case that is known
    payload_says : (ty : Ty) (tick : Name) (c : Case) → case_of_tick kinds ty tick ≡ Some c → Each Says c.payload
    unfolding case_of_tick case_in
    payload_says ty tick c e = of_variant (variant_in (Some ty)) e
      where
        at_number : (t : ℕ) (args : List ℕ) (n : ℕ) (o : Option CaseDecl) → slice_get (cases_of kinds t) n ≡ o → Each Says (payload_in args o)
        at_number t args n None is = tt
        at_number t args n (Some d) is = payload_under args d.payload (each_at (λ (c : CaseDecl). Each Says c.payload) (cases_of kinds t) n d (said.cases t) is)

        of_case : (t : ℕ) (args : List ℕ) (o : Option ℕ) → option_map (case_at (cases_of kinds t) args) o ≡ Some c → Each Says c.payload
        of_case t args None e = absurd (none-some c e)
        of_case t args (Some n) e = subst (λ (c : Case). Each Says c.payload) (same_Some _ c e) (at_number t args n (slice_get (cases_of kinds t) n) refl)

        of_variant : (o : Option VariantOf) → then_with o (λ v. option_map (case_at (cases_of kinds v.type) v.args) (case_position (cases_of kinds v.type) tick)) ≡ Some c → Each Says c.payload
        of_variant None e = absurd (none-some c e)
        of_variant (Some v) e = of_case v.type v.args (case_position (cases_of kinds v.type) tick) e

    build_masked : (scope : Scope) (ty : Ty) (v : ℕ) (b : s.Build) → IsMasked (core_build kinds scope ty v b)
    unfolding core_build
    build_masked scope ty v b = by (case_of_tick kinds ty b.case) refl
      where
        by : (o : Option Case) → case_of_tick kinds ty b.case ≡ o → IsMasked (case_form kinds scope v o b)
        by None is = tt
        by (Some c) is = operands_masked kinds scope b.payload c.payload (payload_says ty b.case c is)

    head_says : (n : Name) (h : Func) → head_named kinds n ≡ Some h → VarsSay h.vars
    head_says n h e = by (function_named kinds n) e
      where
        by : (o : Option ℕ) → then_with o (slice_get kinds.heads) ≡ Some h → VarsSay h.vars
        by None e = absurd (none-some h e)
        by (Some g) e = said.heads g h e

    call_masked : (scope : Scope) (used : Use) (target : Option ℕ) (c : s.Call) → IsMasked (core_call kinds scope used target c)
    unfolding core_call head_form
    call_masked scope used target c = by (head_named kinds c.function) refl
      where
        by : (o : Option Func) → head_named kinds c.function ≡ o → IsMasked (callee_form kinds scope o (number_of (function_named kinds c.function)) used target c)
        by None is = tt
        by (Some h) is = operands_masked kinds scope c.arguments (param_types h) (each_mapped Says (λ (d : VarDecl). d.ty) h.vars (head_says c.function h is))

    abbrev TargetSays : Option Target → Type 0
    TargetSays None = Unit {0}
    TargetSays (Some t) = Says t.ty

    right_masked : (scope : Scope) (t : Option Target) (x hidden : ℕ) (right : Right) → TargetSays t → All IsMasked (right_forms kinds scope t x hidden right)
    unfolding right_forms core_value new_forms core_adopt
    right_masked scope None x hidden right say = tt
    right_masked scope (Some t) x hidden (s.value e) say = (value_masked t x (type_of kinds scope e) (core_expr kinds scope e) say, tt)
    right_masked scope (Some t) x hidden (s.build b) say = (build_masked scope t.ty x b, tt)
    right_masked scope (Some t) x hidden (s.call c) say = (call_masked scope (given t) (Some x) c, tt)
    right_masked scope (Some t) x hidden (s.input at) say = (tt, tt)
    right_masked scope (Some t) x hidden (s.more at) say = (tt, tt)
    right_masked scope (Some t) x hidden (s.make r n is at) say = make_masked scope t.ty x hidden r (made_operands kinds scope n is) say (made_masked scope n is)
    right_masked scope (Some t) x hidden (s.adopt y r at) say = (tt, tt)

    -- ---- scopes

    abbrev pub Holds : Scope → Type 0
    Holds scope = VarsSay scope.vars

    back : (a b : Scope) → Leads a b → Holds b → Holds a
    back a b leads h = each_before (λ (d : VarDecl). Says d.ty) a.vars leads.grows.more_vars (subst VarsSay leads.grows.vars h)

    variable_says : (scope : Scope) (n : List ℕ) → Holds scope → TargetSays (assigned_target (var_ty scope n))
    unfolding var_ty
    variable_says scope n h = by (var_named scope n)
      where
        at : (v : ℕ) (o : Option VarDecl) → slice_get scope.vars v ≡ o → TargetSays (assigned_target (ty_in o))
        at v None is = tt
        at v (Some d) is = each_at (λ (d : VarDecl). Says d.ty) scope.vars v d h is

        by : (o : Option ℕ) → TargetSays (assigned_target (then_with o (λ v. ty_in (slice_get scope.vars v))))
        by None = tt
        by (Some v) = at v (slice_get scope.vars v) refl

    returned_masked : (around : Around) (scope : Scope) (r : s.Returned) → ResultSays around.result → All IsMasked (return_became kinds around scope r).0
    unfolding return_became
    returned_masked around scope s.nothing say = (tt, tt)
    returned_masked around scope (s.value e) say = by around.result say
      where
        by : (o : Option Ty) → ResultSays o → All IsMasked (returned_value kinds scope o e)
        by None say = tt
        by (Some w) say = (operand_masked kinds scope w e say, tt)
    returned_masked around scope (s.build b) say = by around.result
      where
        by : (o : Option Ty) → All IsMasked (returned_build kinds scope o b).0
        by None = tt
        by (Some w) = (build_masked _ w (length scope.vars) b, (hidden_masked w (length scope.vars), tt))

    opened_masked : (scope : Scope) (o : Option (List Ty)) (x : Name) (vs : List Name) → All IsMasked (opened_became scope o x vs).0
    opened_masked scope None x vs = tt
    opened_masked scope (Some ws) x vs = (tt, tt)

    declare_masked : (scope : Scope) (t : s.Ty) (x : Name) (right : Right) → Holds (declare_became kinds scope t x right).1 → All IsMasked (declare_became kinds scope t x right).0
    unfolding declare_became keyed_became hidden_became declared_became
    declare_masked scope t x right h =
        let now = with_bound_key kinds scope t in
        let target = declared_target kinds (binds_key scope t) now t in
        right_masked _ (Some target) _ _ right (last_of (λ (d : VarDecl). Says d.ty) (with_hidden kinds now right (Some target.ty)).vars (record { name = x.text; ty = target.ty }) h)

    plain_masked : (around : Around) (scope : Scope) (x : Stmt) → ResultSays around.result → Holds scope → Holds (simple_became kinds around scope x).1 → All IsMasked (simple_became kinds around scope x).0
    unfolding assign_became core_put core_become core_swap open_became
    plain_masked around scope (s.declare t x right at) result h g = declare_masked scope t x right g
    plain_masked around scope (s.assign x right at) result h g = right_masked _ (assigned_target (var_ty scope x.text)) _ _ right (variable_says scope x.text h)
    plain_masked around scope (s.put x f e at) result h g = (tt, tt)
    plain_masked around scope (s.call c at) result h g = (call_masked scope (dropped at.from) None c, tt)
    plain_masked around scope (s.print e at) result h g = (tt, tt)
    plain_masked around scope (s.break at) result h g = (tt, tt)
    plain_masked around scope (s.continue at) result h g = (tt, tt)
    plain_masked around scope (s.return r at) result h g = returned_masked around scope r result
    plain_masked around scope (s.release x at) result h g = (release_masked (var_ty scope x.text) (var_number scope x), tt)
    plain_masked around scope (s.become x n at) result h g = (tt, tt)
    plain_masked around scope (s.swap x f v at) result h g = (tt, tt)
    plain_masked around scope (s.open_into x vs at) result h g = opened_masked scope (opened_parts kinds (var_ty scope x.text)) x vs
    plain_masked around scope (s.block b) result h g = tt
    plain_masked around scope (s.choose i) result h g = tt
    plain_masked around scope (s.loop e b at) result h g = tt
    plain_masked around scope (s.switch x arms at) result h g = tt
    plain_masked around scope (s.focus y k z b at) result h g = tt

    -- ---- lists

    placed_masked : (at : ℕ) (fs : List Form) → All IsMasked fs → AreMasked (stmts_made (placed_at at fs))
    placed_masked at [] are = tt
    placed_masked at (f ∷ fs) are = (are.0, placed_masked at fs are.1)

    joined_masked : (xs ys : List (ℕ × Form)) → AreMasked (stmts_made xs) → AreMasked (stmts_made ys) → AreMasked (stmts_made (xs ++ ys))
    joined_masked [] ys x y = y
    joined_masked (z ∷ xs) ys x y = (x.0, joined_masked xs ys x.1 y)

    -- ---- statements with blocks

    simple_masked : (around : Around) (scope : Scope) (found : Option Refusal) (x : Stmt) (r : List Form × Scope) → ResultSays around.result → Holds r.1 → walk_simple kinds around scope found x ≡ Ok r → All IsMasked r.0
    simple_masked around scope found x r result h e =
        let u = unless_ok (least_from found (simple_refused kinds around scope x)) (Ok (simple_became kinds around scope x)) r e in
        let same = same_ok (simple_became kinds around scope x) r u.1 in
        let after = subst (λ (z : List Form × Scope). Holds z.1) (sym same) h in
        let leads = (leads_kept kinds).plain around scope x (least_none found (simple_refused kinds around scope x) u.0).1 in
        subst (λ (z : List Form × Scope). All IsMasked z.0) same (plain_masked around scope x result (back scope _ leads after) after)

    mutual
      pub stmts_masked : (around : Around) (scope : Scope) (ended : Bool) (xs : Stmts) (r : List (ℕ × Form) × Scope) → ResultSays around.result → Holds r.1 → walk_stmts kinds around scope ended xs ≡ Ok r → AreMasked (stmts_made r.0)
      stmts_masked around scope ended s.done r result h e = subst (λ (z : List (ℕ × Form) × Scope). AreMasked (stmts_made z.0)) (same_ok ([], scope) r e) tt
      stmts_masked around scope ended (s.next x xs) r result h e =
          let a = then_ok (walk_stmt kinds around scope (late ended x) x) _ r e in
          let c = then_ok (walk_stmts kinds around a.first.1 (ends x) xs) _ r a.rest in
          let same = same_ok (placed_at (stmt_place x) a.first.0 ++ c.first.0, c.first.1) r c.rest in
          let after = subst (λ (z : List (ℕ × Form) × Scope). Holds z.1) (sym same) h in
          subst (λ (z : List (ℕ × Form) × Scope). AreMasked (stmts_made z.0)) same
          (joined_masked (placed_at (stmt_place x) a.first.0) c.first.0
          (placed_masked (stmt_place x) a.first.0 (stmt_masked around scope (late ended x) x a.first result (back a.first.1 c.first.1 (stmts_grow kinds around a.first.1 (ends x) xs c.first c.one) after) a.one))
          (stmts_masked around a.first.1 (ends x) xs c.first result after c.one))

      stmt_masked : (around : Around) (scope : Scope) (found : Option Refusal) (x : Stmt) (r : List Form × Scope) → ResultSays around.result → Holds r.1 → walk_stmt kinds around scope found x ≡ Ok r → All IsMasked r.0
      stmt_masked around scope found (s.declare t v w at) r result h e = simple_masked around scope found (s.declare t v w at) r result h e
      stmt_masked around scope found (s.assign v w at) r result h e = simple_masked around scope found (s.assign v w at) r result h e
      stmt_masked around scope found (s.put v n w at) r result h e = simple_masked around scope found (s.put v n w at) r result h e
      stmt_masked around scope found (s.call c at) r result h e = simple_masked around scope found (s.call c at) r result h e
      stmt_masked around scope found (s.print w at) r result h e = simple_masked around scope found (s.print w at) r result h e
      stmt_masked around scope found (s.break at) r result h e = simple_masked around scope found (s.break at) r result h e
      stmt_masked around scope found (s.continue at) r result h e = simple_masked around scope found (s.continue at) r result h e
      stmt_masked around scope found (s.return v at) r result h e = simple_masked around scope found (s.return v at) r result h e
      stmt_masked around scope found (s.release v at) r result h e = simple_masked around scope found (s.release v at) r result h e
      stmt_masked around scope found (s.become v t at) r result h e = simple_masked around scope found (s.become v t at) r result h e
      stmt_masked around scope found (s.swap v n w at) r result h e = simple_masked around scope found (s.swap v n w at) r result h e
      stmt_masked around scope found (s.open_into v ws at) r result h e = simple_masked around scope found (s.open_into v ws at) r result h e
      stmt_masked around scope found (s.block b) r result h e =
          let u = unless_ok found _ r e in
          let a = then_ok (walk_block kinds around scope b) _ r u.1 in
          let same = same_ok (core.scope a.first.0 ∷ [], a.first.1) r a.rest in
          subst (λ (z : List Form × Scope). All IsMasked z.0) same (block_masked around scope b a.first result (subst (λ (z : List Form × Scope). Holds z.1) (sym same) h) a.one, tt)
      stmt_masked around scope found (s.choose (s.choice w b other at)) r result h e =
          let u = unless_ok (least_from found (wanted_refused kinds scope (Some bool) w)) _ r e in
          let a = then_ok (walk_block kinds around scope b) _ r u.1 in
          let end = else_closing (closing b) other in
          let c = then_ok (walk_else kinds around a.first.1 end other) _ r a.rest in
          let same = same_ok (core.choose (core_expr kinds scope w) a.first.0 c.first.0 ∷ [], c.first.1) r c.rest in
          let after = subst (λ (z : List Form × Scope). Holds z.1) (sym same) h in
          subst (λ (z : List Form × Scope). All IsMasked z.0) same (
            (
              block_masked around scope b a.first result (back a.first.1 c.first.1 (else_grow kinds around a.first.1 end other c.first c.one) after) a.one,
              else_masked around a.first.1 end other c.first result after c.one,
            ),
            tt,
          )
      stmt_masked around scope found (s.loop w b at) r result h e =
          let u = unless_ok (least_from found (wanted_refused kinds scope (Some bool) w)) _ r e in
          let a = then_ok (walk_block kinds (inside_loop around) scope b) _ r u.1 in
          let same = same_ok (core.loop (core_expr kinds scope w) a.first.0 ∷ [], a.first.1) r a.rest in
          subst (λ (z : List Form × Scope). All IsMasked z.0) same (block_masked (inside_loop around) scope b a.first result (subst (λ (z : List Form × Scope). Holds z.1) (sym same) h) a.one, tt)
      stmt_masked around scope found (s.switch x arms at) r result h e =
          let u = unless_ok (least_from found (switch_refused kinds (var_ty scope x.text) x (arm_names arms) at.from)) _ r e in
          let a = then_ok (walk_arms kinds around scope (var_ty scope x.text) arms) _ r u.1 in
          let same = same_ok (core.switch (var_number scope x) (arms_made a.first.0) (at.to - 1) ∷ [], a.first.1) r a.rest in
          subst (λ (z : List Form × Scope). All IsMasked z.0) same (arms_masked around scope (var_ty scope x.text) arms a.first result (subst (λ (z : List Form × Scope). Holds z.1) (sym same) h) a.one, tt)
      stmt_masked around scope found (s.focus y k z (s.braced ss close) at) r result h e =
          let inside = scope_inside scope in
          let ty = var_ty scope y.text in
          let u = unless_ok (least_from found (focus_refused kinds inside ty y k z)) _ r e in
          let a = then_ok (walk_stmts kinds (inside_focus around) (bound_scope inside ty k z) false ss) _ r u.1 in
          let same = same_ok (core.focus (var_number scope y) (length scope.vars) (block_made a.first (close.to - 1)) ∷ [], scope_after scope a.first.1) r a.rest in
          subst (λ (z : List Form × Scope). All IsMasked z.0) same
          (stmts_masked (inside_focus around) (bound_scope inside ty k z) false ss a.first result (subst (λ (z : List Form × Scope). Holds z.1) (sym same) h) a.one, tt)

      block_masked : (around : Around) (scope : Scope) (b : Block) (r : core.Block × Scope) → ResultSays around.result → Holds r.1 → walk_block kinds around scope b ≡ Ok r → IsMaskedBlock r.0
      block_masked around scope (s.braced ss at) r result h e =
          let a = then_ok (walk_stmts kinds around (scope_inside scope) false ss) _ r e in
          let same = same_ok (block_made a.first (at.to - 1), scope_after scope a.first.1) r a.rest in
          subst (λ (z : core.Block × Scope). IsMaskedBlock z.0) same (stmts_masked around (scope_inside scope) false ss a.first result (subst (λ (z : core.Block × Scope). Holds z.1) (sym same) h) a.one)

      else_masked : (around : Around) (scope : Scope) (end : ℕ) (o : Else) (r : core.Block × Scope) → ResultSays around.result → Holds r.1 → walk_else kinds around scope end o ≡ Ok r → IsMaskedBlock r.0
      else_masked around scope end s.nothing r result h e = subst (λ (z : core.Block × Scope). IsMaskedBlock z.0) (same_ok (core.block core.done [] end, scope) r e) tt
      else_masked around scope end (s.last b) r result h e = block_masked around scope b r result h e
      else_masked around scope end (s.chained (s.choice w b other at)) r result h e =
          let u = unless_ok (least_from None (wanted_refused kinds scope (Some bool) w)) _ r e in
          let a = then_ok (walk_block kinds around scope b) _ r u.1 in
          let c = then_ok (walk_else kinds around a.first.1 end other) _ r a.rest in
          let same = same_ok (core.block (core.next at.from (core.choose (core_expr kinds scope w) a.first.0 c.first.0) core.done) [] end, c.first.1) r c.rest in
          let after = subst (λ (z : core.Block × Scope). Holds z.1) (sym same) h in
          subst (λ (z : core.Block × Scope). IsMaskedBlock z.0) same (
            (
              block_masked around scope b a.first result (back a.first.1 c.first.1 (else_grow kinds around a.first.1 end other c.first c.one) after) a.one,
              else_masked around a.first.1 end other c.first result after c.one,
            ),
            tt,
          )

      arms_masked : (around : Around) (scope : Scope) (ty : Option Ty) (arms : Arms) (r : List (ℕ × List ℕ × core.Block) × Scope) → ResultSays around.result → Holds r.1 → walk_arms kinds around scope ty arms ≡ Ok r → AreMaskedArms (arms_made r.0)
      arms_masked around scope ty s.no_arms r result h e = subst (λ (z : List (ℕ × List ℕ × core.Block) × Scope). AreMaskedArms (arms_made z.0)) (same_ok ([], scope) r e) tt
      arms_masked around scope ty (s.arm tick vs (s.braced ss close) at rest) r result h e =
          let o = arm_case kinds ty tick in
          let inside = scope_inside scope in
          let a = then_ok (walk_arm kinds around scope o tick vs (s.braced ss close)) _ r e in
          let d = then_ok (walk_arms kinds around a.first.1 ty rest) _ r a.rest in
          let u = unless_ok (least_from None (arm_refused kinds inside o tick vs)) _ a.first a.one in
          let y = then_ok (walk_stmts kinds around (arm_scope inside o vs) false ss) _ a.first u.1 in
          let same = same_ok (a.first.0 ∷ d.first.0, d.first.1) r d.rest in
          let after = subst (λ (z : List (ℕ × List ℕ × core.Block) × Scope). Holds z.1) (sym same) h in
          let same_arm = same_ok ((case_number o, arm_numbers inside o vs, block_made y.first (close.to - 1)), scope_after scope y.first.1) a.first y.rest in
          let after_arm = subst (λ (z : (ℕ × List ℕ × core.Block) × Scope). Holds z.1) (sym same_arm) (back a.first.1 d.first.1 (arms_grow kinds around a.first.1 ty rest d.first d.one) after) in
          subst (λ (z : List (ℕ × List ℕ × core.Block) × Scope). AreMaskedArms (arms_made z.0)) same (
            subst (λ (z : (ℕ × List ℕ × core.Block) × Scope). IsMaskedBlock z.0.2) same_arm (stmts_masked around (arm_scope inside o vs) false ss y.first result after_arm y.one),
            arms_masked around a.first.1 ty rest d.first result after d.one,
          )

    -- the last statement of a body
    last_masked : (b : Block) → AreMasked (stmts_made (last_return b))
    last_masked b = by (block_ends b)
      where
        by : (t : Bool) → AreMasked (stmts_made (if t then [] else (closing b, core.return None) ∷ []))
        by true = tt
        by false = (tt, tt)

    pub body_masked : (h : Func) (b : Block) (last : List (ℕ × Form) × Scope) → ResultSays h.result → Holds last.1 → walk_stmts kinds (body_around h) (body_scope h) false (stmts_in b) ≡ Ok last → AreMasked (func_made h b last).body
    body_masked h b last result holds e = joined_masked last.0 (last_return b) (stmts_masked (body_around h) (body_scope h) false (stmts_in b) last result holds e) (last_masked b)
