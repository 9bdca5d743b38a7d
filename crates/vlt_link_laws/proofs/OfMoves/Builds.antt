-- Values of targets, and ticks with their payloads.
use Rattle.std.proofs.Common.{◌≡◌, ℕ, ◌==◌, Bool, true, false, not, if◌then◌else◌, List, [], ◌∷◌, length, map, drop, Option, Some, None, slice_get, option_map, refl, sym, ap, ap₂, ◌∙◌}
use Rattle.std.specs.Str.{bytes_eq}
use Rattle.std.proofs.lemmas.Option.{slice_get-map, none-some}
use Rattle.std.proofs.lemmas.List.{length-map}
use Rattle.vlt_syntax.specs.Tree as s
use Rattle.vlt_syntax.specs.Tree.{Name}
use Rattle.vlt_core.specs.Core as core
use Rattle.vlt_core.specs.Core.{Ty, simple, set, own, unpack, build, CaseDecl, TypeDecl, an_abstract, a_struct, a_variant, VariantDecl}
use Rattle.vlt_core.specs.Lookups.{cases_in, variant_in}
use Rattle.vlt_core.specs.declared.rules.TheConstants as rule
use Rattle.vlt_link_laws.specs.CoreMoves.Moves.{Moves, moved_ty, moved_case}
use Rattle.vlt_link_laws.proofs.OfCoreMoves.Looks.{same_owner, moved_variant_of, variant_moves}
use Rattle.vlt_kinds_types.specs.Names.Refusals.{refusal, refuse_if}
use Rattle.vlt_kinds_types.specs.Kinds.{Kinds}
use Rattle.vlt_resolve_exprs.specs.Types.{then_with, ty_under}
use Rattle.vlt_resolve_exprs.specs.Scopes.{Scope}
use Rattle.vlt_resolve_exprs.specs.Exprs.{expr_place, expr_refused, type_of, core_expr}
use Rattle.vlt_resolve_exprs.specs.Operands.{operands_refused, variable_in}
use Rattle.vlt_resolve_exprs.specs.Targets.{Target, target_takes, value_misfit, value_refused, value_form, core_value}
use Rattle.vlt_resolve_calls.specs.Builds.{cases_of, case_position, Case, payload_in, case_at, case_in, case_of_tick, payload_refused, case_refused, build_refused, case_form, core_build}
use Rattle.vlt_link_laws.specs.Moves.Sees.{Sees, moved_scope}
use Rattle.vlt_link_laws.proofs.OfMoves.Empty.{cons_not_nil, no_left, no_right, none_of_both}
use Rattle.vlt_link_laws.proofs.OfMoves.Types.{takes_moves, unpacks_moves, under_moves}
use Rattle.vlt_link_laws.proofs.OfMoves.Exprs.{position_same, then_some, expr_moves, operand_same, operands_fine, operands_same}
use Rattle.vlt_link_laws.proofs.OfMoves.Calls.{moved_target}

module _ (m : Moves) (a b : Kinds) (sees : Sees m a b) where
  -- ---- values

  target_same : (t : Target) (got : Ty) → target_takes (moved_target m t) (moved_ty m got) ≡ target_takes t got
  unfolding target_takes
  target_same t got = ap₂ (λ x y. if t.binds then x else y) (unpacks_moves m sees.apart t.ty got) (takes_moves m sees.apart t.ty got)

  misfit_same : (t : Target) (o : Option Ty) (at : ℕ) → value_misfit (moved_target m t) (option_map (moved_ty m) o) at ≡ value_misfit t o at
  unfolding value_misfit
  misfit_same t None at = refl
  misfit_same t (Some got) at = ap (λ x. refuse_if (not x) rule.WRONG_TYPE at) (target_same t got)

  module _ (scope : Scope) where
    pub value_fine : (t : Target) (e : s.Expr) → value_refused a scope t e ≡ [] → value_refused b (moved_scope m scope) (moved_target m t) e ≡ []
    unfolding value_refused
    value_fine t e none =
        let x = expr_moves m a b sees scope e (no_left (expr_refused a scope e) _ none) in
        none_of_both _ _ x.fine
        (ap (λ o. value_misfit (moved_target m t) o (expr_place e)) x.type ∙ (misfit_same t (type_of a scope e) (expr_place e) ∙ no_right (expr_refused a scope e) _ none))

    form_same : (t : Target) (x : ℕ) (got : Option Ty) (e : core.Expr) → value_form (moved_target m t) x (option_map (moved_ty m) got) e ≡ value_form t x got e
    unfolding value_form
    form_same t x got e =
        ap₂ (λ (o : Bool) y. if t.binds then unpack x (variable_in e) else if o then own x y else set x e) (same_owner m t.ty) (operand_same m a b sees scope t.ty got e)

    pub value_core : (t : Target) (x : ℕ) (e : s.Expr) → value_refused a scope t e ≡ [] → core_value b (moved_scope m scope) (moved_target m t) x e ≡ core_value a scope t x e
    unfolding core_value value_refused
    value_core t x e none =
        let y = expr_moves m a b sees scope e (no_left (expr_refused a scope e) _ none) in
        ap simple (ap₂ (value_form (moved_target m t) x) y.type y.core ∙ form_same t x (type_of a scope e) (core_expr a scope e))

  -- ---- cases

  abbrev pub moved_the_case : Case → Case
  moved_the_case c = record { number = c.number; payload = map (moved_ty m) c.payload }

  under_each : (args : List ℕ) (ts : List Ty) → map (ty_under args) (map (moved_ty m) ts) ≡ map (moved_ty m) (map (ty_under args) ts)
  under_each args [] = refl
  under_each args (t ∷ ts) = ap₂ (λ x xs. x ∷ xs) (under_moves m args t) (under_each args ts)

  payload_moves : (args : List ℕ) (o : Option CaseDecl) → payload_in args (option_map (moved_case m) o) ≡ map (moved_ty m) (payload_in args o)
  payload_moves args None = refl
  payload_moves args (Some d) = under_each args d.payload

  case_moves : (cs : List CaseDecl) (args : List ℕ) (i : ℕ) → case_at (map (moved_case m) cs) args i ≡ moved_the_case (case_at cs args i)
  case_moves cs args i =
      ap (λ (p : List Ty). let r : Case = record { number = i; payload = p } in r) (ap (payload_in args) (slice_get-map (moved_case m) cs i) ∙ payload_moves args (slice_get cs i))

  case_in_moves : (cs : List CaseDecl) (args : List ℕ) (tick : Name) → case_in (map (moved_case m) cs) args tick ≡ option_map moved_the_case (case_in cs args tick)
  unfolding case_in
  case_in_moves cs args tick =
      ap (option_map (case_at (map (moved_case m) cs) args)) (position_same (moved_case m) (λ c. bytes_eq (drop 1 tick.text) c.name) (λ c. bytes_eq (drop 1 tick.text) c.name) (λ c. refl) cs) ∙
      by (case_position cs tick)
    where
      by : (o : Option ℕ) → option_map (case_at (map (moved_case m) cs) args) o ≡ option_map moved_the_case (option_map (case_at cs args) o)
      by None = refl
      by (Some i) = ap Some (case_moves cs args i)

  -- a type with a case is a variant
  variant_of_case : (t : ℕ) (args : List ℕ) (tick : Name) (c : Case) → case_in (cases_of a t) args tick ≡ Some c → (x : VariantDecl) × (slice_get a.types t ≡ Some (a_variant x))
  unfolding case_in
  variant_of_case t args tick c e = by (slice_get a.types t) refl e
    where
      by : (o : Option TypeDecl) → slice_get a.types t ≡ o → option_map (case_at (cases_in o) args) (case_position (cases_in o) tick) ≡ Some c → (x : VariantDecl) × (slice_get a.types t ≡ Some (a_variant x))
      by None at e = absurd (none-some c e)
      by (Some (an_abstract n i)) at e = absurd (none-some c e)
      by (Some (a_struct x)) at e = absurd (none-some c e)
      by (Some (a_variant x)) at e = (x, at)

  pub cases_move : (t : ℕ) (x : VariantDecl) → slice_get a.types t ≡ Some (a_variant x) → cases_of b (m.types t) ≡ map (moved_case m) (cases_of a t)
  cases_move t x at = ap cases_in (sees.variants t x at) ∙ sym (ap (λ o. map (moved_case m) (cases_in o)) at)

  pub tick_moves : (ty : Ty) (tick : Name) (c : Case) → case_of_tick a ty tick ≡ Some c → case_of_tick b (moved_ty m ty) tick ≡ Some (moved_the_case c)
  unfolding case_of_tick
  tick_moves ty tick c e =
      let v = then_some (variant_in (Some ty)) (λ v. case_in (cases_of a v.type) v.args tick) c e in
      let x = variant_of_case v.0.type v.0.args tick c v.2 in
      ap (λ o. then_with o (λ v. case_in (cases_of b v.type) v.args tick)) (variant_moves m (Some ty) ∙ ap (option_map (moved_variant_of m)) v.1) ∙
      (ap (λ cs. case_in cs v.0.args tick) (cases_move v.0.type x.0 x.1) ∙
      (case_in_moves (cases_of a v.0.type) v.0.args tick ∙ ap (option_map moved_the_case) v.2))

  module _ (scope : Scope) where
    payload_fine : (c : Case) (y : s.Build) → payload_refused a scope c y ≡ [] → payload_refused b (moved_scope m scope) (moved_the_case c) y ≡ []
    unfolding payload_refused
    payload_fine c y none =
        ap (λ n. if n == length y.payload then operands_refused b (moved_scope m scope) (map (moved_ty m) c.payload) y.payload else refusal rule.WRONG_COUNT y.case.at.from ∷ []) (length-map c.payload (moved_ty m)) ∙
        by (length c.payload == length y.payload) none
      where
        by : (x : Bool) → (if x then operands_refused a scope c.payload y.payload else refusal rule.WRONG_COUNT y.case.at.from ∷ []) ≡ [] →
            (if x then operands_refused b (moved_scope m scope) (map (moved_ty m) c.payload) y.payload else refusal rule.WRONG_COUNT y.case.at.from ∷ []) ≡ []
        by true none = operands_fine m a b sees scope c.payload y.payload none
        by false none = absurd (cons_not_nil _ [] none)

    payload_calm : (c : Case) (y : s.Build) → payload_refused a scope c y ≡ [] → operands_refused a scope c.payload y.payload ≡ []
    unfolding payload_refused
    payload_calm c y none = by (length c.payload == length y.payload) none
      where
        by : (x : Bool) → (if x then operands_refused a scope c.payload y.payload else refusal rule.WRONG_COUNT y.case.at.from ∷ []) ≡ [] → operands_refused a scope c.payload y.payload ≡ []
        by true none = none
        by false none = absurd (cons_not_nil _ [] none)

    built : (ty : Ty) (y : s.Build) → build_refused a scope ty y ≡ [] → (c : Case) × (case_of_tick a ty y.case ≡ Some c) × (payload_refused a scope c y ≡ [])
    unfolding build_refused
    built ty y none = by (case_of_tick a ty y.case) refl none
      where
        by : (o : Option Case) → case_of_tick a ty y.case ≡ o → case_refused a scope o y ≡ [] → (c : Case) × (case_of_tick a ty y.case ≡ Some c) × (payload_refused a scope c y ≡ [])
        by None e none = absurd (cons_not_nil _ [] none)
        by (Some c) e none = (c, e, none)

    pub build_fine : (ty : Ty) (y : s.Build) → build_refused a scope ty y ≡ [] → build_refused b (moved_scope m scope) (moved_ty m ty) y ≡ []
    unfolding build_refused
    build_fine ty y none =
        let c = built ty y none in
        ap (λ o. case_refused b (moved_scope m scope) o y) (tick_moves ty y.case c.0 c.1) ∙ payload_fine c.0 y c.2

    pub build_core : (ty : Ty) (v : ℕ) (y : s.Build) → build_refused a scope ty y ≡ [] → core_build b (moved_scope m scope) (moved_ty m ty) v y ≡ core_build a scope ty v y
    unfolding core_build
    build_core ty v y none =
        let c = built ty y none in
        ap (λ o. case_form b (moved_scope m scope) v o y) (tick_moves ty y.case c.0 c.1) ∙
        (ap (λ x. simple (build v c.0.number x)) (operands_same m a b sees scope c.0.payload y.payload (payload_calm c.0 y c.2)) ∙
        sym (ap (λ o. case_form a scope v o y) c.1))
