-- Switches and foci.
use Rattle.std.proofs.Common.{◌≡◌, ℕ, suc, ◌+◌, nat_lt, Bool, true, false, true≢false, cond, not, ◌&&◌, ◌||◌, List, [], ◌∷◌, length, map, drop, Option, Some, None, slice_get, option_map, refl, sym, ap, ap₂, ◌∙◌, subst, arith, lt-ltb, ltb-true}
use Rattle.std.specs.List.{prefix_len}
use Rattle.std.specs.Str.{bytes_eq}
use Rattle.std.proofs.lemmas.Option.{none-some}
use Rattle.std.proofs.lemmas.List.{length-map, map-append}
use Rattle.indexmap.specs.IndexMap.{insert_entry}
use Rattle.vlt_syntax.specs.Tree as s
use Rattle.vlt_syntax.specs.Tree.{Name, Arms}
use Rattle.vlt_core.specs.Core as core
use Rattle.vlt_core.specs.Core.{Ty, int, bool, tracked, owning, guarded, variant, owning_variant, TypeDecl, an_abstract, a_struct, a_variant, VariantDecl, CaseDecl, a_key}
use Rattle.vlt_core.specs.Lookups.{VariantOf, variant_in, cases_in}
use Rattle.vlt_core.specs.declared.rules.TheConstants as rule
use Rattle.vlt_link_laws.specs.CoreMoves.Moves.{Moves, moved_ty, moved_case, moved_key}
use Rattle.vlt_link_laws.proofs.OfCoreMoves.Looks.{moved_variant_of, variant_moves}
use Rattle.vlt_kinds_types.specs.Names.Refusals.{refuse_if}
use Rattle.vlt_kinds_types.specs.Kinds.{Kinds}
use Rattle.vlt_resolve_exprs.specs.Types.{then_with}
use Rattle.vlt_resolve_exprs.specs.Scopes.{Scope, with_focus_key, with_var}
use Rattle.vlt_resolve_exprs.specs.Bindings.{new_key_refused, new_var_refused}
use Rattle.vlt_resolve_calls.specs.Builds.{Case, cases_of, case_at, case_in, case_of_tick}
use Rattle.vlt_elaboration.specs.Switches.{arm_names, is_among, are_distinct, case_names, all_among, covers, variant_covered, cases_refused, switch_refused, arm_case, arm_refused, arm_scope, arm_numbers, focused_type, focused_refused, focus_ty, keyed_scope, bound_scope, bound_refused, focus_refused}
use Rattle.vlt_link_laws.specs.Moves.Apt.{HasArm}
use Rattle.vlt_link_laws.specs.Moves.Sees.{Sees, moved_scope, AreFree}
use Rattle.vlt_link_laws.proofs.OfMoves.Empty.{cons_not_nil, no_left, no_right, none_of_both, not_broken, quiet, not_false}
use Rattle.vlt_link_laws.proofs.OfMoves.Scoping.{with_var_moves}
use Rattle.vlt_link_laws.proofs.OfMoves.Binding.{new_var_fine, new_key_fine, several_fine, several_same, with_several_moves}
use Rattle.vlt_link_laws.proofs.OfMoves.Builds.{moved_the_case, cases_move, tick_moves}

and_left : (x y : Bool) → (x && y) ≡ true → x ≡ true
and_left true y e = refl
and_left false y e = e

and_right : (x y : Bool) → (x && y) ≡ true → y ≡ true
and_right true y e = e
and_right false y e = absurd (true≢false (sym e))

same_names : (m : Moves) (cs : List CaseDecl) → case_names (map (moved_case m) cs) ≡ case_names cs
same_names m [] = refl
same_names m (c ∷ cs) = ap (λ ns. c.name ∷ ns) (same_names m cs)

-- a name among those of the cases is one's
found_case : (n : List ℕ) (cs : List CaseDecl) → is_among (case_names cs) n ≡ true → nat_lt (prefix_len (λ c. not (bytes_eq n c.name)) cs) (length cs) ≡ true
found_case n [] e = absurd (true≢false (sym e))
found_case n (c ∷ cs) e = by (bytes_eq n c.name) (found_case n cs) e
  where
    by : (x : Bool) → (is_among (case_names cs) n ≡ true → nat_lt (prefix_len (λ c. not (bytes_eq n c.name)) cs) (length cs) ≡ true) → (x || is_among (case_names cs) n) ≡ true →
        nat_lt (cond (not x) (1 + prefix_len (λ c. not (bytes_eq n c.name)) cs) 0) (suc (length cs)) ≡ true
    by true more e = lt-ltb 0 (suc (length cs)) (omega arith)
    by false more e = let h = ltb-true (prefix_len (λ c. not (bytes_eq n c.name)) cs) (length cs) (more e) in lt-ltb (1 + prefix_len (λ c. not (bytes_eq n c.name)) cs) (suc (length cs)) (omega (arith, h))

pub case_known : (cs : List CaseDecl) (args : List ℕ) (tick : Name) → is_among (case_names cs) (drop 1 tick.text) ≡ true → (c : Case) × (case_in cs args tick ≡ Some c)
unfolding case_in
case_known cs args tick e =
    let i = prefix_len (λ c. not (bytes_eq (drop 1 tick.text) c.name)) cs in
    (case_at cs args i, ap (λ (x : Bool). option_map (case_at cs args) (cond x (Some i) None)) (found_case (drop 1 tick.text) cs e))

-- each arm is of a case of the variable's variant
abbrev pub IsCovered : Kinds → Option Ty → Arms → Type 0
IsCovered a ty s.no_arms = Unit {0}
IsCovered a ty (s.arm tick vs b at rest) = ((c : Case) × (arm_case a ty tick ≡ Some c)) × IsCovered a ty rest

module _ (m : Moves) (a b : Kinds) (sees : Sees m a b) where
  covered_each : (ty : Ty) (v : VariantOf) → variant_in (Some ty) ≡ Some v → (arms : Arms) → all_among (case_names (cases_of a v.type)) (arm_names arms) ≡ true → IsCovered a (Some ty) arms
  unfolding case_of_tick
  covered_each ty v is s.no_arms e = tt
  covered_each ty v is (s.arm tick vs y at rest) e =
      let c = case_known (cases_of a v.type) v.args tick (and_left (is_among (case_names (cases_of a v.type)) (drop 1 tick.text)) (all_among (case_names (cases_of a v.type)) (arm_names rest)) e) in (
        (c.0, ap (λ o. then_with o (λ v. case_in (cases_of a v.type) v.args tick)) is ∙ c.1),
        covered_each ty v is rest (and_right (is_among (case_names (cases_of a v.type)) (drop 1 tick.text)) (all_among (case_names (cases_of a v.type)) (arm_names rest)) e),
      )

  -- a switch with an arm is on a variant
  variant_of_arms : (t : ℕ) (arms : Arms) → HasArm arms → covers (arm_names arms) (case_names (cases_of a t)) ≡ true → (x : VariantDecl) × (slice_get a.types t ≡ Some (a_variant x))
  variant_of_arms t s.no_arms some e = absurd some
  variant_of_arms t (s.arm tick vs y at rest) some e = by (slice_get a.types t) refl e
    where
      by : (o : Option TypeDecl) → slice_get a.types t ≡ o → covers (arm_names (s.arm tick vs y at rest)) (case_names (cases_in o)) ≡ true → (x : VariantDecl) × (slice_get a.types t ≡ Some (a_variant x))
      by None is e = absurd (true≢false (sym (and_right (all_among (case_names (cases_in None)) (arm_names (s.arm tick vs y at rest))) _ e)))
      by (Some (an_abstract n i)) is e = absurd (true≢false (sym (and_right (all_among (case_names (cases_in None)) (arm_names (s.arm tick vs y at rest))) _ e)))
      by (Some (a_struct x)) is e = absurd (true≢false (sym (and_right (all_among (case_names (cases_in None)) (arm_names (s.arm tick vs y at rest))) _ e)))
      by (Some (a_variant x)) is e = (x, is)

  record Covered (ty : Ty) (arms : Arms) : Type 0 where
    variant_of : VariantOf
    is : variant_in (Some ty) ≡ Some variant_of
    covered : covers (arm_names arms) (case_names (cases_of a variant_of.type)) ≡ true

  covered_by : (ty : Ty) (arms : Arms) → variant_covered a (variant_in (Some ty)) (arm_names arms) ≡ true → Covered ty arms
  covered_by ty arms e = by (variant_in (Some ty)) refl e
    where
      by : (o : Option VariantOf) → variant_in (Some ty) ≡ o → variant_covered a o (arm_names arms) ≡ true → Covered ty arms
      by None is e = absurd (true≢false (sym e))
      by (Some v) is e = record { variant_of = v; is = is; covered = e }

  covered_ty : (o : Option Ty) (x : Name) (arms : Arms) (at : ℕ) → switch_refused a o x (arm_names arms) at ≡ [] → (ty : Ty) × (o ≡ Some ty) × Covered ty arms
  unfolding switch_refused cases_refused
  covered_ty None x arms at none = absurd (cons_not_nil _ [] (no_right (refuse_if (not (are_distinct (arm_names arms))) rule.WRONG_SWITCH at) _ none))
  covered_ty (Some ty) x arms at none =
      (ty, refl, covered_by ty arms (not_false _ (not_broken _ rule.WRONG_SWITCH at (no_right (refuse_if (not (are_distinct (arm_names arms))) rule.WRONG_SWITCH at) _ none))))

  pub switch_covered : (o : Option Ty) (x : Name) (arms : Arms) (at : ℕ) → switch_refused a o x (arm_names arms) at ≡ [] → IsCovered a o arms
  switch_covered o x arms at none =
      let h = covered_ty o x arms at none in
      subst (λ o. IsCovered a o arms) (sym h.1) (covered_each h.0 h.2.variant_of h.2.is arms (and_left (all_among (case_names (cases_of a h.2.variant_of.type)) (arm_names arms)) (all_among (arm_names arms) (case_names (cases_of a h.2.variant_of.type))) h.2.covered))

  pub switch_fine : (o : Option Ty) (x : Name) (arms : Arms) (at : ℕ) → HasArm arms → switch_refused a o x (arm_names arms) at ≡ [] → switch_refused b (option_map (moved_ty m) o) x (arm_names arms) at ≡ []
  unfolding switch_refused cases_refused
  switch_fine o x arms at some none =
      let h = covered_ty o x arms at none in
      let t = h.2.variant_of.type in
      let d = variant_of_arms t arms some h.2.covered in
      none_of_both _ _ (no_left (refuse_if (not (are_distinct (arm_names arms))) rule.WRONG_SWITCH at) _ none)
      (ap (λ o. cases_refused b (option_map (moved_ty m) o) x (arm_names arms) at) h.1 ∙
      (ap (λ v. refuse_if (not (variant_covered b v (arm_names arms))) rule.WRONG_SWITCH at) (variant_moves m (Some h.0) ∙ ap (option_map (moved_variant_of m)) h.2.is) ∙
      (ap (λ cs. refuse_if (not (covers (arm_names arms) (case_names cs))) rule.WRONG_SWITCH at) (cases_move m a b sees t d.0 d.1) ∙
      (ap (λ ns. refuse_if (not (covers (arm_names arms) ns)) rule.WRONG_SWITCH at) (same_names m (cases_of a t)) ∙
      quiet _ rule.WRONG_SWITCH at (ap not h.2.covered)))))

  -- ---- arms

  pub arm_case_moves : (o : Option Ty) (tick : Name) (c : Case) → arm_case a o tick ≡ Some c → arm_case b (option_map (moved_ty m) o) tick ≡ Some (moved_the_case m a b sees c)
  arm_case_moves None tick c e = absurd (none-some c e)
  arm_case_moves (Some ty) tick c e = tick_moves m a b sees ty tick c e

  pub arm_fine : (scope : Scope) (c : Case) (tick : Name) (vs : List Name) → AreFree a b vs → arm_refused a scope (Some c) tick vs ≡ [] → arm_refused b (moved_scope m scope) (Some (moved_the_case m a b sees c)) tick vs ≡ []
  unfolding arm_refused
  arm_fine scope c tick vs free none = several_fine m a b scope vs c.payload tick.at.from free none

  pub arm_scope_moves : (scope : Scope) (c : Case) (vs : List Name) → moved_scope m (arm_scope scope (Some c) vs) ≡ arm_scope (moved_scope m scope) (Some (moved_the_case m a b sees c)) vs
  unfolding arm_scope
  arm_scope_moves scope c vs = with_several_moves m scope vs c.payload

  pub same_arm_numbers : (scope : Scope) (c : Case) (vs : List Name) → arm_numbers (moved_scope m scope) (Some (moved_the_case m a b sees c)) vs ≡ arm_numbers scope (Some c) vs
  unfolding arm_numbers
  same_arm_numbers scope c vs = several_same m scope vs c.payload

  -- ---- foci

  focus_key_moves : (s : Scope) (n : List ℕ) (t : Option ℕ) → moved_scope m (with_focus_key s n t) ≡ with_focus_key (moved_scope m s) n (option_map m.types t)
  focus_key_moves s n t =
      ap₂ (λ (ks : List core.KeyDecl) (l : ℕ). let r : Scope = record { names = insert_entry bytes_eq s.names n (a_key l); keys = ks; vars = (moved_scope m s).vars; block_keys = s.block_keys; block_vars = s.block_vars } in r)
      (map-append (moved_key m) s.keys (record { name = n; key_type = t } ∷ [])) (sym (length-map s.keys (moved_key m)))

  -- the guard of a focus that isn't refused
  record Focused (o : Option Ty) : Type 0 where
    key : ℕ
    type : ℕ
    args : List ℕ
    is : o ≡ Some (guarded key type args)

  focused : (o : Option Ty) (y : Name) → focused_refused o y ≡ [] → Focused o
  unfolding focused_refused
  focused None y none = absurd (cons_not_nil _ [] none)
  focused (Some (guarded k t args)) y none = record { key = k; type = t; args = args; is = refl }
  focused (Some int) y none = absurd (cons_not_nil _ [] none)
  focused (Some bool) y none = absurd (cons_not_nil _ [] none)
  focused (Some (tracked k t x)) y none = absurd (cons_not_nil _ [] none)
  focused (Some (owning S t x)) y none = absurd (cons_not_nil _ [] none)
  focused (Some (variant t x)) y none = absurd (cons_not_nil _ [] none)
  focused (Some (owning_variant t x)) y none = absurd (cons_not_nil _ [] none)

  keyed_moves : (scope : Scope) (o : Option Ty) (h : Focused o) (k : Name) → moved_scope m (keyed_scope scope o k) ≡ keyed_scope (moved_scope m scope) (option_map (moved_ty m) o) k
  keyed_moves scope o h k =
      focus_key_moves scope k.text (focused_type o) ∙
      ap (with_focus_key (moved_scope m scope) k.text) (ap (λ o. option_map m.types (focused_type o)) h.is ∙ sym (ap (λ o. focused_type (option_map (moved_ty m) o)) h.is))

  bound_moves_at : (scope : Scope) (o : Option Ty) (h : Focused o) (k z : Name) → moved_scope m (bound_scope scope o k z) ≡ bound_scope (moved_scope m scope) (option_map (moved_ty m) o) k z
  bound_moves_at scope o h k z =
      with_var_moves m (keyed_scope scope o k) z.text (focus_ty o (length scope.keys)) ∙
      ap₂ (λ x y. with_var x z.text y) (keyed_moves scope o h k)
      (ap (λ o. moved_ty m (focus_ty o (length scope.keys))) h.is ∙
      (ap (λ n. tracked n (m.types h.type) h.args) (sym (length-map scope.keys (moved_key m))) ∙
      sym (ap (λ o. focus_ty (option_map (moved_ty m) o) (length (map (moved_key m) scope.keys))) h.is)))

  focus_calm : (scope : Scope) (o : Option Ty) (y k z : Name) → focus_refused a scope o y k z ≡ [] → Focused o
  unfolding focus_refused
  focus_calm scope o y k z none = focused o y (no_left (focused_refused o y) _ none)

  pub bound_moves : (scope : Scope) (o : Option Ty) (y k z : Name) → focus_refused a scope o y k z ≡ [] → moved_scope m (bound_scope scope o k z) ≡ bound_scope (moved_scope m scope) (option_map (moved_ty m) o) k z
  bound_moves scope o y k z none = bound_moves_at scope o (focus_calm scope o y k z none) k z

  pub focus_fine : (scope : Scope) (o : Option Ty) (y k z : Name) → AreFree a b (k ∷ z ∷ []) → focus_refused a scope o y k z ≡ [] → focus_refused b (moved_scope m scope) (option_map (moved_ty m) o) y k z ≡ []
  unfolding focus_refused bound_refused focused_refused
  focus_fine scope o y k z free none =
      let h = focus_calm scope o y k z none in
      let back = no_right (focused_refused o y) _ none in
      none_of_both _ _ (ap (λ o. focused_refused (option_map (moved_ty m) o) y) h.is)
      (none_of_both _ _ (new_key_fine m a b scope k free.0 (no_left (new_key_refused a scope k) _ back))
      (subst (λ sc. new_var_refused b sc z ≡ []) (keyed_moves scope o h k) (new_var_fine m a b (keyed_scope scope o k) z free.1.0 (no_right (new_key_refused a scope k) _ back))))
