-- Statements without blocks that break no rule have good rows.
use Rattle.std.proofs.Common.{◌≡◌, ℕ, zero, suc, Bool, true, false, ◌==◌, List, [], ◌∷◌, ◌++◌, map, length, Option, Some, None, refl, sym, subst, ⊎_elim}
use Rattle.std.specs.Prelude.{nat_lt, slice_get}
use Rattle.std.specs.List.{filter_map, cons_option}
use Rattle.std.specs.Option.{option_map}
use Rattle.std.proofs.lemmas.Bool.{eq-eqb}
use Rattle.vlt_core.specs.Core.{Ty, int, bool, tracked, owning, guarded, variant, owning_variant, Tok, a_var, Simple, set, input, print, put, make, become, release, drop, own, unpack, build, swap, open_into, adopt, CaseDecl, CaseKey, Func, Program}
use Rattle.vlt_core.specs.Lookups.{var_type, is_owning, owning_states, VariantOf, variant_in, variant_of, KeyIn, keys_in, case_keys, case_at}
use Rattle.vlt_core.specs.Maps.{Row, wants_absent, wants_held}
use Rattle.vlt_core.specs.Rows.{on_option, fill_rows, expr_rows, touch_rows, operand_rows, operands_rows, simple_rows}
use Rattle.vlt_core.specs.KindedHeads.{has}
use Rattle.vlt_core.specs.KindedScopes.{Ids, own_key, with_binding, use_broken, binding_broken, target_broken, with_target}
use Rattle.vlt_core.specs.KindedOperands.{misfit, unless_owning, type_of_expr, expr_broken, touch_broken, operands_broken, field_type, not_owning_broken}
use Rattle.vlt_core.specs.KindedStatements.{tracked_broken, tracked_type, wanted_of, is_owning_object, set_broken, made_broken, made_types, owning_object, objects_apart, guarded_object, is_guarded_type, guard_key, keys_differ, droppable_broken, swap_broken, with_bindings, opened_broken, simple_broken, ids_after}
use Rattle.vlt_core.specs.declared.rules.TheConstants as rule
use Rattle.vlt_core_laws.specs.States.{HasStates, OwnsFilled}
use Rattle.vlt_core_laws.proofs.Unbroken.{left_empty, right_empty, some_same, some_not_none}
use Rattle.vlt_core_laws.proofs.Ids.{type_keys, keys_in_type, AreTyped, or_right, or_split, not_both, same_number}
use Rattle.vlt_core_laws.proofs.Binding.{has_first, binding_var, target_var}
use Rattle.vlt_core_laws.proofs.Going.{opened_goes}
use Rattle.vlt_core_laws.proofs.Good.{Good, AllRows, all_both, all_filled, KeysIn, reference_in, held_good, gone_good, made_good, empty_good, fill_good, full_good, touch_good, key_good, end_good}
use Rattle.vlt_core_laws.proofs.Scoping.{Covers, use_in, keys_in as keys_of_var, expr_good, operand_good, operands_good}

pub has_only : (v w : ℕ) → has (v ∷ []) w ≡ true → v ≡ w
has_only v w m = same_number v w (⊎_elim (λ x. x) (λ x. not_both false x refl) (or_split (v == w) false m))

pub has_get : (xs : List ℕ) (i j : ℕ) → slice_get xs i ≡ Some j → has xs j ≡ true
has_get [] i j e = absurd (some_not_none j (sym e))
has_get (x ∷ xs) zero j e = subst (λ j. has (x ∷ xs) j ≡ true) (some_same x j e) (has_first x xs)
has_get (x ∷ xs) (suc i) j e = or_right (x == j) (has xs j) (has_get xs i j e)

-- the keys that a case lists are among those of the type
listed_keys : (args : List ℕ) (ks : List CaseKey) → (Q : Row → Type 0) → (go : KeyIn → Row) →
    ((k : ℕ) (i : ℕ) (c : CaseKey) → has args k ≡ true → slice_get ks i ≡ Some c → Q (go (record { key = k; states = c.states }))) →
    AllRows Q (map go (filter_map (λ k. option_map (λ j. record { key = j; states = k.states }) (slice_get args k.position)) ks))
listed_keys args [] Q go q = tt
listed_keys args (c ∷ cs) Q go q = by (listed_keys args cs Q go (λ k i d h e. q k (suc i) d h e)) (slice_get args c.position) refl
  where
    by : AllRows Q (map go (filter_map (λ k. option_map (λ j. record { key = j; states = k.states }) (slice_get args k.position)) cs)) → (o : Option ℕ) → slice_get args c.position ≡ o →
        AllRows Q (map go (cons_option (option_map {T = ℕ} {U = KeyIn} (λ j. record { key = j; states = c.states }) o) (filter_map (λ k. option_map (λ j. record { key = j; states = k.states }) (slice_get args k.position)) cs)))
    by rest None e = rest
    by rest (Some j) e = (q j zero c (has_get args c.position j e) refl, rest)

pub case_keys_rows : (p : Program) (t : VariantOf) (c : ℕ) (Q : Row → Type 0) (go : KeyIn → Row) →
    ((d : CaseDecl) (k : ℕ) (i : ℕ) (x : CaseKey) → case_at p t.type c ≡ Some d → has t.args k ≡ true → slice_get d.keys i ≡ Some x → Q (go (record { key = k; states = x.states }))) →
    AllRows Q (map go (case_keys p t c))
case_keys_rows p t c Q go q = by (case_at p t.type c) refl
  where
    by : (o : Option CaseDecl) → case_at p t.type c ≡ o → AllRows Q (map go (keys_in t.args o))
    by None e = tt
    by (Some d) e = listed_keys t.args d.keys Q go (λ k i x h g. q d k i x e h g)

variant_args_in : (o : Option Ty) (t : VariantOf) → variant_in o ≡ Some t → (k : ℕ) → has t.args k ≡ true → has (keys_in_type o) k ≡ true
variant_args_in (Some (variant u args)) t e k h = subst (λ t. has t.args k ≡ true) (sym (some_same _ t e)) h
variant_args_in (Some (owning_variant u args)) t e k h = subst (λ t. has t.args k ≡ true) (sym (some_same _ t e)) h
variant_args_in (Some int) t e k h = absurd (some_not_none t (sym e))
variant_args_in (Some bool) t e k h = absurd (some_not_none t (sym e))
variant_args_in (Some (tracked j u args)) t e k h = absurd (some_not_none t (sym e))
variant_args_in (Some (owning r u args)) t e k h = absurd (some_not_none t (sym e))
variant_args_in (Some (guarded j u args)) t e k h = absurd (some_not_none t (sym e))
variant_args_in None t e k h = absurd (some_not_none t (sym e))

pub variant_keys : (f : Func) (v : ℕ) (t : VariantOf) → variant_of f v ≡ Some t → (k : ℕ) → has t.args k ≡ true → has (type_keys f v) k ≡ true
variant_keys f v t e k h = variant_args_in (var_type f v) t e k h

pub option_rows : {A : Type 0} (Q : Row → Type 0) (o : Option A) (go : A → List Row) → ((x : A) → o ≡ Some x → AllRows Q (go x)) → AllRows Q (on_option o go)
option_rows Q None go q = tt
option_rows Q (Some x) go q = q x refl

module _ (p : Program) (f : Func) (ranged : (v k : ℕ) → has (type_keys f v) k ≡ true → nat_lt k (length f.keys) ≡ true) (g : Tok → Bool) where
  opened_vars : (vs : List ℕ) (ws : List Ty) (ids : Ids) (v : ℕ) → opened_broken p f ids ws vs ≡ [] → has vs v ≡ true → has (with_bindings f vs ids).vars v ≡ true
  opened_vars [] ws ids v e h = not_both false h refl
  opened_vars (u ∷ us) [] ids v e h =
      let ids2 = with_binding f None u ids in
      let b = left_empty (binding_broken f ids None u) (opened_broken p f ids2 [] us) e in
      let rest = right_empty (binding_broken f ids None u) (opened_broken p f ids2 [] us) e in
      ⊎_elim (λ same. (opened_goes p f ranged us [] ids2 rest).vars_stay v (subst (λ v. has ids2.vars v ≡ true) (same_number u v same) (binding_var f ranged ids None u b)))
      (λ there. opened_vars us [] ids2 v rest there) (or_split (u == v) (has us v) h)
  opened_vars (u ∷ us) (w ∷ ws) ids v e h =
      let ids2 = with_binding f None u ids in
      let b = right_empty (misfit (Some w) _) (binding_broken f ids None u) (left_empty (misfit (Some w) _ ++ binding_broken f ids None u) (opened_broken p f ids2 ws us) e) in
      let rest = right_empty (misfit (Some w) _ ++ binding_broken f ids None u) (opened_broken p f ids2 ws us) e in
      ⊎_elim (λ same. (opened_goes p f ranged us ws ids2 rest).vars_stay v (subst (λ v. has ids2.vars v ≡ true) (same_number u v same) (binding_var f ranged ids None u b)))
      (λ there. opened_vars us ws ids2 v rest there) (or_split (u == v) (has us v) h)

  -- what a part binds and what was in scope before is in scope
  module _ (h : HasStates p) (owned : OwnsFilled f) (ids : Ids) (covers : Covers f g ids) (typed : AreTyped f ids) where
    use_keys : (x : ℕ) → use_broken f ids x ≡ [] → KeysIn g f x
    use_keys x u = keys_of_var p f g ids covers typed x (use_in p f g ids covers typed x u)

    tracked_keys : (r x : ℕ) → tracked_broken f ids r x ≡ [] → KeysIn g f x
    tracked_keys r x b = use_keys x (left_empty (use_broken f ids x) _ b)

    following_keys : (ids2 : Ids) → Covers f g ids2 → AreTyped f ids2 → (x : ℕ) → has ids2.vars x ≡ true → KeysIn g f x
    following_keys ids2 covers2 typed2 x v k u = covers2.keys k (typed2.each x k v u)

    owned_by : (v : ℕ) → use_broken f ids v ≡ [] → g (a_var v) ≡ true
    owned_by v u = covers.vars v (use_in p f g ids covers typed v u)

    target_filled : (v : ℕ) → target_broken f ids v ≡ [] → Covers f g (with_target f v ids) → AllRows (Good g) (fill_rows f (v ∷ []))
    target_filled v b c =
        let there2 = target_var f ranged ids v b in
        all_filled (Good g) f (v ∷ []) (λ w m o. fill_good g w (c.vars w (subst (λ w. has (with_target f v ids).vars w ≡ true) (has_only v w m) there2)))

    pub simple_good : (s : Simple) → simple_broken p f ids s ≡ [] → Covers f g (ids_after f s ids) → AreTyped f (ids_after f s ids) → AllRows (Good g) (simple_rows p f s)
    simple_good (set v e) b c t = expr_good p f g ids covers typed e (left_empty (expr_broken p f ids e) (set_broken p f (var_type f v) e) (left_empty _ (target_broken f ids v) b))
    simple_good (input v more) b c t = tt
    simple_good (print e) b c t = expr_good p f g ids covers typed e (left_empty (expr_broken p f ids e) _ b)
    simple_good (put x i e) b c t =
        let front = left_empty (expr_broken p f ids e ++ touch_broken p f ids x i) (not_owning_broken rule.WRONG_SWAP (field_type p f x i)) (left_empty _ (misfit (unless_owning (field_type p f x i)) (type_of_expr p f e)) b) in
        all_both (Good g) (expr_rows p f e) (touch_rows p f x i) (expr_good p f g ids covers typed e (left_empty (expr_broken p f ids e) (touch_broken p f ids x i) front))
        (touch_good g p f x i (use_keys x (left_empty (use_broken f ids x) _ (right_empty (expr_broken p f ids e) (touch_broken p f ids x i) front))))
    simple_good (make x args) b c t =
        let made = binding_broken f ids (own_key f x) x in
        let front = left_empty (made_broken p (length args) (var_type f x) ++ operands_broken p f ids (made_types p (var_type f x)) args) made b in
        let there2 = binding_var f ranged ids (own_key f x) x (right_empty (made_broken p (length args) (var_type f x) ++ operands_broken p f ids (made_types p (var_type f x)) args) made b) in
        all_both (Good g) (operands_rows p f args) _ (operands_good p f g ids covers typed (made_types p (var_type f x)) args (right_empty (made_broken p (length args) (var_type f x)) _ front))
        (key_good g f x _ _ (λ r e. made_good g r.key wants_absent _ tt (reference_in g f x (following_keys (ids_after f (make x args) ids) c t x there2) r e) 0 (eq-eqb 0 0 refl)))
    simple_good (become x state) b c t =
        key_good g f x _ _ (λ r e. made_good g r.key wants_held _ tt (reference_in g f x (tracked_keys rule.WRONG_BECOME x (left_empty (tracked_broken f ids rule.WRONG_BECOME x) _ b)) r e) state (eq-eqb state state refl))
    simple_good (release x) b c t = end_good g p f x (tracked_keys rule.WRONG_RELEASE x (left_empty (tracked_broken f ids rule.WRONG_RELEASE x) _ b))
    simple_good (drop v) b c t =
        (empty_good g v (owned_by v (left_empty (use_broken f ids v) _ b)), tt)
    simple_good (own v value) b c t =
        let front = left_empty _ (target_broken f ids v) b in
        all_both (Good g) (operand_rows p f value) (fill_rows f (v ∷ [])) (operand_good p f g ids covers typed _ value (right_empty (wanted_of (var_type f v) is_owning) _ front))
        (target_filled v (right_empty _ (target_broken f ids v) b) c)
    simple_good (unpack x v) b c t =
        let made = binding_broken f ids (own_key f x) x in
        let there2 = binding_var f ranged ids (own_key f x) x (right_empty _ made b) in
        let front = left_empty (use_broken f ids v ++ wanted_of (var_type f v) is_owning_object) _ (left_empty _ (objects_apart (owning_object (var_type f v)) (tracked_type (var_type f x))) (left_empty _ made b)) in (
          empty_good g v (owned_by v (left_empty (use_broken f ids v) _ front)),
          option_rows (Good g) (owning_states f v) _ (λ states e. key_good g f x _ _ (λ r q. let some = owned v states e in
              made_good g r.key wants_absent states tt (reference_in g f x (following_keys (ids_after f (unpack x v) ids) c t x there2) r q) some.state some.has)),
        )
    simple_good (build v case args) b c t =
        let front = left_empty _ (target_broken f ids v) b in
        let there2 = target_var f ranged ids v (right_empty _ (target_broken f ids v) b) in
        all_both (Good g) _ (fill_rows f (v ∷ []))
        (all_both (Good g) (operands_rows p f args) _ (operands_good p f g ids covers typed _ args (right_empty _ (operands_broken p f ids _ args) front))
        (option_rows (Good g) (variant_of f v) _ (λ ty e. case_keys_rows p ty case (Good g) _
        (λ d k i x _ m _. gone_good g k _ (following_keys (ids_after f (build v case args) ids) c t v there2 k (variant_keys f v ty e k m))))))
        (target_filled v (right_empty _ (target_broken f ids v) b) c)
    simple_good (swap x i v) b c t =
        let front = left_empty (tracked_broken f ids rule.WRONG_SWAP x ++ use_broken f ids v) (swap_broken p f x i v) b in
        let u = right_empty (tracked_broken f ids rule.WRONG_SWAP x) (use_broken f ids v) front in
        let base = left_empty (tracked_broken f ids rule.WRONG_SWAP x) (use_broken f ids v) front in
        all_both (Good g) (touch_rows p f x i) _ (touch_good g p f x i (tracked_keys rule.WRONG_SWAP x base))
        (full_good g v (owned_by v u), tt)
    simple_good (open_into x vs) b c t =
        let front = left_empty _ (opened_broken p f ids _ vs) b in
        all_both (Good g) _ (fill_rows f vs) (end_good g p f x (tracked_keys rule.WRONG_RELEASE x (left_empty (tracked_broken f ids rule.WRONG_RELEASE x) _ front)))
        (all_filled (Good g) f vs (λ w m o. fill_good g w (c.vars w (opened_vars vs _ ids w (right_empty _ (opened_broken p f ids _ vs) b) m))))
    simple_good (adopt y x r) b c t =
        let front = left_empty _ (droppable_broken p f x) (left_empty _ (wanted_of (var_type f y) is_guarded_type)
        (left_empty _ (objects_apart (guarded_object (var_type f y)) (tracked_type (var_type f x))) (left_empty _ (keys_differ (guard_key (var_type f y)) (own_key f r)) (left_empty _ (target_broken f ids y) b)))) in
        all_both (Good g) _ _ (end_good g p f x (tracked_keys rule.WRONG_TYPE x (left_empty (tracked_broken f ids rule.WRONG_TYPE x) (tracked_broken f ids rule.WRONG_TYPE r) front)))
        (key_good g f r _ _ (λ q e. held_good g q.key (reference_in g f r (tracked_keys rule.WRONG_TYPE r (right_empty (tracked_broken f ids rule.WRONG_TYPE x) (tracked_broken f ids rule.WRONG_TYPE r) front)) q e)))
