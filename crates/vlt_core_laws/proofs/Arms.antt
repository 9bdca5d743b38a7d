-- The variables of an arm, and the rows of returns.
use Rattle.std.proofs.Common.{◌≡◌, ℕ, Bool, true, false, not, ◌==◌, if◌then◌else◌, List, [], ◌∷◌, ◌++◌, map, length, Option, Some, None, refl, sym, subst, ◌∙◌, ◌⊎◌, inl, inr, ⊎_elim}
use Rattle.std.specs.Prelude.{nat_lt, filter}
use Rattle.std.specs.List.{flat_map}
use Rattle.std.proofs.lemmas.List.Concat.{flat_map-cons}
use Rattle.vlt_core.specs.Core.{Ty, Tok, a_var, Expr, number, truth, var, field, unary, binary, Operand, pure, move, pack, Func, Program}
use Rattle.vlt_core.specs.Lookups.{var_type, reference_of, guarded_of, is_new, is_given_back}
use Rattle.vlt_core.specs.Maps.{Row, away_row}
use Rattle.vlt_core.specs.Rows.{on_option, touch_rows, expr_rows, operand_rows, returned_row, new_rows, given_back_rows, tokens_of, return_rows}
use Rattle.vlt_core.specs.KindedHeads.{unless, has}
use Rattle.vlt_core.specs.KindedScopes.{Ids, with_var, binding_broken, keys_broken, fresh_broken}
use Rattle.vlt_core.specs.KindedOperands.{misfit}
use Rattle.vlt_core.specs.KindedBodies.{with_vars, arm_vars_broken}
use Rattle.vlt_core.specs.declared.rules.TheConstants as rule
use Rattle.vlt_core_laws.specs.Shown.{IsFilled, IsOwnKind, AreFilled}
use Rattle.vlt_core_laws.proofs.Unbroken.{left_empty, right_empty}
use Rattle.vlt_core_laws.proofs.Ids.{was, type_keys, AreTyped, or_split, or_left, or_right, not_both, same_number, was_not}
use Rattle.vlt_core_laws.proofs.Binding.{has_first, chosen, var_there, with_var_is, keys_there, fresh_var}
use Rattle.vlt_core_laws.proofs.Good.{AllRows, all_both, all_key, all_mapped}
use Rattle.vlt_core_laws.proofs.Going.{var_grows, vars_grow}
use Rattle.vlt_core_laws.proofs.Simple.{option_rows}

-- ---- returns leave nothing

abbrev Filled : Row → Type 0
Filled r = IsFilled r.after × IsOwnKind r.after r.tok

all_filled_rows : (rs : List Row) → AllRows Filled rs → AreFilled rs
all_filled_rows [] a = tt
all_filled_rows (r ∷ rs) a = (a.0.0, a.0.1, all_filled_rows rs a.1)

all_flat : {A : Type 0} (go : A → List Row) (xs : List A) → ((x : A) → AllRows Filled (go x)) → AllRows Filled (flat_map go xs)
all_flat go [] q = tt
all_flat go (x ∷ xs) q = subst (AllRows Filled) (sym (flat_map-cons go x xs)) (all_both Filled (go x) (flat_map go xs) (q x) (all_flat go xs q))

touch_filled : (p : Program) (f : Func) (x i : ℕ) → AllRows Filled (touch_rows p f x i)
touch_filled p f x i = all_both Filled _ _ (all_key Filled (reference_of f x) _ (λ r e. (tt, tt))) (all_key Filled (guarded_of f x) _ (λ r e. (tt, tt)))

expr_filled : (p : Program) (f : Func) (e : Expr) → AllRows Filled (expr_rows p f e)
expr_filled p f (number z) = tt
expr_filled p f (truth b) = tt
expr_filled p f (var v) = tt
expr_filled p f (field x i) = touch_filled p f x i
expr_filled p f (unary op a) = expr_filled p f a
expr_filled p f (binary op a b) = all_both Filled (expr_rows p f a) (expr_rows p f b) (expr_filled p f a) (expr_filled p f b)

operand_filled : (p : Program) (f : Func) (o : Operand) → AllRows Filled (operand_rows p f o)
operand_filled p f (pure e) = expr_filled p f e
operand_filled p f (move v) = ((tt, tt), tt)
operand_filled p f (pack x states) = all_key Filled (reference_of f x) _ (λ r e. (tt, tt))

returned_filled : (p : Program) (f : Func) (value : Option Operand) (e : _) → AllRows Filled (returned_row p f value e)
returned_filled p f (Some (pure (var x))) e = all_key Filled (reference_of f x) _ (λ r e. (tt, tt))
returned_filled p f (Some (pure (number z))) e = tt
returned_filled p f (Some (pure (truth b))) e = tt
returned_filled p f (Some (pure (field x i))) e = tt
returned_filled p f (Some (pure (unary op a))) e = tt
returned_filled p f (Some (pure (binary op a b))) e = tt
returned_filled p f (Some (move v)) e = tt
returned_filled p f (Some (pack x states)) e = tt
returned_filled p f None e = tt

pub return_filled : (p : Program) (f : Func) (value : Option Operand) → AreFilled (return_rows p f value)
return_filled p f value = all_filled_rows (return_rows p f value)
    (all_both Filled _ (map away_row (tokens_of f))
    (all_both Filled _ (given_back_rows p f)
    (all_both Filled (on_option value (operand_rows p f)) (new_rows p f value) (option_rows Filled value _ (λ o e. operand_filled p f o)) (all_flat (returned_row p f value) (filter is_new f.clause) (returned_filled p f value)))
    (all_mapped Filled _ (filter is_given_back f.clause) (λ e. (tt, tt))))
    (all_mapped Filled away_row (tokens_of f) (λ t. (tt, tt))))

-- ---- the variables of an arm

pub record ArmVars (f : Func) (ids ids1 : Ids) (vs : List ℕ) : Type 0 where
  pub fresh : (v : ℕ) → has vs v ≡ true → has ids.vars_ever v ≡ false
  pub there : (v : ℕ) → has vs v ≡ true → has ids1.vars v ≡ true
  pub ever : (v : ℕ) → has vs v ≡ true → has ids1.vars_ever v ≡ true
  pub vars : (v : ℕ) → has ids1.vars v ≡ true → (has ids.vars v ≡ true) ⊎ (has vs v ≡ true)
  pub keys : ids1.keys ≡ ids.keys
  pub typed : AreTyped f ids → AreTyped f ids1

module _ (p : Program) (f : Func) (ranged : (v k : ℕ) → has (type_keys f v) k ≡ true → nat_lt k (length f.keys) ≡ true) where
  arm_var : (ids : Ids) (v : ℕ) → binding_broken f ids None v ≡ [] → ArmVars f ids (with_var f v ids) (v ∷ [])
  arm_var ids v e = subst (λ x. ArmVars f ids x (v ∷ [])) (sym (with_var_is f ranged v ids there)) (record {
    fresh = λ w h. subst (λ w. has ids.vars_ever w ≡ false) (only v w h) new;
    there = λ w h. subst (λ w. has (v ∷ ids.vars) w ≡ true) (only v w h) (has_first v ids.vars);
    ever = λ w h. subst (λ w. has (v ∷ ids.vars_ever) w ≡ true) (only v w h) (has_first v ids.vars_ever);
    vars = λ w h. ⊎_elim (λ x. inr (or_left (v == w) false x)) (λ x. inl x) (or_split (v == w) (has ids.vars w) h);
    keys = refl;
    typed = λ old. record { each = λ w k h u. ⊎_elim (λ same. keys_there f ranged v ids typed k (subst (λ w. has (type_keys f w) k ≡ true) (sym (same_number v w same)) u)) (λ x. old.each w k x u) (or_split (v == w) (has ids.vars w) h) };
  })
    where
      only : (v w : ℕ) → has (v ∷ []) w ≡ true → v ≡ w
      only v w h = same_number v w (⊎_elim (λ x. x) (λ x. not_both false x refl) (or_split (v == w) false h))

      there : nat_lt v (length f.vars) ≡ true
      there = var_there f ranged ids None v e

      new : has ids.vars_ever v ≡ false
      new = fresh_var f ranged ids None v (chosen (nat_lt v (length f.vars)) _ there e)

      typed : keys_broken f ids (var_type f v) ≡ []
      typed = right_empty (unless (not (has ids.vars_ever v)) rule.NAME_TAKEN ++ fresh_broken f ids None) (keys_broken f ids (var_type f v)) (chosen (nat_lt v (length f.vars)) _ there e)

  arm_none : (ids : Ids) → ArmVars f ids ids []
  arm_none ids = record { fresh = λ v h. not_both false h refl; there = λ v h. not_both false h refl; ever = λ v h. not_both false h refl; vars = λ v h. inl h; keys = refl; typed = λ t. t }

  arm_more : (ids ids1 : Ids) (v : ℕ) (vs : List ℕ) → ArmVars f ids (with_var f v ids) (v ∷ []) → ArmVars f (with_var f v ids) ids1 vs → ((t : Tok) → was (with_var f v ids) t ≡ true → was ids1 t ≡ true) →
      ((w : ℕ) → has (with_var f v ids).vars w ≡ true → has ids1.vars w ≡ true) → ArmVars f ids ids1 (v ∷ vs)
  arm_more ids ids1 v vs a b grows stay = record {
    fresh = λ w h. ⊎_elim (λ x. a.fresh w (or_left (v == w) false x)) (λ x. was_not (has ids.vars_ever w) (has (with_var f v ids).vars_ever w) (λ y. var_grows p f ranged v ids (a_var w) y) (b.fresh w x)) (or_split (v == w) (has vs w) h);
    there = λ w h. ⊎_elim (λ x. stay w (a.there w (or_left (v == w) false x))) (λ x. b.there w x) (or_split (v == w) (has vs w) h);
    ever = λ w h. ⊎_elim (λ x. grows (a_var w) (a.ever w (or_left (v == w) false x))) (λ x. b.ever w x) (or_split (v == w) (has vs w) h);
    vars = λ w h. ⊎_elim (λ x. ⊎_elim (λ y. inl y) (λ y. inr (⊎_elim (λ z. or_left (v == w) (has vs w) z) (λ z. not_both false z refl) (or_split (v == w) false y))) (a.vars w x)) (λ x. inr (or_right (v == w) (has vs w) x)) (b.vars w h);
    keys = b.keys ∙ a.keys;
    typed = λ t. b.typed (a.typed t);
  }

  var_stays : (v : ℕ) (ids : Ids) (w : ℕ) → has ids.vars w ≡ true → has (with_var f v ids).vars w ≡ true
  var_stays v ids w e = by (nat_lt v (length f.vars))
    where
      by : (b : Bool) → has (if b then record ids { vars = v ∷ ids.vars; vars_ever = v ∷ ids.vars_ever } else ids).vars w ≡ true
      by true = or_right (v == w) (has ids.vars w) e
      by false = e

  vars_stay : (vs : List ℕ) (ids : Ids) (w : ℕ) → has ids.vars w ≡ true → has (with_vars f vs ids).vars w ≡ true
  vars_stay [] ids w e = e
  vars_stay (v ∷ vs) ids w e = vars_stay vs (with_var f v ids) w (var_stays v ids w e)

  pub arm_vars : (vs : List ℕ) (ws : List Ty) (ids : Ids) → arm_vars_broken f ids ws vs ≡ [] → ArmVars f ids (with_vars f vs ids) vs
  arm_vars [] ws ids e = arm_none ids
  arm_vars (v ∷ vs) [] ids e =
      let ids2 = with_var f v ids in
      arm_more ids (with_vars f vs ids2) v vs (arm_var ids v (left_empty (binding_broken f ids None v) (arm_vars_broken f ids2 [] vs) e))
      (arm_vars vs [] ids2 (right_empty (binding_broken f ids None v) (arm_vars_broken f ids2 [] vs) e)) (vars_grow p f ranged vs ids2) (vars_stay vs ids2)
  arm_vars (v ∷ vs) (w ∷ ws) ids e =
      let ids2 = with_var f v ids in
      let front = left_empty (misfit (Some w) (var_type f v) ++ binding_broken f ids None v) (arm_vars_broken f ids2 ws vs) e in
      arm_more ids (with_vars f vs ids2) v vs (arm_var ids v (right_empty (misfit (Some w) (var_type f v)) (binding_broken f ids None v) front))
      (arm_vars vs ws ids2 (right_empty (misfit (Some w) (var_type f v) ++ binding_broken f ids None v) (arm_vars_broken f ids2 ws vs) e)) (vars_grow p f ranged vs ids2) (vars_stay vs ids2)
