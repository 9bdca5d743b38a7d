-- It can't be that of tests neither all hold nor one fails first.
use Rattle.std.proofs.Common.{◌≡◌, ◌⊎◌, ◌<◌, inl, inr, ⊎_elim, ℕ, zero, suc, Bool, true, false, true≢false, IsTrue, List, [], ◌∷◌, refl, sym, subst, arith}
use Rattle.vlt_base.specs.Sure.{Surely}
use Rattle.vlt_base.proofs.Surely.{sure, surely, so, one_way}
use Rattle.vlt_core.specs.Core.{Tok, a_key, a_var}
use Rattle.vlt_core.specs.Maps.{Kind, is_absent, is_held, is_lent, is_full, kind_of, states_of, Status, HeldMap, IsStatusBelow, IsBelow, IsWanted}
use Rattle.vlt_keyset.specs.Pairs.{IsBefore}
use Rattle.cert_check.specs.Tests.{Test, row_test, below_test, lost_test, Holds, Hold, as_wanted, IsFirstApart, Failure, refused, lost, refusal, Fails, FirstFails}

-- ---- what can't fail to be so of statuses is so

true_so : (b : Bool) → Surely (IsTrue b) → IsTrue b
true_so true s = refl
true_so false s = absurd (s (λ e. true≢false (sym e)))

same_kind : (a b : Kind) → (a ≡ b) ⊎ (a ≡ b → ⊥)
same_kind is_absent is_absent = inl refl
same_kind is_absent is_held = inr (λ e. cc)
same_kind is_absent is_lent = inr (λ e. cc)
same_kind is_absent is_full = inr (λ e. cc)
same_kind is_held is_absent = inr (λ e. cc)
same_kind is_held is_held = inl refl
same_kind is_held is_lent = inr (λ e. cc)
same_kind is_held is_full = inr (λ e. cc)
same_kind is_lent is_absent = inr (λ e. cc)
same_kind is_lent is_held = inr (λ e. cc)
same_kind is_lent is_lent = inl refl
same_kind is_lent is_full = inr (λ e. cc)
same_kind is_full is_absent = inr (λ e. cc)
same_kind is_full is_held = inr (λ e. cc)
same_kind is_full is_lent = inr (λ e. cc)
same_kind is_full is_full = inl refl

kind_so : (a b : Kind) → Surely (a ≡ b) → a ≡ b
kind_so a b s = ⊎_elim (λ e. e) (λ n. absurd (s n)) (same_kind a b)

below_so : (a b : Status) → Surely (IsStatusBelow a b) → IsStatusBelow a b
below_so a b s = record {
  kind = kind_so (kind_of a) (kind_of b) (so s (λ x. x.kind));
  within = record { each = λ i has. true_so (states_of b i) (so s (λ x. x.within.each i has)) };
}

-- ---- a map below another, or the first token that isn't

numbers : (m n : ℕ) → m < suc n → (m < n) ⊎ (m ≡ n)
numbers m n less = grind (arith, less)

pub none_less : (m : ℕ) → m < 0 → ⊥
none_less m less = omega (arith, less)

module _ (h k : HeldMap) (never : ((t : Tok) × IsFirstApart h k t) → ⊥) where
  -- a token before which all are below is below itself
  next_one : (t : Tok) → ((u : Tok) → IsBefore u t → IsStatusBelow (h u) (k u)) → IsStatusBelow (h t) (k t)
  next_one t before = below_so (h t) (k t) (λ apart. never (t, record { apart = apart; first = before }))

  key_before : (n : ℕ) → ((j : ℕ) → j < n → IsStatusBelow (h (a_key j)) (k (a_key j))) → (u : Tok) → IsBefore u (a_key n) → IsStatusBelow (h u) (k u)
  key_before n each (a_key j) lower = each j lower
  key_before n each (a_var v) lower = absurd lower

  keys_below : (n i : ℕ) → i < n → IsStatusBelow (h (a_key i)) (k (a_key i))
  keys_below zero i less = absurd (none_less i less)
  keys_below (suc n) i less =
      ⊎_elim (λ lower. keys_below n i lower)
      (λ e. subst (λ i. IsStatusBelow (h (a_key i)) (k (a_key i))) (sym e) (next_one (a_key n) (key_before n (λ j lower. keys_below n j lower)))) (numbers i n less)

  key_below : (i : ℕ) → IsStatusBelow (h (a_key i)) (k (a_key i))
  key_below i = keys_below (suc i) i (omega arith)

  var_before : (n : ℕ) → ((w : ℕ) → w < n → IsStatusBelow (h (a_var w)) (k (a_var w))) → (u : Tok) → IsBefore u (a_var n) → IsStatusBelow (h u) (k u)
  var_before n each (a_key j) lower = key_below j
  var_before n each (a_var w) lower = each w lower

  vars_below : (n v : ℕ) → v < n → IsStatusBelow (h (a_var v)) (k (a_var v))
  vars_below zero v less = absurd (none_less v less)
  vars_below (suc n) v less =
      ⊎_elim (λ lower. vars_below n v lower)
      (λ e. subst (λ v. IsStatusBelow (h (a_var v)) (k (a_var v))) (sym e) (next_one (a_var n) (var_before n (λ w lower. vars_below n w lower)))) (numbers v n less)

  each_below : (t : Tok) → IsStatusBelow (h t) (k t)
  each_below (a_key i) = key_below i
  each_below (a_var v) = vars_below (suc v) v (omega arith)

below_or_apart : (h k : HeldMap) → Surely (IsBelow h k ⊎ ((t : Tok) × IsFirstApart h k t))
below_or_apart h k = λ never. never (inl (record { each = each_below h k (λ apart. never (inr apart)) }))

-- ---- tests

one_answer : (t : Test) → Surely (Holds t ⊎ ((x : Failure) × Fails t x))
one_answer (row_test n t s w) = so (one_way (IsWanted w s)) (λ x. ⊎_elim (λ is. inl is) (λ isnt. inr (refused (refusal n t s w), (isnt, refl))) x)
one_answer (below_test n h k) = so (below_or_apart h k) (λ x. ⊎_elim (λ is. inl is) (λ t. inr (refused (refusal n t.0 (h t.0) (as_wanted (k t.0))), (t.0, t.1, refl))) x)
one_answer (lost_test n) = sure (inr (lost, tt))

pub answers : (ts : List Test) → Surely (Hold ts ⊎ ((x : Failure) × FirstFails ts x))
answers [] = sure (inl tt)
answers (t ∷ ts) =
    surely (one_answer t) (λ a. ⊎_elim (λ here. so (answers ts) (λ b. ⊎_elim (λ more. inl (here, more)) (λ x. inr (x.0, inr (here, x.1))) b)) (λ x. sure (inr (x.0, inl x.1))) a)
