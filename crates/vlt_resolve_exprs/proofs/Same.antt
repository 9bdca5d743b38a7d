-- Keys and sets of states compared.
use Rattle.std.proofs.Common.{◌≡◌, ◌↔◌, ℕ, ◌+◌, ◌<◌, zero, suc, List, [], ◌∷◌, map, Bool, true, false, not, ◌&&◌, ◌||◌, IsTrue, nat_eq, refl, ap, sym, ◌∙◌, arith, true≢false, nat_lt}
use Rattle.std.proofs.lemmas.List.Folds.{list_all_at}
use Rattle.std.proofs.lemmas.List.FromFn.{get_or-range_with_len}
use Rattle.std.proofs.lemmas.Bool.Decides.{nat_tests}
use Rattle.std.specs.List.{list_all, range_with_len}
use Rattle.vlt_base.specs.States.{has_state, IsWithin}
use Rattle.vlt_base.specs.declared.states.StateSet.{StateSet}
use Rattle.vlt_base.proofs.Sets.{no_bit_above}
use Rattle.vlt_resolve_exprs.specs.Types.{is_inside, are_same_states}
use Rattle.vlt_core.specs.Types.{lies_within, same_states, same_keys, is_same_bool}
use Rattle.std.specs.Cmp.Lexicographic.{pointwise}
use Rattle.vlt_base.specs.declared.ids.KeyId.{KeyId}

pub same_ids : (a b : List KeyId) → pointwise (λ (x : KeyId) (y : KeyId). nat_eq x.0 y.0) a b ≡ same_keys (map (λ k. k.0) a) (map (λ k. k.0) b)
same_ids [] [] = refl
same_ids [] (y ∷ ys) = refl
same_ids (x ∷ xs) [] = refl
same_ids (x ∷ xs) (y ∷ ys) = ap (λ c. nat_eq x.0 y.0 && c) (same_ids xs ys)

-- two sets are the same where each lies within the other
both_ways : (a b : ℕ → Bool) (xs : List ℕ) → (list_all (λ s. not (a s) || b s) xs && list_all (λ s. not (b s) || a s) xs) ≡ list_all (λ s. is_same_bool (a s) (b s)) xs
both_ways a b [] = refl
both_ways a b (x ∷ xs) = by (a x) (b x) (list_all (λ s. not (a s) || b s) xs) (list_all (λ s. not (b s) || a s) xs) (both_ways a b xs)
  where
    by : (p q left right : Bool) → {both : Bool} → (left && right) ≡ both → (((not p || q) && left) && ((not q || p) && right)) ≡ (is_same_bool p q && both)
    by true true left right is = is
    by true false left right is = refl
    by false true true right is = refl
    by false true false right is = refl
    by false false left right is = is

within_both_ways : (a b : ℕ → Bool) → (lies_within a b && lies_within b a) ≡ same_states a b
within_both_ways a b = both_ways a b (range_with_len 0 32)

pub inside_then : (a b : ℕ → Bool) → is_inside a b ≡ true → is_inside b a ≡ are_same_states a b
unfolding is_inside are_same_states
inside_then a b within = ap (λ x. x && lies_within b a) (sym within) ∙ within_both_ways a b

pub inside_else : (a b : ℕ → Bool) → is_inside a b ≡ false → false ≡ are_same_states a b
unfolding is_inside are_same_states
inside_else a b outside = ap (λ x. x && lies_within b a) (sym outside) ∙ within_both_ways a b

within_both : (x y : Bool) → x ≡ true → y ≡ true → (x && y) ≡ true
within_both true y first second = second
within_both false y first second = absurd (true≢false (sym first))

range_all : (p : ℕ → Bool) (a n : ℕ) → ((i : ℕ) → p i ≡ true) → list_all p (range_with_len a n) ≡ true
range_all p a zero each = refl
range_all p a (suc n) each = within_both (p a) (list_all p (range_with_len (a + 1) n)) (each a) (range_all p (a + 1) n each)

implied : (x y : Bool) → (x ≡ true → y ≡ true) → (not x || y) ≡ true
implied true y to = to refl
implied false y to = refl

implies : (x y : Bool) → (not x || y) ≡ true → x ≡ true → y ≡ true
implies true y both is = both
implies false y both is = absurd (true≢false (sym is))

-- what holds of all numbers below 32 holds of each of them
at_number : (p : ℕ → Bool) (i : ℕ) → i < 32 → list_all p (range_with_len 0 32) ≡ true → p i ≡ true
at_number p i within all = by (p i) refl
  where
    by : (x : Bool) → p i ≡ x → p i ≡ true
    by true is = is
    by false is =
        let same : 0 + i ≡ i = omega arith in
        absurd (true≢false (sym all ∙ list_all_at p (range_with_len 0 32) i 0 within (ap p (get_or-range_with_len 0 32 i 0 within ∙ same) ∙ is)))

each_state : (a b : StateSet) → lies_within (has_state a) (has_state b) ≡ true → (i : ℕ) → has_state a i ≡ true → has_state b i ≡ true
each_state a b all i has = by (nat_lt i 32) refl
  where
    by : (x : Bool) → nat_lt i 32 ≡ x → has_state b i ≡ true
    by true is =
        implies (has_state a i) (has_state b i)
        (at_number (λ s. not (has_state a s) || has_state b s) i (grind (arith, nat_tests)) all) has
    by false is = absurd (true≢false (sym has ∙ no_bit_above a.mask i a.small (grind (arith, nat_tests))))

pub within_is : (a b : StateSet) (r : Bool) → (IsTrue r ↔ IsWithin a b) → r ≡ lies_within (has_state a) (has_state b)
within_is a b true same =
    sym (range_all (λ s. not (has_state a s) || has_state b s) 0 32 (λ i. implied (has_state a i) (has_state b i) ((same.0 refl).each i)))
within_is a b false same = by (lies_within (has_state a) (has_state b)) refl
  where
    by : (x : Bool) → lies_within (has_state a) (has_state b) ≡ x → false ≡ lies_within (has_state a) (has_state b)
    by true is = absurd (true≢false (sym (same.1 (record { each = each_state a b is }))))
    by false is = sym is
