-- Different numbers below a bound, as many as the bound, are all that are below it.
use Rattle.std.proofs.Common.{◌≡◌, ⊎_elim, ℕ, suc, ◌<◌, ◌≤◌, ◌==◌, nat_lt, Bool, true, false, not, List, [], ◌∷◌, length, refl, sym, ◌∙◌, subst, arith}
use Rattle.std.specs.Prelude.{eqb}
use Rattle.std.specs.List.{list_any, list_all, AllByRecursion, IsDistinct}
use Rattle.std.proofs.lemmas.Bool.{cases_Bool, eqb-true, eq-eqb, ne_eqb, ltb-true, lt-ltb, or_parts}
use Rattle.std.proofs.lemmas.Map.Steps.{length-le_from_distinct_below}
use Rattle.vlt_core.specs.KindedHeads.{has, are_apart}
use Rattle.vlt_core_laws.proofs.Ids.{or_split}
use Rattle.vlt_sound_worlds.proofs.Empty.{both_so}

is_false : (b : Bool) → not b ≡ true → b ≡ false
is_false true e = cc
is_false false e = refl

-- no number of the list is this one
none_equal : (xs : List ℕ) (x : ℕ) → has xs x ≡ false → AllByRecursion (λ y. eqb x y ≡ false) xs
none_equal [] x e = tt
none_equal (y ∷ ys) x e =
    let both = or_parts (y == x) (has ys x) e in
    (ne_eqb x y (λ same. clash (sym (eq-eqb y x (sym same)) ∙ both.0)), none_equal ys x both.1)
  where
    clash : true ≡ false → ⊥
    clash e = cc

all_apart : (xs : List ℕ) → are_apart xs ≡ true → IsDistinct eqb xs
unfolding IsDistinct
all_apart [] e = tt
all_apart (x ∷ xs) e =
    let both = both_so (not (has xs x)) (are_apart xs) e in
    (none_equal xs x (is_false (has xs x) both.0), all_apart xs both.1)

all_below : (xs : List ℕ) (n : ℕ) → list_all (λ c. nat_lt c n) xs ≡ true → (q : ℕ) → list_any (eqb q) xs ≡ true → q < n
all_below [] n e q i = cc
all_below (x ∷ xs) n e q i =
    let both = both_so (nat_lt x n) (list_all (λ c. nat_lt c n) xs) e in
    ⊎_elim
    (λ same. subst (λ m. m < n) (sym (eqb-true q x same)) (ltb-true x n both.0))
    (λ more. all_below xs n both.1 q more)
    (or_split (eqb q x) (list_any (eqb q) xs) i)

pub covered : (xs : List ℕ) (n i : ℕ) → are_apart xs ≡ true → length xs ≡ n →
    list_all (λ c. nat_lt c n) xs ≡ true → i < n → has xs i ≡ true
covered xs n i apart long below lt = ⊎_elim (λ e. e) (λ e. absurd (too_many e)) (cases_Bool (has xs i))
  where
    more_apart : has xs i ≡ false → are_apart (i ∷ xs) ≡ true
    more_apart none = rw (none, apart) refl

    more_below : nat_lt i n ≡ true → list_all (λ c. nat_lt c n) (i ∷ xs) ≡ true
    more_below so = rw (so, below) refl

    too_many : has xs i ≡ false → ⊥
    too_many none =
        let le : suc (length xs) ≤ n =
        length-le_from_distinct_below (i ∷ xs) n (all_apart (i ∷ xs) (more_apart none)) (all_below (i ∷ xs) n (more_below (lt-ltb i n lt))) in
        absurd (omega arith)
