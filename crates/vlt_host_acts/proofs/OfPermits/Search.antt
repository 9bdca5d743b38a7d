-- What a search in ascending numbers finds.
use Rattle.std.proofs.Common.{◌≡◌, ℕ, suc, ◌<◌, ◌≤◌, nat_lt, Bool, true, false, List, length, Ok, Err, get_or, subst, arith, refl}
use Rattle.std.specs.Ordering.{nat_cmp}
use Rattle.std.specs.List.{insert, remove}
use Rattle.std.specs.List.Sorted.{IsBinarySearchResult}
use Rattle.std.proofs.lemmas.Bool.Decides.{nat_tests}
use Rattle.std.proofs.lemmas.List.Sorted.{searched}
use Rattle.vlt_core.specs.KindedHeads.{has}
use Rattle.vlt_host_acts.specs.Permits.Numbers.{IsAscending, with_number, without_number}
use Rattle.vlt_host_acts.proofs.OfPermits.Numbers.{rises, has_at, has_not, none_removed, removed_is, inserted_is, is_in_already, with_longer}

-- the number stands there
pub record IsFound (xs : List ℕ) (i n : ℕ) : Type 0 where
  pub within : i < length xs
  pub is : get_or xs i 0 ≡ n

-- it would stand there
pub record IsPlace (xs : List ℕ) (i n : ℕ) : Type 0 where
  pub within : i ≤ length xs
  pub below : (k : ℕ) → k < i → get_or xs k 0 < n
  pub above : (k : ℕ) → i ≤ k → k < length xs → n < get_or xs k 0

pub found : (xs ys : List ℕ) (n i : ℕ) → ys ≡ xs → IsAscending xs → IsBinarySearchResult (λ y. nat_cmp y n) ys (Ok i) → IsFound xs i n
found xs ys n i same h r =
    let b = searched xs n (Ok i) (subst (λ zs. IsBinarySearchResult (λ y. nat_cmp y n) zs (Ok i)) same r) (rises xs h) in
    record { within = b.0; is = b.1 }

pub not_found : (xs ys : List ℕ) (n i : ℕ) → ys ≡ xs → IsAscending xs → IsBinarySearchResult (λ y. nat_cmp y n) ys (Err i) → IsPlace xs i n
not_found xs ys n i same h r =
    let b = searched xs n (Err i) (subst (λ zs. IsBinarySearchResult (λ y. nat_cmp y n) zs (Err i)) same r) (rises xs h) in
    record { within = b.0; below = b.1; above = b.2 }

not_at : (xs : List ℕ) (i n : ℕ) → IsPlace xs i n → (k : ℕ) → k < length xs → get_or xs k 0 ≡ n → ⊥
not_at xs i n p k l e = by (nat_lt k i) refl
  where
    by : (b : Bool) → nat_lt k i ≡ b → ⊥
    by true t =
        let less : k < i = grind (arith, nat_tests) in
        let low = p.below k less in
        omega (arith, low, e)
    by false t =
        let more : i ≤ k = grind (arith, nat_tests) in
        let high = p.above k more l in
        omega (arith, high, e)

pub in_them : (xs : List ℕ) (i n : ℕ) → IsFound xs i n → has xs n ≡ true
in_them xs i n f = has_at xs i n f.within f.is

pub not_in : (xs : List ℕ) (i n : ℕ) → IsPlace xs i n → has xs n ≡ false
not_in xs i n p = has_not xs n (not_at xs i n p)

pub nothing_removed : (xs : List ℕ) (i n : ℕ) → IsPlace xs i n → xs ≡ without_number n xs
nothing_removed xs i n p = none_removed xs n (not_at xs i n p)

pub one_removed : (xs : List ℕ) (i n : ℕ) → IsAscending xs → IsFound xs i n → remove xs i ≡ without_number n xs
one_removed xs i n h f = removed_is xs i n h f.within f.is

pub one_inserted : (xs : List ℕ) (i n : ℕ) → IsPlace xs i n → insert xs i n ≡ with_number n xs
one_inserted xs i n p = inserted_is xs i n p.within p.below p.above

pub nothing_inserted : (xs : List ℕ) (i n : ℕ) → IsAscending xs → IsFound xs i n → xs ≡ with_number n xs
nothing_inserted xs i n h f = is_in_already xs i n h f.within f.is

pub one_longer : (xs : List ℕ) (i n : ℕ) → IsPlace xs i n → length (with_number n xs) ≡ suc (length xs)
one_longer xs i n p = with_longer n xs (not_in xs i n p)
