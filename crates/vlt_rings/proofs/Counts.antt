-- How many of a list meet a test, after a change.
use Rattle.std.proofs.Common.{◌≡◌, ℕ, zero, suc, ◌+◌, Bool, true, cond, List, [], ◌∷◌, ◌++◌, length, Some, refl, ap, arith, slice_get, slice_set}
use Rattle.std.specs.List.{count_by}
use Rattle.std.proofs.lemmas.List.Sums.{sum_by-cons}
use Rattle.std.proofs.lemmas.Option.{none-some, same_Some}

abbrev pub one_if : Bool → ℕ
one_if t = cond t 1 0

step : {A : Type 0} (p : A → Bool) (x : A) (xs : List A) → count_by p (x ∷ xs) ≡ one_if (p x) + count_by p xs
step p x xs = sum_by-cons (λ y. cond (p y) 1 0) x xs

pub count_set : {A : Type 0} (p : A → Bool) (xs : List A) (n : ℕ) (x y : A) → slice_get xs n ≡ Some x
    → count_by p (slice_set xs n y) + one_if (p x) ≡ count_by p xs + one_if (p y)
count_set p [] n x y at = absurd (none-some x at)
count_set p (z ∷ xs) zero x y at =
    let e : one_if (p z) ≡ one_if (p x) = ap (λ w. one_if (p w)) (same_Some z x at) in
    let a = step p z xs in
    let b = step p y xs in
    omega arith
count_set p (z ∷ xs) (suc n) x y at =
    let h = count_set p xs n x y at in
    let a = step p z xs in
    let b = step p z (slice_set xs n y) in
    omega arith

pub count_push : {A : Type 0} (p : A → Bool) (xs : List A) (y : A) → count_by p (xs ++ y ∷ []) ≡ count_by p xs + one_if (p y)
count_push p [] y = let a = step p y [] in omega arith
count_push p (z ∷ xs) y =
    let h = count_push p xs y in
    let a = step p z xs in
    let b = step p z (xs ++ y ∷ []) in
    omega arith

-- all of them meet it
pub count_all : {A : Type 0} (p : A → Bool) (xs : List A) → ((n : ℕ) (x : A) → slice_get xs n ≡ Some x → p x ≡ true) → count_by p xs ≡ length xs
count_all p [] h = refl
count_all p (z ∷ xs) h =
    let e : one_if (p z) ≡ 1 = ap one_if (h 0 z refl) in
    let a = step p z xs in
    let b = count_all p xs (λ n x at. h (suc n) x at) in
    omega arith
