-- Numbers in ascending order.
use Rattle.std.specs.Prelude.{ℕ, ◌<◌, ◌==◌, nat_lt, not, if◌then◌else◌, List, [], ◌∷◌, filter}

-- each is greater than n
abbrev pub AreAbove : (n : ℕ) → List ℕ → Type 0
AreAbove n [] = Unit {0}
AreAbove n (x ∷ xs) = (n < x) × AreAbove n xs

abbrev pub IsAscending : List ℕ → Type 0
IsAscending [] = Unit {0}
IsAscending (x ∷ xs) = AreAbove x xs × IsAscending xs

-- with this number too, in its place
abbrev pub with_number : (n : ℕ) → List ℕ → List ℕ
with_number n [] = n ∷ []
with_number n (x ∷ xs) =
    if n == x then x ∷ xs else if nat_lt n x then n ∷ x ∷ xs else x ∷ with_number n xs

abbrev pub without_number : (n : ℕ) → List ℕ → List ℕ
without_number n xs = filter (λ x. not (x == n)) xs
