-- Numbers that are taken one after another.
use Rattle.std.specs.Prelude.{◌≡◌, ℤ, List, [], ◌∷◌, Option, None, Some}
use Rattle.std.specs.Borrow.{Bor}

-- the first of the numbers, and the others
abbrev pub IsNext : List ℤ → Option (ℤ × Bor (List ℤ)) → Type 0
IsNext left None = left ≡ []
IsNext left (Some q) = left ≡ q.0 ∷ q.1.now
