-- Functions by their numbers. Only private contracts cite this.
use Rattle.std.specs.Prelude.{◌≡◌, ℕ, ◌==◌, Bool, false, ◌||◌, List, [], ◌∷◌, Some, slice_get}
use Rattle.c_syntax.specs.C.{Func}

abbrev pub has_number : ℕ → List Func → Bool
has_number n [] = false
has_number n (f ∷ fs) = (f.number == n) || has_number n fs

-- the function at the position has the number
abbrev pub IsNumberedAt : ℕ → List Func → (position : ℕ) → Type 0
IsNumberedAt n fs position = (f : Func) × (slice_get fs position ≡ Some f) × (f.number ≡ n)
