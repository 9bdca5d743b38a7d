-- Lists of numbers that stand one after the other, told apart by where each ends.
use Rattle.std.specs.Prelude.{ℕ, Bool, ◌&&◌, ◌==◌, nat_le, List, [], ◌∷◌, slice_range, ℤ}

-- whether the ends never fall, from this start on, and the last one is the count
abbrev pub are_ends : ℕ → List ℕ → ℕ → Bool
are_ends start [] count = start == count
are_ends start (end ∷ ends) count = nat_le start end && are_ends end ends count

-- the numbers from this start on, cut at the ends
abbrev pub cut_at : ℕ → List ℕ → List ℤ → List (List ℤ)
cut_at start [] numbers = []
cut_at start (end ∷ ends) numbers = slice_range numbers start end ∷ cut_at end ends numbers
