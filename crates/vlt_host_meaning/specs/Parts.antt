-- Lists that are cut at given ends.
use Rattle.std.specs.Prelude.{ℕ, List, [], ◌∷◌, slice_range}

-- the parts of a list from this start on, cut at the ends
abbrev pub parts_of : {A : Type 0} → (start : ℕ) → (ends : List ℕ) → List A → List (List A)
parts_of start [] xs = []
parts_of start (end ∷ ends) xs = slice_range xs start end ∷ parts_of end ends xs
