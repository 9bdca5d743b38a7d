-- How a line begins. This serves the proof alone.
use Rattle.std.specs.Prelude.{ℕ, List, ◌∷◌}

abbrev pub begins_with : (mark : ℕ) → (name : List ℕ) → List ℕ
begins_with mark name = mark ∷ name
