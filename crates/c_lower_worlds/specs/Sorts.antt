-- Values and variables of the right kind for their sorts.
use Rattle.std.specs.Prelude.{List, [], ◌∷◌}
use Rattle.c_meaning.specs.World.{Value, number, reference}
use Rattle.c_lower.specs.Slots.{Sort, of_number, of_reference, of_owner}

abbrev pub IsOfSort : Sort → Value → Type 0
IsOfSort of_number (number z) = Unit {0}
IsOfSort of_number (reference r) = ⊥
IsOfSort of_reference (number z) = ⊥
IsOfSort of_reference (reference r) = Unit {0}
IsOfSort of_owner (number z) = ⊥
IsOfSort of_owner (reference r) = Unit {0}

-- one value for each sort
abbrev pub AreOfSorts : List Sort → List Value → Type 0
AreOfSorts [] [] = Unit {0}
AreOfSorts (s ∷ ss) (a ∷ rest) = IsOfSort s a × AreOfSorts ss rest
AreOfSorts _ _ = ⊥
