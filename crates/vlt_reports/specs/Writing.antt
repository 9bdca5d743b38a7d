-- What is written after what was written before.
use Rattle.std.specs.Prelude.{◌≡◌, ℕ, List, ◌++◌, Result, OnOk}

-- where there was memory, the text stands after what there was
abbrev pub Adds : {A E : Type 0} → Result A E → (old new text : List ℕ) → Type 0
Adds result old new text = OnOk result (new ≡ old ++ text)
