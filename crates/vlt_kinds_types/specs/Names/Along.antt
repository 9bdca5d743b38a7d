-- Refusals in a list whose items are read one after another.
use Rattle.std.specs.Prelude.{List, [], ◌∷◌, ◌++◌, Option}
use Rattle.vlt_kinds_types.specs.declared.names.found.Refusal.{Refusal}
use Rattle.vlt_kinds_types.specs.Names.Refusals.{least_from}

-- what each item gives, where what is known goes on from item to item
abbrev pub along : {S A : Type 0} → (S → A → S) → (S → A → List Refusal) → S → List A → List Refusal
along next f s [] = []
along next f s (x ∷ xs) = f s x ++ along next f (next s x) xs

-- the least of them and of one that was found before, item by item
abbrev pub found_along : {S A : Type 0} → (S → A → S) → (S → A → List Refusal) → S → List A → Option Refusal → Option Refusal
found_along next f s [] found = found
found_along next f s (x ∷ xs) found = found_along next f (next s x) xs (least_from found (f s x))
