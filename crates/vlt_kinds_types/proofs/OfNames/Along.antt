-- What is refused in each of a list, one after another.
use Rattle.std.proofs.Common.{◌≡◌, ◌∙◌, List, [], ◌∷◌, Option, refl}
use Rattle.vlt_kinds_types.specs.declared.names.found.Refusal.{Refusal}
use Rattle.vlt_kinds_types.specs.Names.Refusals.{least_from}
use Rattle.vlt_kinds_types.proofs.OfNames.Least.{least_of_both}
use Rattle.vlt_kinds_types.specs.Names.Along.{along, found_along}

pub along_is : {S A : Type 0} (next : S → A → S) (f : S → A → List Refusal) (s : S) (xs : List A) (found : Option Refusal)
    → least_from found (along next f s xs) ≡ found_along next f s xs found
along_is next f s [] found = refl
along_is next f s (x ∷ xs) found =
    least_of_both (f s x) (along next f (next s x) xs) found ∙ along_is next f (next s x) xs (least_from found (f s x))
