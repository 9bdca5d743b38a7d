-- Lists of values.
use Rattle.std.proofs.Common.{◌≡◌, refl, ap, List, [], ◌∷◌}
use Rattle.serde_json.specs.Data.{Data}
use Rattle.serde_json.specs.View.{items_of}
use Rattle.cert_rows.specs.Parts.{list_in}

pub list_in_of_items : (ds : List Data) → list_in (items_of ds) ≡ ds
list_in_of_items [] = refl
list_in_of_items (d ∷ ds) = ap (λ x. d ∷ x) (list_in_of_items ds)
