-- Rows of broken rules that have none.
use Rattle.std.specs.Prelude.{◌≡◌, List, [], ◌∷◌}
use Rattle.vlt_core.specs.KindedHeads.{Rules}

-- each row breaks nothing
abbrev pub EachEmpty : List Rules → Type 0
EachEmpty [] = Unit {0}
EachEmpty (r ∷ rs) = (r ≡ []) × EachEmpty rs
