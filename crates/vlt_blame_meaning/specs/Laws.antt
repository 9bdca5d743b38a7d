-- What is proved of what is told.
use Rattle.std.specs.Prelude.{◌≡◌, List, Option}
use Rattle.vlt_core.specs.Maps.{HeldMap, Row}
use Rattle.vlt_blame_meaning.specs.Blame.{Unmet, IsBlame}

-- of rows and what is there just one thing is told
abbrev pub TellsOne : Type 0
TellsOne = (rs : List Row) (h : HeldMap) (u v : Option Unmet) → IsBlame rs h u → IsBlame rs h v → u ≡ v
