-- What is promised of programs that break no rule.
use Rattle.std.specs.Prelude.{◌≡◌, ℕ, ℤ, false, List}
use Rattle.vlt_core.specs.Core.{Program}
use Rattle.vlt_meaning.specs.World.{done, is_fault}
use Rattle.vlt_meaning.specs.Run.{run}
use Rattle.vlt_meaning.specs.Clean.{IsClean}

-- no run ends in a fault, whatever the bounds, the input and the answers of the host
abbrev pub NeverGoesWrong : Program → Type 0
NeverGoesWrong p = (fuel heap depth : ℕ) (zs : List ℤ) (answers : List (List ℤ)) →
    is_fault (run p fuel heap depth zs answers).outcome ≡ false

-- A run that is done leaves only objects that the host or main's clause has, and what is below those.
abbrev pub LeavesOnlyItsClause : Program → Type 0
LeavesOnlyItsClause p = (fuel heap depth : ℕ) (zs : List ℤ) (answers : List (List ℤ)) →
    (run p fuel heap depth zs answers).outcome ≡ done → IsClean (run p fuel heap depth zs answers)
