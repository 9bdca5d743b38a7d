-- What is proved of the lowering.
use Rattle.std.specs.Prelude.{◌≡◌, ℕ, ℤ, false, List}
use Rattle.vlt_core.specs.Core.{Program}
use Rattle.vlt_meaning.specs.World as source
use Rattle.vlt_meaning.specs.Run as run
use Rattle.c_meaning.specs.Run as crun
use Rattle.c_lower.specs.Lowering.{lowered}
use Rattle.c_lower_worlds.specs.Given.{IsFed}
use Rattle.c_lower_runs.specs.SameRuns.{AreTheSame, IsSameRun, is_undefined}
use Rattle.c_lower_runs.specs.Lowerable.{IsLowerable}

-- A run of the program ends in a fault, or that of its C program has the same outcome, event text
-- and fuel: whatever the bounds, and whatever the input and the answers, in numbers of 64 bits.
abbrev pub LoweringIsRight : Type 0
LoweringIsRight =
    (p : Program) → IsLowerable p → (fuel heap depth : ℕ) (input : List ℤ) (answers : List (List ℤ))
    → IsFed input answers →
    IsSameRun p fuel heap depth input answers

-- where the program's run doesn't end in a fault, that of its C program is the same
abbrev pub LoweredIsSame : Type 0
LoweredIsSame =
    (p : Program) → IsLowerable p → (fuel heap depth : ℕ) (input : List ℤ) (answers : List (List ℤ))
    → IsFed input answers →
    source.is_fault (run.run p fuel heap depth input answers).outcome ≡ false →
    AreTheSame (run.run p fuel heap depth input answers)
    (crun.c_run (lowered p) fuel heap depth input answers)

-- and breaks no rule of C
abbrev pub LoweredIsDefined : Type 0
LoweredIsDefined =
    (p : Program) → IsLowerable p → (fuel heap depth : ℕ) (input : List ℤ) (answers : List (List ℤ))
    → IsFed input answers →
    source.is_fault (run.run p fuel heap depth input answers).outcome ≡ false →
    is_undefined (crun.c_run (lowered p) fuel heap depth input answers).outcome ≡ false
