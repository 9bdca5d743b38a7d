-- What a program's C program promises: it does the same, and breaks no rule of C.
use Rattle.std.specs.Prelude.{◌≡◌, ℕ, ℤ, false, List}
use Rattle.vlt_core.specs.Core.{Program}
use Rattle.vlt_meaning.specs.Run.{run}
use Rattle.c_meaning.specs.Run.{c_run}
use Rattle.c_lower.specs.Lowering.{lowered}
use Rattle.c_lower_worlds.specs.Given.{IsFed}
use Rattle.c_lower_runs.specs.SameRuns.{AreTheSame, is_undefined}

-- a run of the program and that of its C program are the same: whatever the bounds, the input and the
-- answers
abbrev pub RunsAlike : Program → Type 0
RunsAlike p =
    (fuel heap depth : ℕ) (input : List ℤ) (answers : List (List ℤ)) → IsFed input answers →
    AreTheSame (run p fuel heap depth input answers) (c_run (lowered p) fuel heap depth input answers)

-- the C program breaks no rule of C
abbrev pub IsDefined : Program → Type 0
IsDefined p =
    (fuel heap depth : ℕ) (input : List ℤ) (answers : List (List ℤ)) → IsFed input answers →
    is_undefined (c_run (lowered p) fuel heap depth input answers).outcome ≡ false
