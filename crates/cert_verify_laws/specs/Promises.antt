-- What a C file that verifies is good for.
use Rattle.std.specs.Prelude.{◌≡◌, ℕ, ℤ, false, List, Option}
use Rattle.vlt_base.specs.declared.places.Span.{Span}
use Rattle.vlt_core.specs.Core.{Program}
use Rattle.vlt_core.specs.Derives.{IsAccepted}
use Rattle.vlt_meaning.specs.Run.{run}
use Rattle.vlt_sound.specs.Promise.{NeverGoesWrong, LeavesOnlyItsClause}
use Rattle.c_syntax.specs.C as c
use Rattle.c_syntax.specs.Reading.{IsCProgramOf}
use Rattle.c_meaning.specs.Run.{c_run}
use Rattle.c_lower.specs.Lowering.{lowered}
use Rattle.c_lower_worlds.specs.Given.{IsFed}
use Rattle.c_lower_runs.specs.SameRuns.{AreTheSame, is_undefined}
use Rattle.c_lower_accepted.specs.Promise.{RunsAlike, IsDefined}
use Rattle.cert_format.specs.Notes.{Note}
use Rattle.cert_verify.specs.Verified.{IsVerifiedFile}

-- What a C file that verifies promises of the program that its certificate says.
pub record KeepsItsPromise (text : List ℕ) (p : Program) : Type 0 where
  -- the C text is the program's C program, and no other one
  pub reads : (x : c.Program) (cert : Option Span) → IsCProgramOf text x cert → x ≡ lowered p
  -- the program follows all rules
  pub accepted : IsAccepted p
  -- No run of it ends in a fault, and one that is done leaves only what main's clause or the host has,
  -- and what is below that.
  pub never_goes_wrong : NeverGoesWrong p
  pub leaves_only_its_clause : LeavesOnlyItsClause p
  -- a run of the C program has the outcome, the event text and the fuel left of that of the program
  pub runs_alike : RunsAlike p
  -- and breaks no rule of C
  pub is_defined : IsDefined p

abbrev pub VerifiedFilesKeepTheirPromise : Type 0
VerifiedFilesKeepTheirPromise =
    (text : List ℕ) (p : Program) (all : List (List Note)) → IsVerifiedFile text p all →
    KeepsItsPromise text p

-- ---- of the C program that is read

-- A run of the C program does what that of the program does, which never ends in a fault, and breaks
-- no rule of C: whatever the bounds, the input and the answers.
pub record DoesAs (x : c.Program) (p : Program) : Type 0 where
  pub same : (fuel heap depth : ℕ) (input : List ℤ) (answers : List (List ℤ)) →
      IsFed input answers →
      AreTheSame (run p fuel heap depth input answers) (c_run x fuel heap depth input answers)
  pub defined : (fuel heap depth : ℕ) (input : List ℤ) (answers : List (List ℤ)) →
      IsFed input answers →
      is_undefined (c_run x fuel heap depth input answers).outcome ≡ false
  pub never_goes_wrong : NeverGoesWrong p

abbrev pub VerifiedProgramsGoRight : Type 0
VerifiedProgramsGoRight =
    (text : List ℕ) (p : Program) (all : List (List Note)) (x : c.Program) (cert : Option Span) →
    IsVerifiedFile text p all → IsCProgramOf text x cert → DoesAs x p
