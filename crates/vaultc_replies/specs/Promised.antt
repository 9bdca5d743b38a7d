-- What status 0 of `check` promises of the bytes that were read.
use Rattle.std.specs.Prelude.{◌≡◌, ℕ, List, Option, Some}
use Rattle.vlt_core.specs.Core.{Program}
use Rattle.vlt_core.specs.Derives.{IsAccepted}
use Rattle.vlt_sound.specs.Promise.{NeverGoesWrong, LeavesOnlyItsClause}
use Rattle.vlt_io.specs.Outside.{Files, Grew}
use Rattle.vlt_reports.specs.Accepted.{accepted_line}
use Rattle.vaultc_replies.specs.Programs.{IsProgramOf}

-- The bytes are the text of a program that follows the rules. No run of it goes wrong, and one that comes to main's end
-- leaves only what main's clause or the host has, and what is below that. Where files are told, the bytes are all of the file's. That the program is accepted was written.
pub record IsPromised (files : Option Files) (name bytes : List ℕ) (old new : Option (List ℕ)) : Type 0 where
  pub program : Program
  pub reads : IsProgramOf bytes program
  pub accepted : IsAccepted program
  pub never_goes_wrong : NeverGoesWrong program
  pub leaves_only_its_clause : LeavesOnlyItsClause program
  pub there : (told : Files) → files ≡ Some told → told name ≡ Some bytes
  pub written : Grew old new (accepted_line program)
