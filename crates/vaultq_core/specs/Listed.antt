-- What statuses 0 and 8 of `faults`, and 0 of `keys`, promise of the bytes that were read.
use Rattle.std.specs.Prelude.{◌≡◌, ℕ, List, ◌++◌, Option, Some, slice_get}
use Rattle.vlt_io.specs.Outside.{Files, Grew}
use Rattle.vlt_core.specs.Core.{Func, Program}
use Rattle.vlt_core.specs.Derives.{IsAccepted}
use Rattle.vlt_core.specs.Faults.{FlowFault, IsFirstFault}
use Rattle.vlt_reports.specs.Accepted.{accepted_line}
use Rattle.vlt_reports.specs.Reports.{fault_line}
use Rattle.vlt_all_faults_laws.specs.Each.{Finding, AreAllFindings}
use Rattle.vlt_all_faults_lines.specs.Lines.{faults_text}
use Rattle.vlt_points.specs.Lines.{AreKeysLines}
use Rattle.vlt_verdict.specs.Verdicts.{Verdict, IsVerdictOf}
use Rattle.vaultc_replies.specs.Programs.{IsProgramOf}
use Rattle.vaultc_replies.specs.Variables.{variable_in}
use Rattle.vaultc_replies.specs.Verdicts.{check_reply}

-- The bytes are the text of a program that follows the rules, and that was written. Where files are told, they are all of the file's.
pub record IsFaultless (files : Option Files) (name bytes : List ℕ) (old new : Option (List ℕ)) : Type 0 where
  pub program : Program
  pub reads : IsProgramOf bytes program
  pub accepted : IsAccepted program
  pub there : (told : Files) → files ≡ Some told → told name ≡ Some bytes
  pub written : Grew old new (accepted_line program)

-- The bytes are the text of a program with a first fault. The text of all its faults was written, which begins with the line that
-- `check` writes of that one. Where files are told, the bytes are all of the file's.
pub record IsListed (files : Option Files) (name bytes : List ℕ) (old new : Option (List ℕ)) : Type 0 where
  pub program : Program
  pub reads : IsProgramOf bytes program
  pub all : List (List Finding)
  pub findings : AreAllFindings program all
  pub func : Func
  pub fault : FlowFault
  pub faulty : slice_get program.fns fault.function ≡ Some func
  pub first : IsFirstFault program fault
  pub begins : (rest : List ℕ) × (faults_text bytes program all ≡ fault_line bytes program func fault.at fault.tok fault.kind ++ rest)
  pub there : (told : Files) → files ≡ Some told → told name ≡ Some bytes
  pub written : Grew old new (faults_text bytes program all)

-- The bytes are the text of a program. What is found at its points was written, and then what `check` writes. Where files are told, the
-- bytes are all of the file's.
pub record ArePointsTold (files : Option Files) (name bytes : List ℕ) (old new : Option (List ℕ)) : Type 0 where
  pub program : Program
  pub reads : IsProgramOf bytes program
  pub lines : List ℕ
  pub points : AreKeysLines bytes program (variable_in reads.tree) lines
  pub verdict : Verdict
  pub judged : IsVerdictOf reads.tree verdict
  pub there : (told : Files) → files ≡ Some told → told name ≡ Some bytes
  pub written : Grew old new (lines ++ (check_reply bytes verdict).text)
