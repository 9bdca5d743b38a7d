-- What a tree is as a program: refused by a rule on names and types or by a limit, faulty, or accepted.
use Rattle.std.specs.Prelude.{◌≡◌, Some, Result, Ok, Err, slice_get}
use Rattle.vlt_syntax.specs.Tree.{Tree}
use Rattle.vlt_core.specs.Core.{Func, Program}
use Rattle.vlt_core.specs.Derives.{IsAccepted}
use Rattle.vlt_core.specs.Faults.{FlowFault, IsFirstFault}
use Rattle.vlt_elaboration.specs.Elaboration.{Refused}
use Rattle.vlt_elaboration.specs.Programs.{program_told}

pub data Verdict : Type 0 where
  -- a rule on names and types, at its place, or a limit
  refused : Refused → Verdict
  -- the function breaks the rules on keys; this is the first fault
  faulty : Program → Func → FlowFault → Verdict
  accepted : Program → Verdict

pub record IsFaultyIn (p : Program) (f : Func) (x : FlowFault) : Type 0 where
  pub there : slice_get p.fns x.function ≡ Some f
  pub first : IsFirstFault p x

-- the verdict where elaboration gives this
abbrev pub IsVerdict : Result Program Refused → Verdict → Type 0
IsVerdict told (refused r) = told ≡ Err r
IsVerdict told (faulty p f x) = (told ≡ Ok p) × IsFaultyIn p f x
IsVerdict told (accepted p) = (told ≡ Ok p) × IsAccepted p

abbrev pub IsVerdictOf : Tree → Verdict → Type 0
IsVerdictOf t v = IsVerdict (program_told t) v
