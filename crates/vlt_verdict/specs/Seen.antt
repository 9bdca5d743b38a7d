-- What the code knows of a verdict, as plain data.
use Rattle.std.specs.Prelude.{◌≡◌, ◌⊎◌, Some, slice_get}
use Rattle.vlt_base.specs.declared.limits.TheConstants.{VARIABLES, KEYS}
use Rattle.vlt_core.specs.Core.{Func}
use Rattle.vlt_core.specs.View.{program_of}
use Rattle.vlt_core.specs.declared.held.FlowFault.{FlowFault}
use Rattle.vlt_core.specs.declared.program.Program.{Program}
use Rattle.vlt_elaboration.specs.Elaboration.{broken, exceeded}
use Rattle.vlt_check.specs.Checks.{fault_of}
use Rattle.vlt_verdict.specs.Verdicts as v
use Rattle.vlt_verdict.specs.declared.Verdict.{Verdict}
use Rattle.vlt_verdict.specs.declared.Verdict.TheVariants as verdict

-- the function that the fault is in
abbrev pub IsFaultyFunction : Program → FlowFault → Func → Type 0
IsFaultyFunction p x f = slice_get (program_of p).fns (fault_of x).function ≡ Some f

-- the code's verdict stands for this one
abbrev pub IsSeenAs : Verdict → v.Verdict → Type 0
IsSeenAs (verdict.Broken rule at) t = t ≡ v.refused (broken rule at)
IsSeenAs (verdict.Exceeded n) t = t ≡ v.refused (exceeded n)
IsSeenAs (verdict.Faulty p x) t =
    (f : Func) × IsFaultyFunction p x f × (t ≡ v.faulty (program_of p) f (fault_of x))
IsSeenAs (verdict.Accepted p) t = t ≡ v.accepted (program_of p)

-- the limit is one of the two on functions, and the function of a fault is there
abbrev pub IsTellable : Verdict → Type 0
IsTellable (verdict.Exceeded n) = (n ≡ VARIABLES) ⊎ (n ≡ KEYS)
IsTellable (verdict.Faulty p x) = (f : Func) × IsFaultyFunction p x f
IsTellable _ = Unit {0}
