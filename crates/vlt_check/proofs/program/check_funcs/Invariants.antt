use Rattle.std.proofs.Common.{◌≡◌}
use Rattle.vlt_core.specs.View.{program_of, func_of}
use Rattle.vlt_check.proofs.Listed.{Checking}
use Rattle.vlt_check.proofs.program.check_funcs.Given as goal

abbrev pub invariant-loop-f : goal.invariant-loop-f
invariant-loop-f l = Checking func_of (program_of l.p) l.p.fns l.f-index l.all × (l.number ≡ l.f-index)
