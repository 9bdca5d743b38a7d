use Rattle.vlt_core.specs.View.{program_of, func_of}
use Rattle.vlt_check.proofs.Listed.{Walking}
use Rattle.vlt_check.proofs.program.check_instances.Given as goal

abbrev pub invariant-loop-origin : goal.invariant-loop-origin
invariant-loop-origin l = Walking (program_of l.p) (func_of l.f) l.origin-items l.origin-index l.maps
