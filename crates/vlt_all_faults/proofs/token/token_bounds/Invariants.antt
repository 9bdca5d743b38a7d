use Rattle.vlt_core.specs.View.{program_of, func_of}
use Rattle.vlt_all_faults.proofs.Bounds.{AreBoundsTo}
use Rattle.vlt_all_faults.proofs.token.token_bounds.Given as goal

abbrev pub invariant-loop-origin : goal.invariant-loop-origin
invariant-loop-origin l = AreBoundsTo (program_of l.p) (func_of l.f) l.origin-index l.keys l.vars
