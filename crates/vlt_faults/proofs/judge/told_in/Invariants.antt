use Rattle.vlt_core.specs.View.{program_of, func_of}
use Rattle.vlt_faults.specs.Judge.Instances.{AreJudgedTo}
use Rattle.vlt_faults.proofs.judge.told_in.Given as goal

abbrev pub invariant-loop-origin : goal.invariant-loop-origin
invariant-loop-origin l = AreJudgedTo (program_of l.p) (func_of l.f) l.origin-index l.first
