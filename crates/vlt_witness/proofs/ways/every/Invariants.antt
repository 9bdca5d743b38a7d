use Rattle.vlt_witness.specs.Ways.{On}
use Rattle.vlt_witness.proofs.Steps.{IsFilled}
use Rattle.vlt_witness.proofs.ways.every.Given as goal

abbrev pub invariant-loop-state : goal.invariant-loop-state
invariant-loop-state l = IsFilled (On l.list) l.state
