use Rattle.std.proofs.Common.{take}
use Rattle.vlt_witness.specs.Ways.{OnSeen, IsWay}
use Rattle.vlt_witness.specs.Search.{Spreads, By, CanBy}
use Rattle.vlt_witness.proofs.seen.extend.Given as goal

abbrev pub invariant-loop-step : goal.invariant-loop-step
invariant-loop-step l = Spreads (By (OnSeen (take l.step-index l.steps))) (CanBy (OnSeen (take l.step-index l.steps))) (IsWay l.way) (OnSeen l.fn.list) (OnSeen l.list)
