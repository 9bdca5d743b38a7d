use Rattle.std.proofs.Common.{take}
use Rattle.vlt_witness.specs.Ways.{On, IsWay}
use Rattle.vlt_witness.specs.Search.{Spreads, By, CanBy, Grows}
use Rattle.vlt_witness.proofs.ways.extend.Given as goal

abbrev pub invariant-loop-step : goal.invariant-loop-step
invariant-loop-step l = record {
  spreads : Spreads (By (On (take l.step-index l.steps))) (CanBy (On (take l.step-index l.steps))) (IsWay l.way) (On l.fn.list) (On l.list);
  grows : Grows l.fn.list l.list;
}
