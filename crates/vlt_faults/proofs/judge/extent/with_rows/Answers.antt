use Rattle.std.proofs.Common.{arith}
use Rattle.vlt_faults.proofs.OfJudge.Sums.{extent_both, extent_as}
use Rattle.vlt_faults.proofs.judge.extent.with_rows.Goals as goal

pub returns : goal.returns
returns c = extent_as _ _ _ _ _ _ _ (extent_both _ _ _ _ _ _ _ _ _ c.only.ensures c.extent_of_rows-own.ensures c.both.ensures) (omega arith) (omega arith) (λ t p. p.1) (λ t p. (tt, p))
