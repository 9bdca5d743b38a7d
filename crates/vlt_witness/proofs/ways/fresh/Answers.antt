use Rattle.std.proofs.Common.{◌<◌, inl, inr, ⊎_elim, arith, length}
use Rattle.vlt_core.specs.FaultView.{choices_of}
use Rattle.vlt_witness.specs.Ways.{one_of, IsWay}
use Rattle.vlt_witness.proofs.Lists.{among_at}
use Rattle.vlt_witness.proofs.ways.fresh.Goals as goal

pub loop-way-preserved : goal.loop-way-preserved
loop-way-preserved c =
    let lt : c.loop-way.way-index < length c.args.list.now = omega arith in
    record {
      less = λ o h. c.loop-way.invariant.less o (c.not_on-left.ensures.less o h);
      rest = λ o h. ⊎_elim
          (λ x. ⊎_elim (λ y. inl y)
          (λ y. inr (choices_of c.way-item.result.path, among_at IsWay c.args.list.now c.loop-way.way-index c.way-item.result (one_of c.args.from) o (choices_of c.way-item.result.path) lt c.way-item.is y))
          (c.not_on-left.ensures.rest o x))
          (λ y. inr y) (c.loop-way.invariant.rest o h);
    }
