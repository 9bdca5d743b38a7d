use Rattle.std.proofs.Common.{rules, ◌<◌, length, arith, ap, refl}
use Rattle.vlt_core.specs.FaultView.{choices_of}
use Rattle.vlt_witness.specs.Ways.{one_of, end_of_join, IsSeen}
use Rattle.vlt_witness.proofs.Lists.{among_at}
use Rattle.vlt_witness.proofs.seen.was_seen.Goals as goal

pub returns-then-is_same_join : goal.returns-then-is_same_join
returns-then-is_same_join c = λ h.
    let lt : c.loop-seen.seen-index < length c.args.list.now = omega arith in
    let x = c.seen-item.result in (
      choices_of x.path,
      among_at IsSeen c.args.list.now c.loop-seen.seen-index x (one_of c.args.from) (end_of_join c.args.join) (choices_of x.path) lt c.seen-item.is
          (record { from = ap one_of (c.is_same.ensures (search rules)); met = c.is_same_join.ensures.0 (search rules); path = refl }),
    )
