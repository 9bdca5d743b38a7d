use Rattle.std.proofs.Common.{sym, length, arith}
use Rattle.vlt_acts.proofs.OfActs.Keeping.{single_at}
use Rattle.vlt_host_acts.proofs.frames.push_single.Goals as goal

pub returns-clause-value : goal.returns-clause-value
returns-clause-value c = λ items p h.
    single_at items c.put_single.new.self.slots.items c.len-to.result (length c.args.values.now.slots.items) c.grow.new.self.width c.args.values.now.width c.args.front p
    c.len-to.ensures (sym c.grow.ensures.grown.width) (omega (arith, c.grow.ensures.grown.width, c.requires.wide)) h c.put_single.ensures.filled
