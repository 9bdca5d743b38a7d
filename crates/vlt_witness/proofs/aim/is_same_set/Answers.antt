use Rattle.std.proofs.Common.{rules}
use Rattle.vlt_witness.proofs.Singles.{both_within, not_within}
use Rattle.vlt_witness.proofs.aim.is_same_set.Goals as goal

pub returns-then-within : goal.returns-then-within
returns-then-within c = both_within c.args.a c.args.b c.within.result c.within-then-within.result (search rules) c.within.ensures c.within-then-within.ensures

pub returns-else-within : goal.returns-else-within
returns-else-within c = not_within c.args.a c.args.b c.within.result c.if-within.false c.within.ensures
