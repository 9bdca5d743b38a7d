use Rattle.std.proofs.Common.{arith, ◌-◌}
use Rattle.cert_check.proofs.Filling.{filled_first, filled_all, next_absent, next_present, next_filled}
use Rattle.cert_check.proofs.dense.dense.Goals as goal

pub loop-j-init : goal.loop-j-init
loop-j-init c = filled_first c.args.pairs.now _ c.in_ok-held.ensures.absent

pub give-requires-clause-absent : goal.give-requires-clause-absent
give-requires-clause-absent c = next_absent c.args.pairs.now _ _ c.requires (omega arith) c.index-pairs-count.is _ c.loop-j.invariant

pub give-requires-clause-present : goal.give-requires-clause-present
give-requires-clause-present c = next_present c.args.pairs.now _ _ c.requires (omega arith) c.index-pairs-count.is

pub loop-j-preserved : goal.loop-j-preserved
loop-j-preserved c = next_filled c.args.pairs.now _ _ c.requires (omega arith) c.index-pairs-count.is _ _ c.loop-j.invariant c.in_ok-give.ensures

pub returns : goal.returns
returns c = filled_all _ _ _ (omega (arith, c.loop-j-test.false)) c.loop-j.invariant
