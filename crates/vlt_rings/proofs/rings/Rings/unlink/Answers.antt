use Rattle.vlt_rings.proofs.Lists.{within_p, within_q, is_unlinked, whole_out}
use Rattle.vlt_rings.proofs.rings.Rings.unlink.Goals as goal

pub put-requires : goal.put-requires
put-requires c = within_p _ _ c.requires.whole c.args.i c.at-before.result c.at-after.result c.at-before.ensures c.at-after.ensures

pub put-requires-2 : goal.put-requires-2
put-requires-2 c = within_q _ _ c.requires.whole c.args.i c.at-before.result c.at-after.result c.at-before.ensures c.at-after.ensures

pub returns-clause-whole : goal.returns-clause-whole
returns-clause-whole c = rw (c.put-3.ensures.items, c.put.ensures.items, c.put-4.ensures.items, c.put-2.ensures.items) (whole_out _ _ c.requires.whole c.args.i c.at-before.result c.at-after.result c.at-before.ensures c.at-after.ensures)

pub returns-clause-unlinked : goal.returns-clause-unlinked
returns-clause-unlinked c = rw (c.put-3.ensures.items, c.put.ensures.items) (is_unlinked _ _ c.requires.whole c.args.i c.at-before.result c.at-after.result c.at-before.ensures c.at-after.ensures)
