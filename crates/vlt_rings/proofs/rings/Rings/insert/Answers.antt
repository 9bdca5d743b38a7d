use Rattle.std.proofs.lemmas.List.{length-set}
use Rattle.vlt_rings.proofs.Lists.{wq, whole_in, is_inserted}
use Rattle.vlt_rings.proofs.rings.Rings.insert.Goals as goal

pub put-requires-4 : goal.put-requires-4
put-requires-4 c = rw (c.put-2.ensures.items, length-set) (wq _ _ c.requires.whole c.args.h c.args.i c.at-after.result c.at-after.ensures c.requires.alone.path c.requires.other)

pub returns-clause-whole : goal.returns-clause-whole
returns-clause-whole c = rw (c.put-3.ensures.items, c.put.ensures.items, c.put-4.ensures.items, c.put-2.ensures.items) (whole_in _ _ c.requires.whole c.args.h c.args.i c.at-after.result c.at-after.ensures c.requires.alone.path c.requires.other)

pub returns-clause-inserted : goal.returns-clause-inserted
returns-clause-inserted c = rw (c.put-3.ensures.items, c.put.ensures.items) (is_inserted _ _ c.requires.whole c.args.h c.args.i c.at-after.result c.at-after.ensures c.requires.alone.path c.requires.other)
