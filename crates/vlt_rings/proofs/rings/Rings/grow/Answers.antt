use Rattle.std.proofs.Common.{rules}
use Rattle.vlt_rings.proofs.Lists.{whole_grown}
use Rattle.vlt_rings.proofs.rings.Rings.grow.Goals as goal

pub returns-clause-whole : goal.returns-clause-whole
returns-clause-whole c = rw (c.push.ensures.items, c.push-2.ensures.items) (whole_grown _ _ _ c.requires.whole (search rules))
