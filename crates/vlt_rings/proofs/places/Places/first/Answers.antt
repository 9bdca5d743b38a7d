use Rattle.std.proofs.Common.{ap, ◌∙◌, Some}
use Rattle.vlt_rings.proofs.Firsts.{first_above, first_stands, has_none}
use Rattle.vlt_rings.proofs.places.Places.first.Goals as goal

pub overflow_sub-result : goal.overflow_sub-result
overflow_sub-result c = first_above _ _ _ _ (c.requires.sound.sorted.heads c.args.h c.requires.is_head c.requires.within) c.after-node.ensures c.if-node-h.false

pub returns-then-node-h-clause-none : goal.returns-then-node-h-clause-none
returns-then-node-h-clause-none c = has_none _ _ _ (c.requires.sound.sorted.heads c.args.h c.requires.is_head c.requires.within) (c.after-node.ensures ∙ ap (λ x. Some x) c.if-node-h.true)

pub returns-else-node-h-clause-some : goal.returns-else-node-h-clause-some
returns-else-node-h-clause-some c = first_stands _ _ _ _ (c.requires.sound.sorted.heads c.args.h c.requires.is_head c.requires.within) c.after-node.ensures c.if-node-h.false
