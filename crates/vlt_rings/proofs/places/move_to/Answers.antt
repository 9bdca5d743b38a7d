use Rattle.vlt_rings.proofs.places.move_to.Goals as goal

pub insert-requires-clause-other : goal.insert-requires-clause-other
insert-requires-clause-other c = c.requires.is_head c.args.c
