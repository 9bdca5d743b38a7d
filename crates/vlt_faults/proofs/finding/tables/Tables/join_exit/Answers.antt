use Rattle.vlt_faults.proofs.OfFinding.Into.{put_more, put_none}
use Rattle.vlt_faults.proofs.finding.tables.Tables.join_exit.Goals as goal

pub returns-then-join_into-clause-put : goal.returns-then-join_into-clause-put
returns-then-join_into-clause-put c = rw (← c.self.view_is) (put_more c.args.n c.args.m c.self.inside.following.items _ c.index_mut.result.now c.join_into.new.slot (rw (← c.self.view_is) at c.requires) c.index_mut.ensures.value c.join_into.ensures.into c.if-join_into.ensures.nearer)

pub returns-else-join_into-clause-put : goal.returns-else-join_into-clause-put
returns-else-join_into-clause-put c = rw (← c.self.view_is) (put_none c.args.n c.args.m c.self.inside.following.items _ c.index_mut.result.now c.join_into.new.slot (rw (← c.self.view_is) at c.requires) c.index_mut.ensures.value c.join_into.ensures.into c.if-join_into.ensures.nearer)
