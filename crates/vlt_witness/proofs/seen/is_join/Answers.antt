use Rattle.vlt_witness.proofs.Ends.{join_none, join_some}
use Rattle.vlt_witness.proofs.seen.is_join.Goals as goal

pub returns-in-None : goal.returns-in-None
returns-in-None c = join_none c.args.i c.args.join c.in-None.is

pub returns-in-Some : goal.returns-in-Some
returns-in-Some c = join_some c.args.i c.args.join c.in-Some.j c.is_same_name.result c.in-Some.is c.is_same_name.ensures
