use Rattle.vlt_witness.specs.Ways.{IsSeen, OnSeen}
use Rattle.vlt_witness.proofs.Showing.{no_pair, no_other}
use Rattle.vlt_witness.proofs.explain.other.Goals as goal

pub returns-in-None : goal.returns-in-None
returns-in-None c = no_pair (IsSeen c.args.seen.now) (OnSeen c.args.present.now) (no_other c.args.seen.now (OnSeen c.args.present.now) c.in-None.is)
