use Rattle.std.proofs.Common.{refl}
use Rattle.vlt_witness.proofs.search.end_turn.Goals as goal

pub returns : goal.returns
returns c = record { turn = rw c.as_slice.ensures at c.in_ok-join.ensures; leave = refl; met = refl; number = refl }
