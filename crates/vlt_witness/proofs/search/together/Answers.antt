use Rattle.std.proofs.Common.{refl}
use Rattle.vlt_witness.proofs.search.together.Goals as goal

pub returns : goal.returns
returns c = record { next = rw c.as_slice.ensures at c.in_ok-join.ensures; number = refl }
