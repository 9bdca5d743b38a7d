use Rattle.vlt_core.specs.View.{program_of}
use Rattle.vlt_interp.proofs.OfRooms.Lists.{widest_found}
use Rattle.vlt_interp.proofs.rooms.slots.widest_type.Goals as goal

pub returns : goal.returns
returns c = widest_found (program_of c.args.p.now) c.loop-t.most c.loop-t.t-index c.as_slice-t-items.result.now c.loop-t-test.false c.loop-t.invariant
