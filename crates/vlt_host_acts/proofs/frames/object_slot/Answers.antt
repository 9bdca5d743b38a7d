use Rattle.vlt_host_acts.proofs.Called.{object_there}
use Rattle.vlt_host_acts.proofs.frames.object_slot.Goals as goal

pub returns-in-Some : goal.returns-in-Some
returns-in-Some c = λ objects s h. object_there c.args.hosted.now objects s c.in-Some.o c.args.number c.in-Some.ensures.live c.in-Some.ensures.number
