use Rattle.std.proofs.Common.{subst}
use Rattle.c_primitives.specs.Shown.{Comes}
use Rattle.c_interp.proofs.Plain.{after_given, after_halt}
use Rattle.c_interp.proofs.stack.after.Goals as goal

pub returns-in-Ok-clause-comes : goal.returns-in-Ok-clause-comes
returns-in-Ok-clause-comes c = λ ts things w s before after e made comes.
    after_given c.args.n c.args.target things s w before after ts c.args.frames.now c.receive.new.frames c.in-Ok.value c.receive.result e made (subst (λ r. Comes things s w before after r e) c.in-Ok.is comes) (λ u. c.receive.ensures.comes ts u) c.receive.ensures.kept

pub returns-in-Err-clause-comes : goal.returns-in-Err-clause-comes
returns-in-Err-clause-comes c = λ ts things w s before after e made comes.
    after_halt c.args.n c.args.target things s w before after ts c.args.frames.now c.in-Err.halt c.stop_at.result e c.stop_at.ensures (subst (λ r. Comes things s w before after r e) c.in-Err.is comes)
