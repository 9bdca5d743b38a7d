use Rattle.std.proofs.Common.{None, Some, refl, subst, sym}
use Rattle.c_machine.specs.Machine as m
use Rattle.c_interp.specs.Shown.{tasks_of, state_of, given_view, IsPlain}
use Rattle.c_interp.proofs.stack.receive.Goals as goal

pub returns-in-Some-value-clause-comes : goal.returns-in-Some-value-clause-comes
returns-in-Some-value-clause-comes c = λ ts w.
    subst (λ t. IsPlain None ts c.set.new.self w (m.after_receiving c.args.n t (given_view c.args.value) (tasks_of ts) (state_of c.args.frames.now w))) (sym c.in-Some.is)
    (subst (λ x. IsPlain None ts c.set.new.self w (m.after_receiving c.args.n (Some c.in-Some.v) (given_view x) (tasks_of ts) (state_of c.args.frames.now w))) (sym c.in-Some-value.is) (refl, sym (c.set.ensures.state w)))
