use Rattle.std.proofs.Common.{subst}
use Rattle.vlt_host.specs.Machine.Calling.{HasFront}
use Rattle.vlt_host.proofs.OfMachine.Back.{value_given, none_given}
use Rattle.vlt_host.proofs.machine.settling.given.Goals as goal

pub returns-in-None : goal.returns-in-None
returns-in-None c = λ items t a q front. none_given items a (subst (HasFront items a) c.in-None.is front)

pub returns-in-Some : goal.returns-in-Some
returns-in-Some c = λ items t a q front. value_given items t a c.in-Some.a c.value.result q (subst (HasFront items a) c.in-Some.is front) (λ p h. c.value.ensures items p h)
