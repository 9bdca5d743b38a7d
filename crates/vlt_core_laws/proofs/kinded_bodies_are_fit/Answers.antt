use Rattle.vlt_core_laws.proofs.Starting.{fit_body}
use Rattle.vlt_core_laws.proofs.kinded_bodies_are_fit.Goals as goal

pub returns : goal.returns
returns c = λ p n f o kinded states there body origin arms. fit_body p n f states there kinded o origin arms body
