-- Where annotations hold, the program is accepted.
use Rattle.std.specs.Prelude.{◌≡◌, ℕ, false, Option, Some, slice_get}
use Rattle.vlt_core.specs.Core.{Func, Program}
use Rattle.vlt_core.specs.Kinded.{IsKinded}
use Rattle.vlt_core.specs.Instances.{instance, IsOrigin}
use Rattle.vlt_core.specs.Bodies.{body_flow}
use Rattle.vlt_core.specs.Local.{Notes, IsLocalIn}
use Rattle.vlt_core.specs.Derives.{start_map, IsAccepted}
use Rattle.vlt_core_laws.specs.States.{HasStates}
use Rattle.vlt_core_laws.proofs.Headed.{kinded_parts}
use Rattle.vlt_core_laws.proofs.Starting.{fit_body}
use Rattle.vlt_core_laws.proofs.Deriving.{accepted}
use Rattle.cert_fit_laws.specs.Formed.{IsFormed}
use Rattle.cert_fit_laws.proofs.Arms.{have_arms}

-- in each instance of each body some annotation holds
pub record HasLocal (p : Program) : Type 0 where
  pub each : (g : ℕ) (f : Func) (o : Option ℕ) → slice_get p.fns g ≡ Some f → f.external ≡ false → IsOrigin p f o →
      (a : Notes) × IsLocalIn p (instance p f o) a

pub local_accepted : (p : Program) → IsFormed p → IsKinded p → HasStates p → HasLocal p → IsAccepted p
local_accepted p formed kinded states local g f o there body origin =
    let fit = fit_body p g f states there (kinded_parts p kinded) o origin (have_arms p g f formed.some_cases (formed.blank g f there) kinded there) body in
    accepted (body_flow p (instance p f o)) fit.scope (start_map p (instance p f o)) fit.scoped fit.absent (local.each g f o there body origin)
