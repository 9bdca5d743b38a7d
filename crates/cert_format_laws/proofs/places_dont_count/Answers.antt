use Rattle.std.proofs.Common.{◌≡◌, refl, ℕ, Option, Some, None}
use Rattle.vlt_core.specs.Core.{Func, Program}
use Rattle.vlt_core.specs.Instances.{instance}
use Rattle.cert_format.specs.Places.{unplaced_func, unplaced_program}
use Rattle.cert_format_laws.proofs.KindedPlaces.{kinds}
use Rattle.cert_format_laws.proofs.Flows.{local_same}
use Rattle.cert_format_laws.proofs.LoweredPlaces.{lowerings}
use Rattle.cert_format_laws.proofs.places_dont_count.Goals as goal

same : (p : Program) (f : Func) (o : Option ℕ) → instance (unplaced_program p) (unplaced_func f) o ≡ unplaced_func (instance p f o)
same p f None = refl
same p f (Some o) = refl

pub returns : goal.returns
returns c = λ p. record { kinds = kinds p; local = λ f a. local_same p f a; instances = λ f o. same p f o; origins = λ f. refl; lowering = lowerings p }
