use Rattle.vlt_iface.proofs.Least.{place_here}
use Rattle.vlt_iface.proofs.laws.places_of_interfaces.Goals as goal

pub returns : goal.returns
returns c = λ at e. place_here at e
