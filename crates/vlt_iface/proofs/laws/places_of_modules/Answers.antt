use Rattle.vlt_iface.proofs.Least.{place_raised}
use Rattle.vlt_iface.proofs.laws.places_of_modules.Goals as goal

pub returns : goal.returns
returns c = λ at. place_raised at
