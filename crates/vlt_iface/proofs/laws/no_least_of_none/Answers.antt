use Rattle.vlt_iface.proofs.Least.{no_least}
use Rattle.vlt_iface.proofs.laws.no_least_of_none.Goals as goal

pub returns : goal.returns
returns c = λ ns e. no_least ns e
