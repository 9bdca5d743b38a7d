use Rattle.vlt_iface.proofs.Least.{least_is}
use Rattle.vlt_iface.proofs.laws.least_names_are_least.Goals as goal

pub returns : goal.returns
returns c = λ ns m e. least_is ns m e
