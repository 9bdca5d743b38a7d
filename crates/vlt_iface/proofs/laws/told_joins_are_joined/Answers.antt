use Rattle.vlt_iface.proofs.Told.{joined_is}
use Rattle.vlt_iface.proofs.laws.told_joins_are_joined.Goals as goal

pub returns : goal.returns
returns c = λ i f g t e. joined_is i f g t e
