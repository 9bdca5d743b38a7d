use Rattle.vlt_iface.proofs.Empty.{alone}
use Rattle.vlt_iface.proofs.laws.empty_modules_change_nothing.Goals as goal

pub returns : goal.returns
returns c = λ is. alone is
