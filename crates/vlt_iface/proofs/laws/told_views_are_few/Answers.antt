use Rattle.vlt_iface.proofs.Told.{view_few}
use Rattle.vlt_iface.proofs.laws.told_views_are_few.Goals as goal

pub returns : goal.returns
returns c = λ i m v e. view_few i m v e
