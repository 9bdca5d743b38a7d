use Rattle.vlt_iface.proofs.Further.{told_views}
use Rattle.vlt_iface.proofs.laws.told_views_are_views.Goals as goal

pub returns : goal.returns
returns c = λ i m v e. told_views i m v e
