use Rattle.cert_points_laws.proofs.Programs.{points_show}
use Rattle.cert_points_laws.proofs.points_show_certificates.Goals as goal

pub returns : goal.returns
returns c = points_show
