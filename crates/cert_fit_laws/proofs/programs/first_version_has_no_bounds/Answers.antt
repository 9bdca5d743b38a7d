use Rattle.cert_fit_laws.proofs.Proper.{no_bounds}
use Rattle.cert_fit_laws.proofs.programs.first_version_has_no_bounds.Goals as goal

pub returns : goal.returns
returns c = no_bounds
