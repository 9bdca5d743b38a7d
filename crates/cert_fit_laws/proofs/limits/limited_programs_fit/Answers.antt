use Rattle.cert_fit_laws.proofs.Fitting.{written_fit}
use Rattle.cert_fit_laws.proofs.limits.limited_programs_fit.Goals as goal

pub returns : goal.returns
returns c = written_fit c.programs_have_a_written_version.ensures
