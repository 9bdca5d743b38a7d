use Rattle.cert_check_laws.proofs.Fitness.{arent_unfit}
use Rattle.cert_check_laws.proofs.certificates_arent_unfit.Goals as goal

pub returns : goal.returns
returns c = arent_unfit
