use Rattle.cert_check.proofs.Ends.{dont_pass}
use Rattle.cert_check.proofs.ends_dont_pass.Goals as goal

pub returns : goal.returns
returns c = dont_pass
