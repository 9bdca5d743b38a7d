use Rattle.vlt_fit_laws.proofs.Unfit.{only_bodies}
use Rattle.vlt_fit_laws.proofs.only_bodies_are_unfit.Goals as goal

pub returns : goal.returns
returns c = only_bodies
