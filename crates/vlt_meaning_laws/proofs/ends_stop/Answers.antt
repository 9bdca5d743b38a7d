use Rattle.vlt_meaning_laws.proofs.Equations.{ends_stop}
use Rattle.vlt_meaning_laws.proofs.ends_stop.Goals as goal

pub returns : goal.returns
returns c = ends_stop
