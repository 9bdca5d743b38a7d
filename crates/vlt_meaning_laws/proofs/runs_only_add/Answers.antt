use Rattle.vlt_meaning_laws.proofs.Equations.{only_adds}
use Rattle.vlt_meaning_laws.proofs.runs_only_add.Goals as goal

pub returns : goal.returns
returns c = only_adds
