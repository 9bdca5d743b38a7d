use Rattle.vlt_core_laws.proofs.Deriving.{annotated}
use Rattle.vlt_core_laws.proofs.derived_is_local.Goals as goal

pub returns : goal.returns
returns c = λ s h jumping derived. annotated s h jumping derived
