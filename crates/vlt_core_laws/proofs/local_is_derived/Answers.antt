use Rattle.vlt_core_laws.proofs.Deriving.{accepted}
use Rattle.vlt_core_laws.proofs.local_is_derived.Goals as goal

pub returns : goal.returns
returns c = λ s g h scoped out local. accepted s g h scoped out local
