use Rattle.vlt_core_laws.proofs.Showing.{faultless_local}
use Rattle.vlt_core_laws.proofs.faultless_is_local.Goals as goal

pub returns : goal.returns
returns c = λ s k a h fit start found reads never. faultless_local s k a h fit start found reads never
