use Rattle.vlt_link_laws.proofs.OfCoreMoves.Drops.{still_drops}
use Rattle.vlt_link_laws.proofs.core_moves.droppable_structs_stay_so.Goals as goal

pub returns : goal.returns
returns c = λ m p q t keeps e. still_drops m p q keeps t e
