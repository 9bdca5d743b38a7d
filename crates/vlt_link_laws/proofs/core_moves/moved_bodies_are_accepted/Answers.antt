use Rattle.vlt_link_laws.proofs.OfCoreMoves.Flows.{still_accepted}
use Rattle.vlt_link_laws.proofs.core_moves.moved_bodies_are_accepted.Goals as goal

pub returns : goal.returns
returns c = λ m p q f keeps knows accepted. still_accepted m p q keeps f knows accepted
