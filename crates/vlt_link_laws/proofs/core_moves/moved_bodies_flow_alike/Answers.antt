use Rattle.vlt_link_laws.proofs.OfCoreMoves.Flows.{same_flow}
use Rattle.vlt_link_laws.proofs.core_moves.moved_bodies_flow_alike.Goals as goal

pub returns : goal.returns
returns c = λ m p q f keeps knows. same_flow m p q keeps f knows
