use Rattle.vlt_link_laws.proofs.OfCoreMoves.Instances.{instance_moves, origin_stays}
use Rattle.vlt_link_laws.proofs.core_moves.moved_functions_have_the_same_instances.Goals as goal

pub returns : goal.returns
returns c = λ m p q f o keeps knows. (instance_moves m p q keeps f knows.keys o, origin_stays m p q keeps f knows.keys o)
