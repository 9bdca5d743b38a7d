use Rattle.vlt_link_laws.proofs.OfMoves.Walk.{walks_move}
use Rattle.vlt_link_laws.proofs.moves.walks_move.Goals as goal

pub returns : goal.returns
returns c = λ m a b sees around scope ended ss y apt whole e. walks_move m a b sees around scope ended ss y apt whole e
