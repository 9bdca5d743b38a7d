use Rattle.vlt_link_laws.proofs.OfMoves.Exprs.{expr_moves}
use Rattle.vlt_link_laws.proofs.moves.exprs_move.Goals as goal

pub returns : goal.returns
returns c = λ m a b sees scope e none. expr_moves m a b sees scope e none
