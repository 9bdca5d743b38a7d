use Rattle.vlt_link_laws.proofs.OfMoves.Exprs.{operand_moves}
use Rattle.vlt_link_laws.proofs.moves.operands_move.Goals as goal

pub returns : goal.returns
returns c = λ m a b sees scope w e none. operand_moves m a b sees scope w e none
