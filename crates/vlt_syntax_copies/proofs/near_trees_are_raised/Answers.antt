use Rattle.vlt_syntax_copies.proofs.Near.{near_is_raised}
use Rattle.vlt_syntax_copies.proofs.near_trees_are_raised.Goals as goal

pub returns : goal.returns
returns c = λ by end t within near. near_is_raised by end t within near
