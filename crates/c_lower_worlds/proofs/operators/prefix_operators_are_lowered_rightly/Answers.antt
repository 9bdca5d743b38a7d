use Rattle.c_lower_worlds.proofs.OfOperators.Operators.{unary_is_right}
use Rattle.c_lower_worlds.proofs.operators.prefix_operators_are_lowered_rightly.Goals as goal

pub returns : goal.returns
returns c = unary_is_right
