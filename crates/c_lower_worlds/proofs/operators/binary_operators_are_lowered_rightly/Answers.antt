use Rattle.c_lower_worlds.proofs.OfOperators.Operators.{binary_is_right}
use Rattle.c_lower_worlds.proofs.operators.binary_operators_are_lowered_rightly.Goals as goal

pub returns : goal.returns
returns c = binary_is_right
