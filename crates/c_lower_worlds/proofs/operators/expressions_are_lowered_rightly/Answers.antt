use Rattle.c_lower_worlds.proofs.OfOperators.Expressions.{expressions_are_right}
use Rattle.c_lower_worlds.proofs.operators.expressions_are_lowered_rightly.Goals as goal

pub returns : goal.returns
returns c = expressions_are_right
