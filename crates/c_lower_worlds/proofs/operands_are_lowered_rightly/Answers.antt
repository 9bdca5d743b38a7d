use Rattle.c_lower_worlds.proofs.NumberCode.{numbers_are_right}
use Rattle.c_lower_worlds.proofs.OperandCode.{operands_are_right}
use Rattle.c_lower_worlds.proofs.operands_are_lowered_rightly.Goals as goal

pub returns-clause-numbers : goal.returns-clause-numbers
returns-clause-numbers c = numbers_are_right

pub returns-clause-operands : goal.returns-clause-operands
returns-clause-operands c = operands_are_right
