-- What is proved of the code of expressions and operands.
use Rattle.vlt_core.specs.Core.{Program}
use Rattle.c_meaning.specs.Run.{Setup, Meaning}
use Rattle.c_lower_worlds.specs.Operands.{OperandsAreRight}
use Rattle.c_lower_worlds.specs.Parts.{NumbersAreRight}

-- The code of an expression that breaks no rule gives the number that the source finds, or traps as
-- the source does.
abbrev pub NumbersAreLowered : Type 0
NumbersAreLowered = (p : Program) → NumbersAreRight p

-- So the code of an operand leaves its value in its atoms, whatever follows.
abbrev pub OperandsAreLowered : Type 0
OperandsAreLowered = (p : Program) (r : Setup) (rest_of : Meaning) → OperandsAreRight p r rest_of
