-- What is proved of the C program of a program: that it is one that a text can have.
use Rattle.vlt_core.specs.Core.{Program}
use Rattle.c_syntax.specs.Canonical.{IsProgram}
use Rattle.c_lower.specs.Lowering.{lowered}
use Rattle.c_lower_runs.specs.Lowerable.{IsLowerable}
use Rattle.c_lower_runs.specs.Texts.Printable.{IsPrintable}

-- The C program of a program that the law of the lowering is about is a C program, so its
-- canonical text reads as that very program.
abbrev pub AreCPrograms : Type 0
AreCPrograms = (p : Program) → IsLowerable p → IsPrintable p → IsProgram (lowered p)
