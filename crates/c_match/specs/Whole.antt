-- The C program that a lowering of the code stands for.
use Rattle.std.specs.Prelude.{map}
use Rattle.c_syntax.specs.C as c
use Rattle.c_syntax.specs.View.{func_of}
use Rattle.c_match.specs.declared.lowering.Lowering.{Lowering}

abbrev pub whole_of : Lowering → c.Program
whole_of x = record { glue = map func_of x.glue; fns = map func_of x.fns; main = x.main }
