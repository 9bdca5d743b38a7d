use Rattle.std.proofs.Common.{true, false, map}
use Rattle.c_syntax.specs.Programs.{AreFuncsOf, bodies_of}
use Rattle.c_syntax.specs.View.{func_of}
use Rattle.c_parser.specs.View.{body_of}
use Rattle.c_reader.proofs.program.split_glue.Given as goal

abbrev pub invariant-loop-body : goal.invariant-loop-body
invariant-loop-body l = record {
  glue : AreFuncsOf (bodies_of true (map body_of l.yielded)) (map func_of l.glue);
  fns : AreFuncsOf (bodies_of false (map body_of l.yielded)) (map func_of l.fns);
}
