use Rattle.std.proofs.Common.{◌≡◌, drop, map}
use Rattle.c_syntax.specs.View.{func_of}
use Rattle.c_reader.specs.Found.{has_number}
use Rattle.c_reader.proofs.program.position.Given as goal

abbrev pub invariant-loop-at : goal.invariant-loop-at
invariant-loop-at l = has_number l.number (map func_of (drop l.at l.fns)) ≡ has_number l.number (map func_of l.fns)
