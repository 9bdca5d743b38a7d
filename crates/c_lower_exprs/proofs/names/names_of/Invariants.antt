use Rattle.std.proofs.Common.{◌≡◌, ◌++◌, drop, map}
use Rattle.vlt_core.specs.View.{program_of, func_of}
use Rattle.c_lower_exprs.specs.Names.{names_laid, bodies_after}
use Rattle.c_lower_exprs.proofs.names.names_of.Given as goal

abbrev pub invariant-loop-func : goal.invariant-loop-func
invariant-loop-func l = record {
  names : l.names ++ names_laid l.bodies l.glue (map func_of (drop l.func-index l.func-items)) ≡ names_laid 0 0 (program_of l.program).fns;
  bodies : bodies_after l.bodies (map func_of (drop l.func-index l.func-items)) ≡ bodies_after 0 (program_of l.program).fns;
}
