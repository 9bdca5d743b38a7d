use Rattle.std.proofs.Common.{◌≡◌, ◌≤◌, ◌++◌, drop, map}
use Rattle.vlt_core.specs.View as view
use Rattle.c_syntax.specs.View.{func_of}
use Rattle.c_lower_program.specs.Code.Heads.{bodies_from}
use Rattle.c_lower_program.proofs.code.funcs.lower_bodies.Given as goal

abbrev pub invariant-loop-func : goal.invariant-loop-func
invariant-loop-func l = record {
  place : l.number ≤ l.func-index;
  made :
      map func_of l.made ++ bodies_from (view.program_of l.program) l.number (map view.func_of (drop l.func-index l.func-items))
      ≡ bodies_from (view.program_of l.program) 0 (view.program_of l.program).fns;
}
