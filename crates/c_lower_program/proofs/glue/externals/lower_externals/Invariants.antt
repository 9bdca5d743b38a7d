use Rattle.std.proofs.Common.{◌≡◌, ◌≤◌, ◌&&◌, false, ◌++◌, drop, map}
use Rattle.std.specs.List.{list_any}
use Rattle.vlt_core.specs.View as view
use Rattle.c_syntax.specs.View.{func_of}
use Rattle.c_lower_program.specs.Glue.ManyCases.{has_many_cases}
use Rattle.c_lower_program.specs.Glue.Parts.{externals_from}
use Rattle.c_lower_program.proofs.glue.externals.lower_externals.Given as goal

abbrev pub invariant-loop-func : goal.invariant-loop-func
invariant-loop-func l = record {
  place : l.number ≤ l.func-index;
  few : list_any (λ f. f.external && has_many_cases (view.program_of l.program) f.result) (map view.func_of (drop l.func-index l.func-items)) ≡ false;
  made :
      map func_of l.made ++ externals_from (view.program_of l.program) l.number (map view.func_of (drop l.func-index l.func-items))
      ≡ externals_from (view.program_of l.program) 0 (view.program_of l.program).fns;
}
