use Rattle.std.proofs.Common.{◌≡◌, ◌&&◌, drop, map}
use Rattle.std.specs.List.{list_any}
use Rattle.vlt_core.specs.View as view
use Rattle.c_lower_program.specs.Glue.ManyCases.{gives_many_cases, has_many_cases}
use Rattle.c_lower_program.proofs.glue.externals.gives_many_cases.Given as goal

abbrev pub invariant-loop-func : goal.invariant-loop-func
invariant-loop-func l =
    list_any (λ f. f.external && has_many_cases (view.program_of l.program) f.result) (map view.func_of (drop l.func-index l.func-items))
    ≡ gives_many_cases (view.program_of l.program)
