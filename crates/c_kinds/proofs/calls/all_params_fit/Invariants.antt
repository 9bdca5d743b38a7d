use Rattle.std.proofs.Common.{◌≡◌, drop, map}
use Rattle.c_syntax.specs.Kinds as k
use Rattle.c_syntax.specs.View.{arg_of}
use Rattle.c_parser.specs.View.{declaration_of}
use Rattle.c_kinds.specs.View.{scope_of}
use Rattle.c_kinds.proofs.calls.all_params_fit.Given as goal

abbrev pub invariant-loop-param : goal.invariant-loop-param
invariant-loop-param l =
    k.all_fit (scope_of l.scope) (map k.param_wanted (map declaration_of (drop l.param-index l.params))) (map arg_of l.left)
    ≡ k.all_fit (scope_of l.scope) (map k.param_wanted (map declaration_of l.params)) (map arg_of l.args)
