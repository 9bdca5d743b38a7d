use Rattle.std.proofs.Common.{◌≡◌, drop}
use Rattle.c_printer.specs.Layout.{more_params_laid}
use Rattle.c_printer.proofs.functions.write_more_params.Given as goal

-- what is left, after what was written, is the whole
abbrev pub invariant-loop-param : goal.invariant-loop-param
invariant-loop-param l =
    more_params_laid (drop l.param-index l.params) l.out.items ≡ more_params_laid l.params l.initial.out.items
