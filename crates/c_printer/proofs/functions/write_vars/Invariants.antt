use Rattle.std.proofs.Common.{◌≡◌, drop}
use Rattle.c_printer.specs.Layout.{vars_laid}
use Rattle.c_printer.proofs.functions.write_vars.Given as goal

-- what is left, after what was written, is the whole
abbrev pub invariant-loop-var : goal.invariant-loop-var
invariant-loop-var l =
    vars_laid (drop l.var-index l.vars) l.out.items ≡ vars_laid l.vars l.initial.out.items
