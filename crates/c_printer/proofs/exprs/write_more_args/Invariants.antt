use Rattle.std.proofs.Common.{◌≡◌, drop, map}
use Rattle.c_printer.specs.Layout.{more_args_laid}
use Rattle.c_syntax.specs.View.{arg_of}
use Rattle.c_printer.proofs.exprs.write_more_args.Given as goal

-- what is left, after what was written, is the whole
abbrev pub invariant-loop-arg : goal.invariant-loop-arg
invariant-loop-arg l =
    more_args_laid (map arg_of (drop l.arg-index l.args)) l.out.items ≡ more_args_laid (map arg_of l.args) l.initial.out.items
