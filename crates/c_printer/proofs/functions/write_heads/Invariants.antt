use Rattle.std.proofs.Common.{◌≡◌, drop, map}
use Rattle.c_printer.specs.Layout.{heads_laid}
use Rattle.c_syntax.specs.View.{func_of}
use Rattle.c_printer.proofs.functions.write_heads.Given as goal

-- what is left, after what was written, is the whole
abbrev pub invariant-loop-func : goal.invariant-loop-func
invariant-loop-func l =
    heads_laid l.glue (map func_of (drop l.func-index l.fns)) l.out.items ≡ heads_laid l.glue (map func_of l.fns) l.initial.out.items
