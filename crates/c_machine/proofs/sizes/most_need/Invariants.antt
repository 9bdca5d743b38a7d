use Rattle.std.proofs.Common.{◌≡◌, max, drop, map}
use Rattle.c_syntax.specs.View.{func_of}
use Rattle.c_machine.specs.Bounds.{need_of}
use Rattle.c_meaning.specs.Widths.{most}
use Rattle.c_machine.proofs.sizes.most_need.Given as goal

abbrev pub invariant-loop-f : goal.invariant-loop-f
invariant-loop-f l = max l.most (most need_of (map func_of (drop l.f-index l.fns))) ≡ most need_of (map func_of l.fns)
