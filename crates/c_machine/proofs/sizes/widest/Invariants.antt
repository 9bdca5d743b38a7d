use Rattle.std.proofs.Common.{◌≡◌, ◌<◌, ◌^◌, max, drop, map}
use Rattle.c_syntax.specs.View.{func_of}
use Rattle.c_meaning.specs.Widths.{most, width_of}
use Rattle.c_machine.proofs.sizes.widest.Given as goal

abbrev pub invariant-loop-f : goal.invariant-loop-f
invariant-loop-f l = record {
  most : max l.widest (most width_of (map func_of (drop l.f-index l.fns))) ≡ most width_of (map func_of l.fns);
  few : l.widest < 2 ^ 66;
}
