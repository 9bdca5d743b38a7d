use Rattle.std.proofs.Common.{◌≡◌, ◌≤◌, ◌+◌, ◌<◌, ◌++◌, min, drop, map}
use Rattle.c_syntax.specs.View.{func_of}
use Rattle.c_meaning.specs.Run.{count_in_all}
use Rattle.c_interp.specs.Finding.{firsts_from, max_count}
use Rattle.c_interp.proofs.rules.number_all.Given as goal

abbrev pub invariant-loop-f : goal.invariant-loop-f
invariant-loop-f l = record {
  last : min (l.next + count_in_all (map func_of (drop l.f-index l.fns))) max_count ≡ min (l.start + count_in_all (map func_of l.fns)) max_count;
  few : l.next ≤ max_count;
  are : l.next < max_count → l.firsts.items ++ firsts_from l.next (map func_of (drop l.f-index l.fns)) ≡ firsts_from l.start (map func_of l.fns);
}
