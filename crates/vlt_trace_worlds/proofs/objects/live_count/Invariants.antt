use Rattle.std.proofs.Common.{◌≡◌, ◌≤◌, take}
use Rattle.vlt_meaning.specs.World.{live_count}
use Rattle.vlt_trace_worlds.specs.View.{objects_view}
use Rattle.vlt_trace_worlds.proofs.objects.live_count.Given as goal

abbrev pub invariant-loop-o : goal.invariant-loop-o
invariant-loop-o l = record {
  count : l.n ≡ live_count (objects_view (take l.o-index l.objects));
  most : l.n ≤ l.o-index;
}
