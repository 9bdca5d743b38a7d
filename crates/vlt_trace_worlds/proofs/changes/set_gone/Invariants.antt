use Rattle.std.proofs.Common.{◌≡◌, ◌++◌, take, drop, length}
use Rattle.vlt_trace_worlds.specs.View.{objects_view}
use Rattle.vlt_trace_worlds.specs.Owners.{gone_where}
use Rattle.vlt_trace_worlds.proofs.changes.set_gone.Given as goal

abbrev pub invariant-loop-n : goal.invariant-loop-n
invariant-loop-n l = record {
  long : length l.objects ≡ length l.fn.objects;
  made : objects_view (take l.n l.objects) ++ gone_where (drop l.n l.under) (objects_view (drop l.n l.objects)) ≡ gone_where l.under (objects_view l.fn.objects);
}
