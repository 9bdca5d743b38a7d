use Rattle.std.proofs.Common.{◌≡◌, drop}
use Rattle.std.specs.List.{list_all, zip}
use Rattle.vlt_core.specs.View.{program_of}
use Rattle.vlt_trace_worlds.specs.View.{objects_view}
use Rattle.vlt_trace_worlds.specs.Owners.{may_go_in}
use Rattle.vlt_trace_worlds.proofs.changes.are_releasable.Given as goal

abbrev pub invariant-loop-n : goal.invariant-loop-n
invariant-loop-n l = list_all (may_go_in (program_of l.p)) (zip (drop l.n l.under) (objects_view (drop l.n l.objects))) ≡ list_all (may_go_in (program_of l.p)) (zip l.under (objects_view l.objects))
