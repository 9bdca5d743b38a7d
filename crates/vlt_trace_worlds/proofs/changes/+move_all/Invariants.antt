use Rattle.std.proofs.Common.{length}
use Rattle.vlt_trace_worlds.proofs.changes.+move_all.Given as goal

abbrev pub decreases-move_all : goal.decreases-move_all
decreases-move_all l = length l.ns.now
