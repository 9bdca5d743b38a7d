use Rattle.std.proofs.Common.{◌≡◌, drop}
use Rattle.vlt_core.specs.View.{program_of}
use Rattle.vlt_meaning.specs.World.{World}
use Rattle.vlt_meaning.specs.Step.{Step, with_dropped}
use Rattle.vlt_trace_worlds.specs.View.{world_view}
use Rattle.vlt_trace_steps.proofs.owned.drop_all.Given as goal

abbrev pub invariant-loop-n : goal.invariant-loop-n
invariant-loop-n l =
    (go : World → Step) → with_dropped (program_of l.p) l.ns (world_view l.fn.world) go ≡ with_dropped (program_of l.p) (drop l.n-index l.ns) (world_view l.world) go
