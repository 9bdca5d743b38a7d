use Rattle.std.proofs.Common.{◌≡◌, ◌++◌, ℕ, List, map, drop}
use Rattle.vlt_meaning.specs.World.{World}
use Rattle.vlt_meaning.specs.Step.{Step}
use Rattle.vlt_meaning.specs.Operands.{with_case_packed}
use Rattle.vlt_trace_worlds.specs.View.{frame_view, world_view}
use Rattle.vlt_trace_steps.specs.Cases.{case_key_view}
use Rattle.vlt_trace_steps.proofs.cases.pack_case.Given as goal

abbrev pub invariant-loop-k : goal.invariant-loop-k
invariant-loop-k l =
    (go : List ℕ → World → Step) →
    with_case_packed (map case_key_view l.keys) (frame_view l.frame) (world_view l.fn.world) go
    ≡ with_case_packed (map case_key_view (drop l.k-index l.keys)) (frame_view l.frame) (world_view l.world) (λ ns w. go (l.ns ++ ns) w)
