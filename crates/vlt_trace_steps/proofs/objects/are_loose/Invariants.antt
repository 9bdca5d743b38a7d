use Rattle.std.proofs.Common.{◌≡◌, drop}
use Rattle.std.specs.List.{list_all}
use Rattle.std.specs.Result.{is_ok}
use Rattle.vlt_meaning.specs.World.{is_loose}
use Rattle.vlt_meaning.specs.Objects.{owned_at}
use Rattle.vlt_trace_worlds.specs.View.{objects_view}
use Rattle.vlt_trace_steps.proofs.objects.are_loose.Given as goal

abbrev pub invariant-loop-n : goal.invariant-loop-n
invariant-loop-n l =
    list_all (λ n. is_ok (owned_at is_loose (objects_view l.objects) n)) (drop l.n-index l.ns)
    ≡ list_all (λ n. is_ok (owned_at is_loose (objects_view l.objects) n)) l.ns
