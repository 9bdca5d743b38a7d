use Rattle.std.proofs.Common.{◌≡◌, ◌++◌, map, drop}
use Rattle.std.specs.List.{flat_map}
use Rattle.vlt_meaning.specs.World.{objects_in}
use Rattle.vlt_trace_worlds.specs.View.{value_view}
use Rattle.vlt_trace_steps.proofs.values.all_objects_in.Given as goal

abbrev pub invariant-loop-a : goal.invariant-loop-a
invariant-loop-a l = l.ns ++ flat_map objects_in (map value_view (drop l.a-index l.values)) ≡ flat_map objects_in (map value_view l.values)
