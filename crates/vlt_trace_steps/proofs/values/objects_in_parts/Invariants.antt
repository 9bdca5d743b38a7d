use Rattle.std.proofs.Common.{◌≡◌, ◌++◌, map, drop}
use Rattle.std.specs.List.{flat_map}
use Rattle.vlt_meaning.specs.World.{objects_in_part}
use Rattle.vlt_trace_worlds.specs.View.{part_view}
use Rattle.vlt_trace_steps.proofs.values.objects_in_parts.Given as goal

abbrev pub invariant-loop-part : goal.invariant-loop-part
invariant-loop-part l = l.ns ++ flat_map objects_in_part (map part_view (drop l.part-index l.parts)) ≡ flat_map objects_in_part (map part_view l.parts)
