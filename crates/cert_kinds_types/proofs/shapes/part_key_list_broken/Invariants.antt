use Rattle.std.proofs.Common.{◌≡◌, drop}
use Rattle.std.specs.List.{flat_map}
use Rattle.cert_kinds_types.specs.Least.{least, lesser}
use Rattle.vlt_core.specs.View.{keys_of, header_of}
use Rattle.cert_kinds_types.specs.Arguments.{part_key_broken}
use Rattle.cert_kinds_types.proofs.shapes.part_key_list_broken.Given as goal

abbrev pub invariant-loop-k : goal.invariant-loop-k
invariant-loop-k l = least (flat_map (part_key_broken (header_of l.header)) (keys_of l.keys)) ≡ lesser l.found (least (flat_map (part_key_broken (header_of l.header)) (keys_of (drop l.k-index l.keys))))
