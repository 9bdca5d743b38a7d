use Rattle.std.proofs.Common.{◌≡◌, map, drop}
use Rattle.std.specs.List.{flat_map}
use Rattle.cert_kinds_types.specs.Least.{least, lesser}
use Rattle.vlt_core.specs.View.{func_of, entry_of}
use Rattle.cert_kinds_heads.specs.Heads.{external_entry_broken}
use Rattle.cert_kinds_heads.proofs.externals.entries_broken.Given as goal

abbrev pub invariant-loop-e : goal.invariant-loop-e
invariant-loop-e l = least (flat_map (external_entry_broken (func_of l.f)) (map entry_of l.clause)) ≡ lesser l.found (least (flat_map (external_entry_broken (func_of l.f)) (map entry_of (drop l.e-index l.clause))))
