use Rattle.std.proofs.Common.{◌≡◌, map, drop}
use Rattle.std.specs.List.{flat_map}
use Rattle.cert_kinds_types.specs.Least.{least, lesser}
use Rattle.vlt_core.specs.View.{program_of, func_of, entry_of}
use Rattle.vlt_core.specs.KindedHeads.{entry_broken}
use Rattle.cert_kinds_heads.proofs.clauses.entries_broken.Given as goal

abbrev pub invariant-loop-e : goal.invariant-loop-e
invariant-loop-e l = least (flat_map (entry_broken (program_of l.p) (func_of l.f)) (map entry_of l.clause)) ≡ lesser l.found (least (flat_map (entry_broken (program_of l.p) (func_of l.f)) (map entry_of (drop l.e-index l.clause))))
