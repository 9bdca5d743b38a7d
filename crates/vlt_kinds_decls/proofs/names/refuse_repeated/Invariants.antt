use Rattle.std.proofs.Common.{◌≡◌, map, drop, take}
use Rattle.vlt_kinds_types.specs.Names.Refusals.{least_from, refuse}
use Rattle.vlt_kinds_decls.specs.Names.{repeated_names, repeated_after}
use Rattle.vlt_kinds_decls.proofs.names.refuse_repeated.Given as goal

abbrev pub invariant-loop-i : goal.invariant-loop-i
invariant-loop-i g l =
    least_from l.found.least (refuse l.rule (repeated_after (map g.T.HasName.name (take l.i l.named)) (map g.T.HasName.name (drop l.i l.named))))
    ≡ least_from l.initial.found.least (refuse l.rule (repeated_names (map g.T.HasName.name l.named)))
