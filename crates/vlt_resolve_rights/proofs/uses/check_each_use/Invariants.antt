use Rattle.std.proofs.Common.{◌≡◌, drop, map}
use Rattle.vlt_kinds_types.specs.Names.Refusals.{found_each}
use Rattle.vlt_kinds_types.specs.Seen.{use_seen}
use Rattle.vlt_resolve_exprs.specs.Seen.{scope_seen}
use Rattle.vlt_resolve_rights.specs.News as n
use Rattle.vlt_resolve_rights.proofs.uses.check_each_use.Given as goal

abbrev pub invariant-loop-key : goal.invariant-loop-key
invariant-loop-key l =
    found_each (n.use_refused (scope_seen l.scope)) (map use_seen (drop l.key-index l.uses)) l.found.least
    ≡ found_each (n.use_refused (scope_seen l.scope)) (map use_seen l.uses) l.initial.found.least
