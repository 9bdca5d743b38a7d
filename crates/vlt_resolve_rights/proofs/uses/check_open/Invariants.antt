use Rattle.std.proofs.Common.{◌≡◌, map, drop}
use Rattle.vlt_syntax.specs.View as tree
use Rattle.vlt_kinds_types.specs.Names.Refusals.{found_each}
use Rattle.vlt_kinds_types.specs.Types as t
use Rattle.vlt_kinds_types.specs.declared.shapes.Wanted.TheVariants as wanted
use Rattle.vlt_resolve_exprs.specs.Seen.{scope_seen}
use Rattle.vlt_resolve_rights.specs.News as n
use Rattle.vlt_resolve_rights.proofs.uses.check_open.Given as goal

abbrev pub invariant-loop-key : goal.invariant-loop-key
invariant-loop-key l =
    found_each (n.use_refused (scope_seen l.scope)) (map (t.key_use wanted.Unknown) (tree.names_of (drop l.key-index l.keys))) l.found.least
    ≡ found_each (n.use_refused (scope_seen l.scope)) (map (t.key_use wanted.Unknown) (tree.names_of l.keys)) l.initial.found.least
