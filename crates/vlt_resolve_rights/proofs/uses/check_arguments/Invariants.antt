use Rattle.std.proofs.Common.{◌≡◌, drop}
use Rattle.vlt_syntax.specs.View as tree
use Rattle.vlt_kinds_types.specs.Names.Refusals.{found_each}
use Rattle.vlt_kinds_types.specs.Types as t
use Rattle.vlt_resolve_exprs.specs.Seen.{scope_seen}
use Rattle.vlt_resolve_rights.specs.News as n
use Rattle.vlt_resolve_rights.proofs.uses.check_arguments.Given as goal

abbrev pub invariant-loop-i : goal.invariant-loop-i
invariant-loop-i l =
    found_each (n.use_refused (scope_seen l.scope)) (t.argument_uses (drop l.i l.header) (tree.names_of (drop l.i l.keys))) l.found.least
    ≡ found_each (n.use_refused (scope_seen l.scope)) (t.argument_uses l.header (tree.names_of l.keys)) l.initial.found.least
