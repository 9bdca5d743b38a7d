use Rattle.std.proofs.Common.{◌≡◌, drop, map}
use Rattle.vlt_syntax.specs.View.{init_of}
use Rattle.vlt_core.specs.View.{ty_of}
use Rattle.vlt_kinds_types.specs.Seen.{kinds_seen}
use Rattle.vlt_resolve_exprs.specs.Seen.{scope_seen}
use Rattle.vlt_resolve_rights.specs.Least.{inits_found}
use Rattle.vlt_resolve_rights.proofs.objects.check_each_init.Given as goal

abbrev pub invariant-loop-i : goal.invariant-loop-i
invariant-loop-i l =
    inits_found (kinds_seen l.kinds) (scope_seen l.scope) (map init_of (drop l.i l.inits)) (map ty_of (drop l.i l.types)) l.found.least
    ≡ inits_found (kinds_seen l.kinds) (scope_seen l.scope) (map init_of l.inits) (map ty_of l.types) l.initial.found.least
