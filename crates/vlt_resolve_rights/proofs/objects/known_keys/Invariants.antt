use Rattle.std.proofs.Common.{◌≡◌, ◌++◌, drop, option_map}
use Rattle.vlt_syntax.specs.View.{names_of}
use Rattle.vlt_core.specs.View.{keys_of}
use Rattle.vlt_resolve_exprs.specs.Seen.{scope_seen}
use Rattle.vlt_resolve_rights.specs.News as n
use Rattle.vlt_resolve_rights.proofs.objects.known_keys.Given as goal

abbrev pub invariant-loop-name : goal.invariant-loop-name
invariant-loop-name l =
    option_map (λ ks. keys_of l.keys ++ ks) (n.known_keys (scope_seen l.scope) (names_of (drop l.name-index l.names)))
    ≡ n.known_keys (scope_seen l.scope) (names_of l.names)
