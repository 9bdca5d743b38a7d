use Rattle.std.proofs.Common.{◌≡◌, drop, map}
use Rattle.vlt_core.specs.View.{entry_of, key_of}
use Rattle.vlt_resolve_exprs.specs.Seen.{scope_seen}
use Rattle.vlt_elaboration.specs.Elaboration as e
use Rattle.vlt_resolve_bodies.proofs.scopes.add_key_names.Given as goal

abbrev pub invariant-loop-i : goal.invariant-loop-i
invariant-loop-i l =
    e.with_key_names (map entry_of l.clause) (scope_seen l.scope) l.i (map key_of (drop l.i l.keys))
    ≡ e.with_key_names (map entry_of l.clause) (scope_seen l.initial.scope) 0 (map key_of l.keys)
