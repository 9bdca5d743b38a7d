use Rattle.std.proofs.Common.{◌≡◌, drop, map}
use Rattle.vlt_core.specs.View.{var_of}
use Rattle.vlt_resolve_exprs.specs.Seen.{scope_seen}
use Rattle.vlt_elaboration.specs.Elaboration as e
use Rattle.vlt_resolve_bodies.proofs.scopes.add_var_names.Given as goal

abbrev pub invariant-loop-i : goal.invariant-loop-i
invariant-loop-i l =
    e.with_var_names (scope_seen l.scope) l.i (map var_of (drop l.i l.vars)) ≡ e.with_var_names (scope_seen l.initial.scope) 0 (map var_of l.vars)
