use Rattle.std.proofs.Common.{◌≡◌, drop, map}
use Rattle.vlt_core.specs.View.{entry_of}
use Rattle.vlt_elaboration.specs.Elaboration as e
use Rattle.vlt_resolve_bodies.proofs.scopes.is_fresh_key.Given as goal

abbrev pub invariant-loop-entry : goal.invariant-loop-entry
invariant-loop-entry l = e.is_fresh_key (map entry_of l.clause) l.key ≡ e.is_fresh_key (map entry_of (drop l.entry-index l.clause)) l.key
