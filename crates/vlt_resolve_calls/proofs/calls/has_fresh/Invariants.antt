use Rattle.std.proofs.Common.{◌≡◌, drop, map}
use Rattle.vlt_core.specs.View.{entry_of}
use Rattle.vlt_resolve_calls.specs.Calls as c
use Rattle.vlt_resolve_calls.proofs.calls.has_fresh.Given as goal

abbrev pub invariant-loop-entry : goal.invariant-loop-entry
invariant-loop-entry l = c.has_fresh (map entry_of l.clause) ≡ c.has_fresh (map entry_of (drop l.entry-index l.clause))
