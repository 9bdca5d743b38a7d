use Rattle.std.proofs.Common.{◌≡◌, drop, map}
use Rattle.vlt_syntax.specs.View as view
use Rattle.vlt_kinds_heads.specs.Phase as q
use Rattle.vaultc_replies.proofs.variables.state_variable.Given as goal

abbrev pub invariant-loop-entry : goal.invariant-loop-entry
invariant-loop-entry l =
    q.state_variable (map view.entry_of l.clause) ≡ q.state_variable (map view.entry_of (drop l.entry-index l.clause))
