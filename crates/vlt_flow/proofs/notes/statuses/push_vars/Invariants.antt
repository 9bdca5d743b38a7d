use Rattle.vlt_core.specs.Core.{a_var}
use Rattle.vlt_keyset.specs.Held.{map_of}
use Rattle.vlt_flow.specs.Notes.Pushed.{IsListedTo}
use Rattle.vlt_flow.proofs.OfNotes.Pushing.{IsGrown, vars_below}
use Rattle.vlt_flow.proofs.notes.statuses.push_vars.Given as goal

abbrev pub invariant-loop-var : goal.invariant-loop-var
invariant-loop-var l =
    IsGrown l.fn.pairs l.pairs (vars_below (map_of l.held) l.var) ×
    (IsListedTo l.fn.counts.keys l.fn.counts.vars (a_var 0) l.fn.pairs → IsListedTo l.fn.counts.keys l.fn.counts.vars (a_var l.var) l.pairs)
