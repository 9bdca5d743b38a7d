use Rattle.vlt_core.specs.Core.{a_key}
use Rattle.vlt_keyset.specs.Held.{map_of}
use Rattle.vlt_flow.specs.Notes.Pushed.{IsListedTo}
use Rattle.vlt_flow.proofs.OfNotes.Pushing.{IsGrown, keys_below}
use Rattle.vlt_flow.proofs.notes.statuses.push_keys.Given as goal

abbrev pub invariant-loop-key : goal.invariant-loop-key
invariant-loop-key l =
    IsGrown l.fn.pairs l.pairs (keys_below (map_of l.held) l.key) ×
    (IsListedTo l.fn.counts.keys l.fn.counts.vars (a_key 0) l.fn.pairs → IsListedTo l.fn.counts.keys l.fn.counts.vars (a_key l.key) l.pairs)
