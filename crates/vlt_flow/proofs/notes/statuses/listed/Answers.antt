use Rattle.vlt_flow.proofs.OfNotes.Pushing.{all_listed}
use Rattle.vlt_flow.proofs.OfNotes.Ordering.{none_listed}
use Rattle.vlt_flow.proofs.notes.statuses.listed.Goals as goal

pub returns-clause-map : goal.returns-clause-map
returns-clause-map c =
    all_listed _ _ _ _ c.new-pairs.ensures c.in_ok-push_keys.ensures.status c.in_ok-push_vars.ensures.status
    (c.in_ok-push_vars.ensures.order (c.in_ok-push_keys.ensures.order (none_listed _ _ _ c.new-pairs.ensures))).order

pub returns-clause-order : goal.returns-clause-order
returns-clause-order c = c.in_ok-push_vars.ensures.order (c.in_ok-push_keys.ensures.order (none_listed _ _ _ c.new-pairs.ensures))
