use Rattle.vlt_flow.proofs.OfNotes.Pushing.{pushed}
use Rattle.vlt_flow.proofs.notes.statuses.push.Goals as goal

pub returns-in_ok-push-in_default-clause-pushed : goal.returns-in_ok-push-in_default-clause-pushed
returns-in_ok-push-in_default-clause-pushed c = pushed _ _ _ _ c.in_ok-push-in_default.ensures.ok
