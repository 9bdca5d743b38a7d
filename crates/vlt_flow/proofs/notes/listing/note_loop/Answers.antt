use Rattle.vlt_flow.proofs.OfNotes.Noting.{noted_loop}
use Rattle.vlt_flow.proofs.OfNotes.Ordering.{note_listed}
use Rattle.vlt_flow.proofs.notes.listing.note_loop.Goals as goal

pub returns-clause-noted : goal.returns-clause-noted
returns-clause-noted c = noted_loop _ _ _ _ _ _ _ c.in_ok-push.ensures.ok c.in_ok-stmt.ensures.id c.in_ok-around.ensures.held c.in_ok-exit.ensures.held

pub returns-clause-order : goal.returns-clause-order
returns-clause-order c = λ l. note_listed _ _ _ _ _ c.in_ok-push.ensures.ok (c.in_ok-around.ensures.order, c.in_ok-exit.ensures.order) l
