use Rattle.vlt_flow.proofs.OfNotes.Noting.{noted_join, noted_no_join}
use Rattle.vlt_flow.proofs.OfNotes.Ordering.{note_listed}
use Rattle.vlt_flow.proofs.notes.listing.note_join.Goals as goal

pub returns-then-not-passes-clause-noted : goal.returns-then-not-passes-clause-noted
returns-then-not-passes-clause-noted c = noted_no_join _ _ _ _ c.if-not-passes.true

pub returns-clause-noted : goal.returns-clause-noted
returns-clause-noted c = noted_join _ _ _ _ _ _ _ c.if-not-passes.false c.in_ok-push.ensures.ok c.in_ok-stmt.ensures.id c.in_ok-map.ensures.held

pub returns-clause-order : goal.returns-clause-order
returns-clause-order c = λ l. note_listed _ _ _ _ _ c.in_ok-push.ensures.ok c.in_ok-map.ensures.order l
