use Rattle.std.proofs.Common.{arith, refl}
use Rattle.vlt_flow.proofs.OfNotes.Noting.{noted_all}
use Rattle.vlt_flow.proofs.OfNotes.Ordering.{no_notes}
use Rattle.vlt_flow.proofs.OfNotes.Reading.{refused_on}
use Rattle.vlt_flow.specs.Notes.Noted.{no_note}
use Rattle.vlt_flow.proofs.Unfitting.{notes_refuse, notes_unfit}
use Rattle.vlt_flow.proofs.notes.annotate_block.Goals as goal

pub note_block-requires : goal.note_block-requires
note_block-requires c =
    let a = c.in-Ok.ensures.around in
    let b = c.in-Ok.ensures.following in
    let f = c.in-Ok.ensures.few in
    record { room = record { around = omega (arith, a); following = omega (arith, b); few = omega (arith, a, f) } }

pub returns-in_ok-_end-in-Ok-clause-listed : goal.returns-in_ok-_end-in-Ok-clause-listed
returns-in_ok-_end-in-Ok-clause-listed c =
    let all = noted_all _ _ _ _ c.new-maps.ensures c.in_ok-_end-in-Ok.ensures.noted in
    record { kept = c.in-Ok.kept; least = c.in-Ok.ensures.ok; names = all.names; reads = all.reads }

pub returns-in-Err-clause-refused : goal.returns-in-Err-clause-refused
returns-in-Err-clause-refused c = refused_on c.in-Err.stop c.least_maps.result _ _ _ c.in-Err.is refl c.least_maps.ensures.refused (λ n. n)

pub returns-in_ok-_end-in-Ok-clause-order : goal.returns-in_ok-_end-in-Ok-clause-order
returns-in_ok-_end-in-Ok-clause-order c = c.in_ok-_end-in-Ok.ensures.order (no_notes _ _ _ c.new-maps.ensures)

pub returns-in_err-_end-in-Ok-clause-refused : goal.returns-in_err-_end-in-Ok-clause-refused
returns-in_err-_end-in-Ok-clause-refused c = notes_refuse _ _ c.from_residual.ensures.1

pub returns-in_err-_end-in-Ok-clause-unfit : goal.returns-in_err-_end-in-Ok-clause-unfit
returns-in_err-_end-in-Ok-clause-unfit c = notes_unfit _ _ _ c.from_residual.ensures.1 c.in_err-_end-in-Ok.was (λ l. no_note c.in-Ok.kept c.in-Ok.ensures.ok c.in-Ok.ensures.keeps l) c.note_block.ensures.unfit
