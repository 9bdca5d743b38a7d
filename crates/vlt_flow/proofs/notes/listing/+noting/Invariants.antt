use Rattle.std.proofs.Common.{◌+◌, ◌*◌}
use Rattle.vlt_core.specs.Flow.{size, size_block, size_stmts, size_arms}
use Rattle.vlt_rows.specs.FlowView.{block_view, flow_view, stmts_view, arms_view}
use Rattle.vlt_flow.specs.Notes.Listed.{AreListed}
use Rattle.vlt_flow.proofs.OfNotes.Noting.{Listing, Arming}
use Rattle.vlt_flow.proofs.notes.listing.+noting.Given as goal

abbrev pub invariant-note_list-loop-s : goal.invariant-note_list-loop-s
invariant-note_list-loop-s l = Listing l.kept l.stmts l.n l.fn.notes l.s-index l.at l.notes × (AreListed l.counts.keys l.counts.vars l.fn.notes → AreListed l.counts.keys l.counts.vars l.notes)

abbrev pub invariant-note_arms-loop-arm : goal.invariant-note_arms-loop-arm
invariant-note_arms-loop-arm l = Arming l.kept l.arms l.n l.fn.notes l.arm-index l.at l.notes × (AreListed l.counts.keys l.counts.vars l.fn.notes → AreListed l.counts.keys l.counts.vars l.notes)

-- ---- measures: the size, and then the order of the calls

abbrev pub decreases-note_form : goal.decreases-note_form
decreases-note_form l = 8 * size (flow_view l.form.now) + 1

abbrev pub decreases-note_list : goal.decreases-note_list
decreases-note_list l = 8 * size_stmts (stmts_view l.stmts.now) + 3

abbrev pub decreases-note_block : goal.decreases-note_block
decreases-note_block l = 8 * size_block (block_view l.block.now) + 4

abbrev pub decreases-note_arms : goal.decreases-note_arms
decreases-note_arms l = 8 * size_arms (arms_view l.arms.now) + 6
