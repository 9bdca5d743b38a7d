use Rattle.std.proofs.Common.{subst}
use Rattle.vlt_keyset.specs.Held.{map_of}
use Rattle.vlt_rows.specs.FlowView.{block_view}
use Rattle.vlt_faults.specs.Judge.Faulty.{no_start}
use Rattle.vlt_faults.proofs.OfJudge.Unfitting.{handed_unfit}
use Rattle.vlt_points_laws.specs.Points.{AreFoundBlock, places_block}
use Rattle.vlt_core_laws.specs.Sweep.{In}
use Rattle.vlt_points.specs.Founds.{found}
use Rattle.vlt_points.specs.Writing.{program_in, IsWritten}
use Rattle.vlt_points.proofs.Functions.{fits_start, instance_added}
use Rattle.vlt_points.proofs.lines.add_instance.Goals as goal

pub returns-in_err-start-clause-unfit : goal.returns-in_err-start-clause-unfit
returns-in_err-start-clause-unfit c = handed_unfit _ _ c.from_residual-in_err-start.ensures.1 (λ u. no_start u) c.in_err-start.ensures.map

pub add_block-requires-clause-page : goal.add_block-requires-clause-page
add_block-requires-clause-page c = c.in_ok-page.ensures.page c.args.source.now.text.now (program_in c.args.source.now)

pub add_block-requires-clause-fits : goal.add_block-requires-clause-fits
add_block-requires-clause-fits c = fits_start (block_view c.in_ok-body.body) c.in_ok-m.m c.in_ok-kept.kept c.in_ok-kept.ensures.found

pub returns-clause-lines : goal.returns-clause-lines
returns-clause-lines c =
    instance_added c.args.source.now c.args.variable.now c.args.origin (block_view c.in_ok-body.body) (map_of c.in_ok-start.start) c.in_ok-m.m c.args.lines.items c.add_head.new.lines.items c.add_block.new.page.lines.items
    c.in_ok-add_head.ensures c.in_ok-body.ensures c.in_ok-start.ensures.map c.in_ok-m.ensures
    (subst (λ l. IsWritten c.args.source.now (λ t. AreFoundBlock t (block_view c.in_ok-body.body) (In (found c.in_ok-m.m t))) (places_block (block_view c.in_ok-body.body)) l.items c.add_block.new.page.lines.items) c.in_ok-page.ensures.lines c.in_ok-add_block.ensures.added.written)
