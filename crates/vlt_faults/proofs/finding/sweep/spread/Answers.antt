use Rattle.std.proofs.Common.{length, ap, sym, ◌∙◌}
use Rattle.vlt_core.specs.View.{tok_of}
use Rattle.vlt_rows.specs.FlowView.{block_view}
use Rattle.vlt_core_laws.proofs.Sweeping.{reached}
use Rattle.vlt_faults.proofs.OfFinding.Sweeps.{room_begun, room_went, reached_begun, found_after}
use Rattle.vlt_faults.proofs.finding.sweep.spread.Goals as goal

pub returns-then-not-has_grown : goal.returns-then-not-has_grown
returns-then-not-has_grown c =
    let u = reached_begun (tok_of c.args.tok) (block_view c.args.body.now) _ c.loop-tok.kept c.begin.new.self c.loop-tok.invariant.1 c.begin.ensures.around c.begin.ensures.following in
    record {
      found = found_after _ _ _ c.begin.new.self c.sweep_block-end.new.kept _ c.sweep_block-end.ensures.swept c.sweep_block-end.ensures.went (sym c.if-not-has_grown.ensures) u;
      around = c.sweep_block-end.ensures.went.around ∙ ap length c.begin.ensures.around ∙ c.loop-tok.invariant.2;
      following = c.sweep_block-end.ensures.went.following ∙ ap length c.begin.ensures.following ∙ c.loop-tok.invariant.3;
    }

pub loop-tok-preserved : goal.loop-tok-preserved
loop-tok-preserved c =
    let u = reached_begun (tok_of c.args.tok) (block_view c.args.body.now) _ c.loop-tok.kept c.begin.new.self c.loop-tok.invariant.1 c.begin.ensures.around c.begin.ensures.following in
    let r = room_begun c.loop-tok.kept c.begin.new.self _ _ c.loop-tok.invariant.0 c.begin.ensures.around c.begin.ensures.following in (
      room_went c.begin.new.self c.sweep_block-end.new.kept _ _ r c.sweep_block-end.ensures.went,
      reached _ _ _ _ _ _ _ c.sweep_block-end.ensures.swept (λ o x. x) u,
      c.sweep_block-end.ensures.went.around ∙ ap length c.begin.ensures.around ∙ c.loop-tok.invariant.2,
      c.sweep_block-end.ensures.went.following ∙ ap length c.begin.ensures.following ∙ c.loop-tok.invariant.3,
    )
