use Rattle.std.proofs.Common.{arith, sym, ◌∙◌}
use Rattle.vlt_rows.specs.FlowView.{block_view}
use Rattle.vlt_points.proofs.Sweeps.{sweeping_first, sweeping_begun, sweeping_more, sweeping_ends, sweeping_less}
use Rattle.vlt_points.proofs.sweep.find.Goals as goal

pub loop-kept-init : goal.loop-kept-init
loop-kept-init c =
    let o = c.in_ok-kept.ensures in
    sweeping_first (block_view c.args.body.now) c.args.start.now c.args.count c.in_ok-kept.kept c.requires.count c.requires.few o.around o.following o.none o.none_after

pub sweep_block-requires : goal.sweep_block-requires
sweep_block-requires c =
    let g = sweeping_begun (block_view c.args.body.now) c.args.start.now c.args.count c.loop-kept.kept c.begin.new.self c.loop-kept.invariant c.begin.ensures.around c.begin.ensures.following in
    record { room = record { fits = let f = g.room.fits in omega (arith, f); long = g.room.long; few = g.room.few; loop = tt } }

pub loop-kept-preserved : goal.loop-kept-preserved
loop-kept-preserved c =
    let g = sweeping_begun (block_view c.args.body.now) c.args.start.now c.args.count c.loop-kept.kept c.begin.new.self c.loop-kept.invariant c.begin.ensures.around c.begin.ensures.following in
    let w = rw c.in_ok-m.ensures at c.in_ok-_at.ensures in
    sweeping_more (block_view c.args.body.now) c.args.start.now c.args.count c.begin.new.self c.sweep_block.new.kept c.sweep_block.new.m g w.swept w.went

pub loop-kept-smaller : goal.loop-kept-smaller
loop-kept-smaller c =
    let g = sweeping_begun (block_view c.args.body.now) c.args.start.now c.args.count c.loop-kept.kept c.begin.new.self c.loop-kept.invariant c.begin.ensures.around c.begin.ensures.following in
    let w = rw c.in_ok-m.ensures at c.in_ok-_at.ensures in
    sweeping_less (block_view c.args.body.now) c.args.start.now c.args.count c.loop-kept.kept c.begin.new.self c.sweep_block.new.kept c.sweep_block.new.m c.begin.ensures.around c.begin.ensures.following g w.went c.begin.ensures.fresh (sym c.has_grown.ensures ∙ c.if-not-has_grown.false)

pub returns-then-not-has_grown : goal.returns-then-not-has_grown
returns-then-not-has_grown c =
    let g = sweeping_begun (block_view c.args.body.now) c.args.start.now c.args.count c.loop-kept.kept c.begin.new.self c.loop-kept.invariant c.begin.ensures.around c.begin.ensures.following in
    let w = rw c.in_ok-m.ensures at c.in_ok-_at.ensures in
    let more = sweeping_more (block_view c.args.body.now) c.args.start.now c.args.count c.begin.new.self c.sweep_block.new.kept c.sweep_block.new.m g w.swept w.went in
    record {
      found = sweeping_ends (block_view c.args.body.now) c.args.start.now c.args.count c.begin.new.self c.sweep_block.new.kept c.sweep_block.new.m g w.swept w.went (sym c.if-not-has_grown.ensures);
      around = more.around;
      following = more.following;
    }
