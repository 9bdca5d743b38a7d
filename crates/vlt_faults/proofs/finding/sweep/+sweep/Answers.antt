use Rattle.std.proofs.Common.{◌<◌, length, arith, refl, ap}
use Rattle.vlt_rows.proofs.Views.{step_form, if_form, while_form, switch_form, focus_form, jump_form, block_parts}
use Rattle.vlt_faults.specs.Finding.Ones.{many_of}
use Rattle.vlt_faults.specs.Finding.Marks.{stock_of}
use Rattle.vlt_faults.proofs.OfFinding.Into.{head_put, exit_put}
use Rattle.vlt_faults.proofs.OfFinding.Sweeps.{split_at, listing_more, arming_more}
use Rattle.vlt_faults.proofs.finding.sweep.+sweep.Goals as goal

pub sweep_way-returns-clause-swept : goal.sweep_way-returns-clause-swept
sweep_way-returns-clause-swept t c =
    let w = c.sweep_block-end.ensures in
    let lt : c.args.c < length c.sweep_block-end.new.kept.following = omega (arith, w.went.following, c.requires.room.long, c.requires.choice) in
    (stock_of c.sweep_block-end.new.kept, many_of c.sweep_block-end.result.ones, w.swept, exit_put c.args.c _ c.sweep_block-end.new.kept c.join_exit.new.self lt c.join_exit.ensures.put c.join_exit.ensures.around)

pub sweep_turn-returns-clause-swept : goal.sweep_turn-returns-clause-swept
sweep_turn-returns-clause-swept t c =
    let w = c.sweep_block-end.ensures in
    let room = c.requires.room in
    let lt : c.args.n < length c.args.kept.now.following = omega (arith, room.long, room.fits) in
    let lt' : c.args.n < length c.sweep_block-end.new.kept.around = omega (arith, w.went.around, ap length c.join_exit.ensures.around, room.fits) in
    let p = rw c.head.ensures at c.pass_rows-p.ensures in (
      many_of c.pass_rows-p.result,
      p,
      stock_of c.join_exit.new.self,
      exit_put c.args.n _ c.args.kept.now c.join_exit.new.self lt c.join_exit.ensures.put c.join_exit.ensures.around,
      stock_of c.sweep_block-end.new.kept,
      many_of c.sweep_block-end.result.ones,
      w.swept,
      head_put c.args.n _ c.sweep_block-end.new.kept c.join_head.new.self lt' c.join_head.ensures.put c.join_head.ensures.following,
    )

pub sweep_block-returns-clause-swept : goal.sweep_block-returns-clause-swept
sweep_block-returns-clause-swept t c =
    let w = rw c.as_slice.ensures at c.sweep_list-end.ensures.swept in
    let p = rw c.as_slice-2.ensures at c.pass_gone.ensures in
    rw (block_parts c.args.block.now) (many_of c.sweep_list-end.result.ones, w, p)

pub sweep_list-loop-s-preserved : goal.sweep_list-loop-s-preserved
sweep_list-loop-s-preserved t c =
    let lt : c.loop-s.s-index < length c.args.stmts.now = omega arith in
    rw c.sweep_form-end.ensures.at (listing_more _ _ _ _ _ _ _ _ _ _ _ _ c.s-item.result (split_at _ _ _ lt c.s-item.is) c.loop-s.invariant c.sweep_form-end.ensures.swept c.sweep_form-end.ensures.went)

pub sweep_arms-loop-arm-preserved : goal.sweep_arms-loop-arm-preserved
sweep_arms-loop-arm-preserved t c =
    let lt : c.loop-arm.arm-index < length c.args.arms.now = omega arith in
    let p = rw c.as_slice.ensures at c.pass_rows-p.ensures in
    rw c.sweep_way-at.ensures.at (arming_more _ _ _ _ _ _ _ _ _ _ _ c.arm-item.result (split_at _ _ _ lt c.arm-item.is) c.loop-arm.invariant p c.sweep_way-at.ensures.swept c.sweep_way-at.ensures.went)

pub sweep_form-returns-in-Step-clause-swept : goal.sweep_form-returns-in-Step-clause-swept
sweep_form-returns-in-Step-clause-swept t c =
    let p = rw c.as_slice.ensures at c.pass_rows.ensures in
    rw (step_form _ _ c.in-Step.is) (refl, p)

pub sweep_form-returns-in-If-clause-swept : goal.sweep_form-returns-in-If-clause-swept
sweep_form-returns-in-If-clause-swept t c =
    let p = rw c.as_slice-in-If.ensures at c.pass_rows-p.ensures in
    let second = rw c.sweep_way-first.ensures.at at c.sweep_way-second.ensures.swept in
    rw (if_form _ _ _ _ c.in-If.is) (many_of c.pass_rows-p.result, p, stock_of c.sweep_way-first.new.kept, c.sweep_way-first.ensures.swept, second, c.exit.ensures)

pub sweep_form-returns-in-While-clause-swept : goal.sweep_form-returns-in-While-clause-swept
sweep_form-returns-in-While-clause-swept t c =
    let room = rw (while_form _ _ _ c.in-While.is) at c.requires.room in
    let turn = rw c.as_slice-in-While.ensures at c.sweep_turn-at.ensures.swept in
    let lt : c.args.n < length c.args.kept.now.around = omega (arith, room.fits) in
    rw (while_form _ _ _ c.in-While.is) (stock_of c.join_head.new.self, head_put c.args.n c.args.m c.args.kept.now c.join_head.new.self lt c.join_head.ensures.put c.join_head.ensures.following, turn, c.exit-in-While.ensures)

pub sweep_form-returns-in-Switch-clause-swept : goal.sweep_form-returns-in-Switch-clause-swept
sweep_form-returns-in-Switch-clause-swept t c =
    let p = rw c.as_slice-in-Switch.ensures at c.pass_rows-p-in-Switch.ensures in
    let arms = rw c.as_slice-in-Switch-2.ensures at c.sweep_arms-at.ensures.swept in
    rw (switch_form _ _ _ _ c.in-Switch.is) (many_of c.pass_rows-p-in-Switch.result, p, arms, c.exit-in-Switch.ensures)

pub sweep_form-returns-in-Focus-clause-swept : goal.sweep_form-returns-in-Focus-clause-swept
sweep_form-returns-in-Focus-clause-swept t c =
    let p = rw c.as_slice-in-Focus.ensures at c.pass_rows-p-in-Focus.ensures in
    let e = rw c.as_slice-in-Focus-2.ensures at c.pass_rows-in-Focus.ensures in
    rw (focus_form _ _ _ _ c.in-Focus.is) (many_of c.pass_rows-p-in-Focus.result, p, many_of c.sweep_block-inside.result.ones, c.sweep_block-inside.ensures.swept, e)

pub sweep_form-returns-in-Jump-clause-swept : goal.sweep_form-returns-in-Jump-clause-swept
sweep_form-returns-in-Jump-clause-swept t c =
    let p = rw c.as_slice-in-Jump.ensures at c.pass_gone-p.ensures in
    rw (jump_form _ _ _ c.in-Jump.is) (many_of c.pass_gone-p.result, p, c.land.ensures.lands, record { none = c.nothing-in-Jump.ensures })
