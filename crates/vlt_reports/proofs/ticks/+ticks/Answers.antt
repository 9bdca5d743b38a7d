use Rattle.std.proofs.Common.{◌<◌, length, arith}
use Rattle.vlt_core.proofs.Views.{switch_form}
use Rattle.vlt_reports.specs.Seen.{tick_seen}
use Rattle.vlt_reports.proofs.Cases.{split_at, stmts_more, stmts_found, stmts_none, arms_more, arms_found, arms_none}
use Rattle.vlt_reports.proofs.ticks.+ticks.Goals as goal

pub tick_in_form-returns-in-Switch : goal.tick_in_form-returns-in-Switch
tick_in_form-returns-in-Switch t c =
    let end = c.in-Switch.end in
    let told = rw c.as_slice.ensures at (c.tick_in_switch.ensures end) in
    rw (switch_form _ _ _ _ c.in-Switch.is) told

pub tick_in_list-loop-s-preserved : goal.tick_in_list-loop-s-preserved
tick_in_list-loop-s-preserved t c =
    let lt : c.loop-s.s-index < length c.args.stmts.now = omega arith in
    let none = rw c.in-None.is at c.tick_in_form.ensures in
    stmts_more c.args.wanted.at c.args.wanted.position c.args.stmts.now c.loop-s.s-index c.s-item.result (split_at c.args.stmts.now c.loop-s.s-index c.s-item.result lt c.s-item.is) none c.loop-s.invariant

pub tick_in_list-returns-in-Some : goal.tick_in_list-returns-in-Some
tick_in_list-returns-in-Some t c =
    let lt : c.loop-s.s-index < length c.args.stmts.now = omega arith in
    let found = rw c.in-Some.is at c.tick_in_form.ensures in
    stmts_found c.args.wanted.at c.args.wanted.position c.args.stmts.now c.loop-s.s-index c.s-item.result (tick_seen c.in-Some.tick) (split_at c.args.stmts.now c.loop-s.s-index c.s-item.result lt c.s-item.is) found c.loop-s.invariant

pub tick_in_list-returns : goal.tick_in_list-returns
tick_in_list-returns t c = stmts_none c.args.wanted.at c.args.wanted.position c.args.stmts.now c.loop-s.s-index (omega arith) c.loop-s.invariant

pub tick_in_arms-loop-arm-preserved : goal.tick_in_arms-loop-arm-preserved
tick_in_arms-loop-arm-preserved t c =
    let lt : c.loop-arm.arm-index < length c.args.arms.now = omega arith in
    let none = rw c.in-None.is at c.tick_in_block.ensures in
    arms_more c.args.wanted.at c.args.wanted.position c.args.arms.now c.loop-arm.arm-index c.arm-item.result (split_at c.args.arms.now c.loop-arm.arm-index c.arm-item.result lt c.arm-item.is) none c.loop-arm.invariant

pub tick_in_arms-returns-in-Some : goal.tick_in_arms-returns-in-Some
tick_in_arms-returns-in-Some t c =
    let lt : c.loop-arm.arm-index < length c.args.arms.now = omega arith in
    let found = rw c.in-Some.is at c.tick_in_block.ensures in
    arms_found c.args.wanted.at c.args.wanted.position c.args.arms.now c.loop-arm.arm-index c.arm-item.result (tick_seen c.in-Some.tick) (split_at c.args.arms.now c.loop-arm.arm-index c.arm-item.result lt c.arm-item.is) found c.loop-arm.invariant

pub tick_in_arms-returns : goal.tick_in_arms-returns
tick_in_arms-returns t c = arms_none c.args.wanted.at c.args.wanted.position c.args.arms.now c.loop-arm.arm-index (omega arith) c.loop-arm.invariant
