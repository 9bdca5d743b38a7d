use Rattle.std.proofs.Common.{◌∙◌, ap, ◌<◌, length, arith}
use Rattle.vlt_core.specs.Core.{Func, Program}
use Rattle.vlt_core.specs.View.{form_of, block_of}
use Rattle.vlt_core.specs.KindedScopes.{Ids, Around}
use Rattle.vlt_core.specs.KindedBodies.{form_rows, block_rows, ids_following_block}
use Rattle.vlt_core.specs.declared.program.Arm.{out-Arm}
use Rattle.vlt_core.proofs.Views.{if_form, while_form, switch_form, focus_form}
use Rattle.cert_kinds_types.specs.Least.{lesser}
use Rattle.cert_kinds_exprs.specs.Scopes.{ids_of}
use Rattle.cert_kinds_blocks.specs.Scoped.{program_in, func_in}
use Rattle.cert_kinds_blocks.specs.Flat.{around_of}
use Rattle.cert_kinds_tallies.specs.declared.tallies.Walked.{Walked}
use Rattle.cert_kinds_tallies.specs.Tallies.{tally_of}
use Rattle.cert_kinds.proofs.Tallying.{statement}
use Rattle.cert_kinds.proofs.Walks.{as_form, after_own, after_first, left_block, next_stmt_rows, next_stmt_ids, next_arm_rule, next_arm_rows, next_arm_ids}
use Rattle.cert_kinds.proofs.walking.+walking.Goals as goal

-- ---- statements

pub walk_form-returns-in_ok-second-in-If-clause-walked : goal.walk_form-returns-in_ok-second-in-If-clause-walked
walk_form-returns-in_ok-second-in-If-clause-walked t c =
    let p : Program = program_in c.args.scope.now in
    let f : Func = func_in c.args.scope.now in
    let around : Around = around_of c.args.around in
    let ids : Ids = ids_of c.args.ids.now in
    let second = rw c.in_ok-first-in-If.ensures.ids at c.in_ok-second-in-If.ensures.walked in
    as_form p f around ids (tally_of c.args.tally) c.after_rule.result _ _
    (if_form _ _ _ _ c.in-If.is)
    (after_first _ _ _ (block_rows p f around ids (block_of c.in-If.then_block))
    (block_rows p f around (ids_following_block p f (block_of c.in-If.then_block) ids) (block_of c.in-If.else_block))
    (tally_of c.args.tally) c.condition_broken-own.result c.lesser.result c.in_ok-first-in-If.first c.in_ok-second-in-If.second c.after_rule.result c.condition_broken-own.ensures
    c.in_ok-first-in-If.ensures.walked second c.lesser.ensures c.after_rule.ensures)

pub walk_form-returns-in_ok-inside-in-While-clause-walked : goal.walk_form-returns-in_ok-inside-in-While-clause-walked
walk_form-returns-in_ok-inside-in-While-clause-walked t c =
    let inside = rw c.in_loop.ensures at c.in_ok-inside-in-While.ensures.walked in
    as_form (program_in c.args.scope.now) (func_in c.args.scope.now) (around_of c.args.around) (ids_of c.args.ids.now) (tally_of c.args.tally) c.after_rule-in-While.result _ _
    (while_form _ _ _ c.in-While.is)
    (after_own _ _ _ _ c.in_ok-inside-in-While.inside c.after_rule-in-While.result c.condition_broken-own-in-While.ensures inside c.after_rule-in-While.ensures)

pub walk_form-returns-in_ok-inside-in-Switch-clause-walked : goal.walk_form-returns-in_ok-inside-in-Switch-clause-walked
walk_form-returns-in_ok-inside-in-Switch-clause-walked t c =
    let own = rw c.as_slice.ensures at c.switch_broken-own.ensures in
    let inside = rw c.as_slice-in-Switch.ensures at c.in_ok-inside-in-Switch.ensures.walked in
    as_form (program_in c.args.scope.now) (func_in c.args.scope.now) (around_of c.args.around) (ids_of c.args.ids.now) (tally_of c.args.tally) c.after_rule-in-Switch.result _ _
    (switch_form _ _ _ _ c.in-Switch.is)
    (after_own _ _ _ _ c.in_ok-inside-in-Switch.inside c.after_rule-in-Switch.result own inside c.after_rule-in-Switch.ensures)

pub walk_form-returns-in_ok-inside-in-Focus-clause-walked : goal.walk_form-returns-in_ok-inside-in-Focus-clause-walked
walk_form-returns-in_ok-inside-in-Focus-clause-walked t c =
    let inside = rw (c.in_focus.ensures, c.in_ok-bind_focus-in-Focus.ensures) at c.in_ok-inside-in-Focus.ensures.walked in
    as_form (program_in c.args.scope.now) (func_in c.args.scope.now) (around_of c.args.around) (ids_of c.args.ids.now) (tally_of c.args.tally) c.after_rule-in-Focus.result _ _
    (focus_form _ _ _ _ c.in-Focus.is)
    (after_own _ _ _ _ c.in_ok-inside-in-Focus.inside c.after_rule-in-Focus.result c.focus_broken-own.ensures inside c.after_rule-in-Focus.ensures)

-- ---- lists

pub walk_stmts-loop-stmt-preserved : goal.walk_stmts-loop-stmt-preserved
walk_stmts-loop-stmt-preserved t c =
    let p : Program = program_in c.args.scope.now in
    let f : Func = func_in c.args.scope.now in
    let lt : c.loop-stmt.stmt-index < length c.args.stmts.now = omega (arith, c.loop-stmt-test.true) in
    let walked = c.in_ok-inside.ensures.walked in
    record {
      tally = c.loop-stmt.invariant.tally
          ∙ next_stmt_rows p f (around_of c.args.around) c.args.stmts.now c.loop-stmt.stmt-index c.stmt-item.result c.stmt-item.is lt
          (ids_of c.loop-stmt.ids) (ids_of c.walk_form.new.ids) c.loop-stmt.ended c.stmt_ends-ended.result (tally_of c.loop-stmt.all) (tally_of c.with_stmt-all.result)
          c.in_ok-inside.ensures.ids c.stmt_ends-ended.ensures
          (statement (tally_of c.loop-stmt.all) (tally_of c.inside.result) (tally_of c.in_ok-inside.inside.tally) (tally_of c.with_stmt-all.result)
          c.unless.result c.in_ok-inside.inside.rule _ _ (form_rows p f (around_of c.args.around) (ids_of c.loop-stmt.ids) (form_of c.stmt-item.result.form)) c.unless.ensures walked.rule c.inside.ensures walked.tally c.with_stmt-all.ensures);
      bound = c.loop-stmt.invariant.bound
          ∙ next_stmt_ids p f (around_of c.args.around) c.args.stmts.now c.loop-stmt.stmt-index c.stmt-item.result c.stmt-item.is lt
          (ids_of c.loop-stmt.ids) (ids_of c.walk_form.new.ids) c.in_ok-inside.ensures.ids;
    }

pub walk_arms-loop-arm-preserved : goal.walk_arms-loop-arm-preserved
walk_arms-loop-arm-preserved t c =
    let p : Program = program_in c.args.scope.now in
    let f : Func = func_in c.args.scope.now in
    let lt : c.loop-arm.arm-index < length c.args.arms.now = omega (arith, c.loop-arm-test.true) in
    let x = c.arm-item.result in
    let ids : Ids = ids_of c.loop-arm.ids in
    let own = rw c.as_slice-vars.ensures at c.in_ok-own.ensures.broken in
    let bound = rw c.as_slice-vars.ensures at c.in_ok-own.ensures.ids in
    let last = rw bound at c.in_ok-inside.ensures.ids in
    let walked = rw (c.as_slice-vars.ensures, bound) at c.in_ok-inside.ensures.walked in
    let after = left_block p f (out-Arm x).body c.in_ok-outer.outer ids _ (ids_of c.walk_block.new.ids) (ids_of c.leave.new.ids) c.in_ok-outer.ensures last c.leave.ensures in
    let all = c.after_rule-all.ensures in
    record {
      rule = c.loop-arm.invariant.rule
          ∙ next_arm_rule p f c.args.arms.now c.loop-arm.arm-index x c.arm-item.is lt c.args.v.0 ids (ids_of c.leave.new.ids)
          c.loop-arm.all.rule c.in_ok-own.own c.in_ok-inside.inside.rule c.after_rule-all.result.rule own walked.rule
          (ap {A = Walked} (λ w. w.rule) all ∙ ap (λ r. lesser r c.in_ok-inside.inside.rule) c.lesser.ensures) after;
      tally = c.loop-arm.invariant.tally
          ∙ next_arm_rows p f c.args.arms.now c.loop-arm.arm-index x c.arm-item.is lt (around_of c.args.around) ids (ids_of c.leave.new.ids)
          (tally_of c.loop-arm.all.tally) (tally_of c.after_rule-all.result.tally) (ap {A = Walked} (λ w. tally_of w.tally) all ∙ walked.tally) after;
      bound = c.loop-arm.invariant.bound
          ∙ next_arm_ids p f c.args.arms.now c.loop-arm.arm-index x c.arm-item.is lt ids (ids_of c.leave.new.ids) after;
    }
