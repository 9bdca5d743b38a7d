use Rattle.std.proofs.Common.{◌<◌, ◌++◌, length, map, sym, ap, ◌∙◌, arith}
use Rattle.std.specs.List.{flat_map}
use Rattle.vlt_syntax.specs.View.{stmt_of, arm_of}
use Rattle.vlt_iface.specs.Texts.{texts_seen, stmt_texts, arm_texts}
use Rattle.vlt_iface.proofs.Tables.{on_ok}
use Rattle.vlt_iface.proofs.Texts.{block_texts, switch_texts, bound_more}
use Rattle.vlt_iface.proofs.bound.+bound.Goals as goal

pub add_block-returns : goal.add_block-returns
add_block-returns d c =
    on_ok c.add_stmts.result
    (λ e. e ∙ ap (λ ts. texts_seen c.args.texts.now ++ ts) (ap (λ ss. flat_map stmt_texts (map stmt_of ss)) c.as_slice.ensures ∙ sym (block_texts c.args.block.now)))
    c.add_stmts.ensures

pub add_stmt-returns-in-Switch : goal.add_stmt-returns-in-Switch
add_stmt-returns-in-Switch d c =
    on_ok c.add_arms.result
    (λ e. e ∙ ap (λ ts. texts_seen c.args.texts.now ++ ts)
    (ap (λ xs. flat_map arm_texts (map arm_of xs)) c.as_slice-in-Switch.ensures ∙
    (sym (switch_texts c.in-Switch.variable c.in-Switch.arms c.in-Switch.at) ∙ ap (λ x. stmt_texts (stmt_of x)) (sym c.in-Switch.is))))
    c.add_arms.ensures

pub add_stmts-loop-stmt-preserved : goal.add_stmts-loop-stmt-preserved
add_stmts-loop-stmt-preserved d c =
    let lt : c.loop-stmt.stmt-index < length c.args.stmts.now = omega arith in
    bound_more stmt_of stmt_texts c.args.stmts.now c.loop-stmt.stmt-index c.stmt-item.result (texts_seen c.loop-stmt.texts) (texts_seen c.add_stmt.new.texts)
    _ lt c.stmt-item.is c.in_ok-add_stmt.ensures c.loop-stmt.invariant

pub add_arms-loop-arm-preserved : goal.add_arms-loop-arm-preserved
add_arms-loop-arm-preserved d c =
    let lt : c.loop-arm.arm-index < length c.args.arms.now = omega arith in
    bound_more arm_of arm_texts c.args.arms.now c.loop-arm.arm-index c.arm-item.result (texts_seen c.loop-arm.texts) (texts_seen c.add_arm.new.texts)
    _ lt c.arm-item.is c.in_ok-add_arm.ensures c.loop-arm.invariant
