use Rattle.std.proofs.Common.{◌≡◌, ◌++◌, length, ap, ◌∙◌, arith, rules}
use Rattle.std.specs.Prelude.{codes}
use Rattle.std.proofs.lemmas.Grind.{common_steps}
use Rattle.vlt_syntax.specs.Tree as s
use Rattle.vlt_syntax.specs.declared.tree.Block.{out-Block}
use Rattle.vlt_syntax.specs.View.{stmt_of, stmts_of, arms_of, name_of}
use Rattle.vlt_printer.specs.Layout.{deeper, stmts_after, arms_after, name_after}
use Rattle.vlt_printer.proofs.Braces.{some_block, some_arms, switch_seen}
use Rattle.vlt_printer.proofs.stmts.+statements.Goals as goal

pub write_block-returns : goal.write_block-returns
write_block-returns t c =
    let block = c.args.block.now in
    let indent = c.args.indent.now in
    let before = c.args.out.now.items in
    let some : length (out-Block block).stmts ≡ 0 → ⊥ = first_of (search rules, grind (arith, common_steps)) in
    let whole = some_block indent before block some in
    let lines : c.write_stmts.new.out.items ≡ stmts_after (deeper indent) (stmts_of (out-Block block).stmts) (before ++ codes "{\n") = first_of (search rules, grind (arith, common_steps)) in
    first_of (search rules, grind (arith, common_steps))

pub write_stmt-returns-in-Switch : goal.write_stmt-returns-in-Switch
write_stmt-returns-in-Switch t c =
    let written = c.write_switch.ensures c.in-Switch.at in
    let seen : stmt_of c.args.stmt.now ≡ s.switch (name_of c.in-Switch.variable) (arms_of c.in-Switch.arms) c.in-Switch.at =
    ap stmt_of c.in-Switch.is ∙ switch_seen c.in-Switch.variable c.in-Switch.arms c.in-Switch.at in
    first_of (search rules, grind (arith, common_steps))

pub write_switch-returns : goal.write_switch-returns
write_switch-returns t c = λ at.
    let indent = c.args.indent.now in
    let before = c.args.out.now.items in
    let arms = c.args.arms.now in
    let name = name_of c.args.variable.now in
    let some : length arms ≡ 0 → ⊥ = first_of (search rules, grind (arith, common_steps)) in
    let whole = some_arms indent before name arms at some in
    let lines : c.write_arms.new.out.items ≡ arms_after (deeper indent) (arms_of arms) (name_after name (before ++ codes "switch (") ++ codes ") {\n") = first_of (search rules, grind (arith, common_steps)) in
    first_of (search rules, grind (arith, common_steps))
