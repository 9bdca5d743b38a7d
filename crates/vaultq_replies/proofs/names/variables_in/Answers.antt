use Rattle.std.proofs.Common.{arith}
use Rattle.vlt_syntax.specs.View.{tree_of}
use Rattle.vaultq_replies.proofs.Named.{names_first, names_more}
use Rattle.vaultq_replies.proofs.names.variables_in.Goals as goal

pub loop-number-init : goal.loop-number-init
loop-number-init c = names_first (tree_of c.args.tree.now) _ c.new-names.ensures.items

pub loop-number-preserved : goal.loop-number-preserved
loop-number-preserved c = rw c.in_ok-push.ensures.items (names_more (tree_of c.args.tree.now) _ _ _ c.variable_in.ensures c.loop-number.invariant)

pub returns : goal.returns
returns c = λ n less. c.loop-number.invariant.each n (omega (arith, less, c.loop-number-test.false))
