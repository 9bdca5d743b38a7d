use Rattle.vlt_syntax.specs.View.{tree_of}
use Rattle.vaultq_replies.proofs.Named.{AreNames}
use Rattle.vaultq_replies.proofs.names.variables_in.Given as goal

abbrev pub invariant-loop-number : goal.invariant-loop-number
invariant-loop-number l = AreNames (tree_of l.tree) l.names.items l.number
