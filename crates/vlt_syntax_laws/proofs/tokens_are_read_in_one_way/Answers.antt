use Rattle.vlt_syntax_laws.proofs.Decided.{read_or_refused}
use Rattle.vlt_syntax_laws.proofs.OneTree.{one_placed_tree}
use Rattle.vlt_syntax_laws.proofs.OneRefusal.{one_refusal, tree_not_refused}
use Rattle.vlt_syntax_laws.proofs.tokens_are_read_in_one_way.Goals as goal

pub returns-clause-tree : goal.returns-clause-tree
returns-clause-tree c = one_placed_tree

pub returns-clause-refusal : goal.returns-clause-refusal
returns-clause-refusal c = one_refusal

pub returns-clause-either : goal.returns-clause-either
returns-clause-either c = read_or_refused

pub returns-clause-never_both : goal.returns-clause-never_both
returns-clause-never_both c = tree_not_refused
