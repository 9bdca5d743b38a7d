use Rattle.vlt_syntax_laws.proofs.Decided.{accepted_tree, refused_alike}
use Rattle.vlt_syntax_laws.proofs.Refused.{refused, accepted}
use Rattle.vlt_syntax_laws.proofs.automaton_decides.Goals as goal

pub returns-clause-accepts : goal.returns-clause-accepts
returns-clause-accepts c = accepted

pub returns-clause-refuses : goal.returns-clause-refuses
returns-clause-refuses c = refused

pub returns-clause-trees : goal.returns-clause-trees
returns-clause-trees c = λ ls. accepted_tree ls tt

pub returns-clause-all : goal.returns-clause-all
returns-clause-all c = refused_alike
