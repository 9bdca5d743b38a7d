use Rattle.c_automaton.proofs.Refused.{refuses_as_the_grammar}
use Rattle.c_automaton.proofs.automaton_refuses_as_the_grammar.Goals as goal

pub returns : goal.returns
returns c = refuses_as_the_grammar
