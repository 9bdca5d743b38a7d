use Rattle.c_automaton.proofs.Decided.{read_or_refused}
use Rattle.c_automaton.proofs.OneRefusal.{one_refusal, unit_not_refused}
use Rattle.c_automaton.proofs.tokens_are_read_in_one_way.Goals as goal

pub returns-clause-refusal : goal.returns-clause-refusal
returns-clause-refusal c = one_refusal

pub returns-clause-either : goal.returns-clause-either
returns-clause-either c = read_or_refused

pub returns-clause-never_both : goal.returns-clause-never_both
returns-clause-never_both c = unit_not_refused
