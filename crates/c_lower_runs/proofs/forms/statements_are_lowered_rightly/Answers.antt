use Rattle.c_lower_runs.proofs.OfForms.Laws.{simple_lowered, switches_lowered, returns_lowered}
use Rattle.c_lower_runs.proofs.forms.statements_are_lowered_rightly.Goals as goal

pub returns-clause-simple : goal.returns-clause-simple
returns-clause-simple c = simple_lowered

pub returns-clause-switches : goal.returns-clause-switches
returns-clause-switches c = switches_lowered

pub returns-clause-returned : goal.returns-clause-returned
returns-clause-returned c = returns_lowered
