use Rattle.vlt_sound_statements.proofs.SimpleLaws.{step_safe, form_safe}
use Rattle.vlt_sound_statements.proofs.simple.simple_statements_are_safe.Goals as goal

pub returns-clause-steps : goal.returns-clause-steps
returns-clause-steps c = λ r f s typed keyed cased. step_safe r f typed keyed cased s

pub returns-clause-forms : goal.returns-clause-forms
returns-clause-forms c = λ r rest_of f s typed keyed cased. form_safe r f typed keyed cased rest_of s
