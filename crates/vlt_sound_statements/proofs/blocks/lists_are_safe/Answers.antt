use Rattle.vlt_sound_statements.proofs.Branches.{done_is_safe, next_is_safe}
use Rattle.vlt_sound_statements.proofs.blocks.lists_are_safe.Goals as goal

pub returns-clause-none : goal.returns-clause-none
returns-clause-none c = λ r rest_of f typed keyed. done_is_safe r rest_of f typed keyed

pub returns-clause-more : goal.returns-clause-more
returns-clause-more c = λ r rest_of f at form rest typed keyed. next_is_safe r rest_of f typed keyed at form rest
