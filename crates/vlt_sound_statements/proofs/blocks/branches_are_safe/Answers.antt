use Rattle.vlt_sound_statements.proofs.Branches.{choose_is_safe, loop_is_safe, scope_is_safe, jump_is_safe}
use Rattle.vlt_sound_statements.proofs.blocks.branches_are_safe.Goals as goal

pub returns-clause-choices : goal.returns-clause-choices
returns-clause-choices c = λ r rest_of f e a b typed keyed. choose_is_safe r rest_of f typed keyed e a b

pub returns-clause-loops : goal.returns-clause-loops
returns-clause-loops c = λ r rest_of f e b typed keyed. loop_is_safe r rest_of f typed keyed e b

pub returns-clause-scopes : goal.returns-clause-scopes
returns-clause-scopes c = λ r rest_of f b typed keyed. scope_is_safe r rest_of f typed keyed b

pub returns-clause-jumps : goal.returns-clause-jumps
returns-clause-jumps c = λ r rest_of f continues typed keyed. jump_is_safe r rest_of f typed keyed continues
