use Rattle.vlt_sound_statements.proofs.StatementsLaws.{stmts_safe, rest_ends}
use Rattle.vlt_sound_statements.proofs.statements.statements_are_safe.Goals as goal

pub returns-clause-all : goal.returns-clause-all
returns-clause-all c = λ r rest_of f parts rest. stmts_safe r rest_of f parts rest

pub returns-clause-none : goal.returns-clause-none
returns-clause-none c = λ r f. rest_ends r f
