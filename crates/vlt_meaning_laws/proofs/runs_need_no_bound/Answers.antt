use Rattle.vlt_meaning_laws.proofs.Equations.{boundless, does_next, does_loop, run_is}
use Rattle.vlt_meaning_laws.proofs.runs_need_no_bound.Goals as goal

pub returns-clause-statements : goal.returns-clause-statements
returns-clause-statements c = boundless

pub returns-clause-lists : goal.returns-clause-lists
returns-clause-lists c = does_next

pub returns-clause-loops : goal.returns-clause-loops
returns-clause-loops c = does_loop

pub returns-clause-programs : goal.returns-clause-programs
returns-clause-programs c = run_is
