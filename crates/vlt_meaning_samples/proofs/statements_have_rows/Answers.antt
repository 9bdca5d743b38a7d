use Rattle.std.proofs.Common.{refl}
use Rattle.vlt_meaning_samples.proofs.statements_have_rows.Goals as goal

pub returns-clause-sockets : goal.returns-clause-sockets
returns-clause-sockets c = refl

pub returns-clause-states : goal.returns-clause-states
returns-clause-states c = refl

pub returns-clause-lists : goal.returns-clause-lists
returns-clause-lists c = refl

pub returns-clause-handling : goal.returns-clause-handling
returns-clause-handling c = refl

pub returns-clause-requests : goal.returns-clause-requests
returns-clause-requests c = refl
