use Rattle.vlt_verdict.proofs.Some.{some_verdict}
use Rattle.vlt_verdict.proofs.a_tree_has_some_verdict.Goals as goal

pub returns : goal.returns
returns c = some_verdict c.programs_are_fit.ensures c.programs_have_some_verdict.ensures
