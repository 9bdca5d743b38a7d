use Rattle.vlt_verdict.proofs.Single.{one_verdict}
use Rattle.vlt_verdict.proofs.a_tree_has_one_verdict.Goals as goal

pub returns : goal.returns
returns c = one_verdict c.programs_are_fit.ensures c.programs_have_one_verdict.ensures
