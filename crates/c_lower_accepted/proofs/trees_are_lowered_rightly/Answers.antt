use Rattle.c_lower_accepted.proofs.Texts.{trees_alike, trees_defined}
use Rattle.c_lower_accepted.proofs.trees_are_lowered_rightly.Goals as goal

pub returns-clause-alike : goal.returns-clause-alike
returns-clause-alike c = trees_alike c.programs_are_fit.ensures

pub returns-clause-defined : goal.returns-clause-defined
returns-clause-defined c = trees_defined c.programs_are_fit.ensures
