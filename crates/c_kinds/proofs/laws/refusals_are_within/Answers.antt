use Rattle.c_kinds.proofs.Within.{told_within}
use Rattle.c_kinds.proofs.laws.refusals_are_within.Goals as goal

pub returns : goal.returns
returns c = told_within
