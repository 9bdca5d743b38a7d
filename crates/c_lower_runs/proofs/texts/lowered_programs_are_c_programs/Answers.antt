use Rattle.c_lower_runs.proofs.OfTexts.Whole.{c_programs}
use Rattle.c_lower_runs.proofs.texts.lowered_programs_are_c_programs.Goals as goal

pub returns : goal.returns
returns c = c_programs
