use Rattle.c_lower_printed.proofs.Whole.{texts_printable}
use Rattle.c_lower_printed.proofs.texts_are_printable.Goals as goal

pub returns : goal.returns
returns c = texts_printable c.programs_are_fit.ensures
