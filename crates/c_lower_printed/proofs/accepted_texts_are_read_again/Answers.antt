use Rattle.c_lower_printed.proofs.Whole.{read_again}
use Rattle.c_lower_printed.proofs.accepted_texts_are_read_again.Goals as goal

pub returns : goal.returns
returns c =
    read_again c.programs_are_fit.ensures c.texts_are_printable.ensures c.lowered_programs_are_c_programs.ensures
    c.canonical_texts_are_read_again.ensures
