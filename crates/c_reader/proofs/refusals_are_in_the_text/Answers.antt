use Rattle.c_reader.proofs.Within.{read_within}
use Rattle.c_reader.proofs.refusals_are_in_the_text.Goals as goal

pub returns : goal.returns
returns c = read_within
