use Rattle.c_reader_laws.proofs.Printed.{printed}
use Rattle.c_reader_laws.proofs.read_programs_are_printed.Goals as goal

pub returns : goal.returns
returns c = printed
