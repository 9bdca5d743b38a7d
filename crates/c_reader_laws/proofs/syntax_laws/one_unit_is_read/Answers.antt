use Rattle.c_reader_laws.proofs.OfSyntaxLaws.Units.{one_unit}
use Rattle.c_reader_laws.proofs.syntax_laws.one_unit_is_read.Goals as goal

pub returns : goal.returns
returns c = one_unit
