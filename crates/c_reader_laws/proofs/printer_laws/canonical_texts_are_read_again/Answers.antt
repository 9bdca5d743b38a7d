use Rattle.c_reader_laws.proofs.OfPrinterLaws.ReadAgain.{read_again}
use Rattle.c_reader_laws.proofs.printer_laws.canonical_texts_are_read_again.Goals as goal

pub returns : goal.returns
returns c = read_again
