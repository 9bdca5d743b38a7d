use Rattle.c_reader_laws.proofs.OfPrinterLaws.Sizes.{program_sizes, made_size}
use Rattle.c_reader_laws.proofs.printer_laws.sizes_are_lengths.Goals as goal

pub returns-clause-programs : goal.returns-clause-programs
returns-clause-programs c = program_sizes

pub returns-clause-lists : goal.returns-clause-lists
returns-clause-lists c = made_size
