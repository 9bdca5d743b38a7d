use Rattle.vlt_printer_laws.proofs.ReadAgain.{read_again}
use Rattle.vlt_printer_laws.proofs.layouts_are_read_again.Goals as goal

pub returns : goal.returns
returns c = read_again
