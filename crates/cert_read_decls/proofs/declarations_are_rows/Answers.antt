use Rattle.cert_read_decls.proofs.Declarations.{declarations_are_rows}
use Rattle.cert_read_decls.proofs.declarations_are_rows.Goals as goal

pub returns : goal.returns
returns c = declarations_are_rows
