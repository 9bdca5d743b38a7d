use Rattle.cert_read_bodies.proofs.Statements.{statements_are_rows}
use Rattle.cert_read_bodies.proofs.statements_are_rows.Goals as goal

pub returns : goal.returns
returns c = statements_are_rows
