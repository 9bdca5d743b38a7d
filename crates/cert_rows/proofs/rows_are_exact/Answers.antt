use Rattle.cert_rows.proofs.Exact.{rows_exact}
use Rattle.cert_rows.proofs.rows_are_exact.Goals as goal

pub returns : goal.returns
returns c = rows_exact
