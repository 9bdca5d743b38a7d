use Rattle.cert_rows.proofs.Rowed.{rows_are_read_as_written}
use Rattle.cert_rows.proofs.rows_are_read_as_written.Goals as goal

pub returns : goal.returns
returns c = rows_are_read_as_written
