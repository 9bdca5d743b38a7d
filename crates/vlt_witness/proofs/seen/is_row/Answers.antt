use Rattle.vlt_witness.proofs.Ends.{row_none, row_some}
use Rattle.vlt_witness.proofs.seen.is_row.Goals as goal

pub returns-in-None : goal.returns-in-None
returns-in-None c = row_none c.args.join c.in-None.is

pub returns-in-Some : goal.returns-in-Some
returns-in-Some c = row_some c.args.join c.in-Some.field-0 c.in-Some.is
