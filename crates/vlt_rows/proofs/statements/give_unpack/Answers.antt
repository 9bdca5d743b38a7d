use Rattle.vlt_rows.proofs.Taken.{stops_first, goes_on}
use Rattle.vlt_rows.proofs.statements.give_unpack.Goals as goal

pub returns-in_err-give_empty : goal.returns-in_err-give_empty
returns-in_err-give_empty g c = stops_first _ _ _ _ _ _ _ _ _ c.from_residual.ensures.1 c.in_err-give_empty.ensures

pub returns : goal.returns
returns g c = goes_on _ _ _ _ _ _ _ _ c.in_ok-give_empty.ensures c.give_unpacked.ensures
