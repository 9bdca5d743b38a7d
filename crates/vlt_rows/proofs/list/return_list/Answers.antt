use Rattle.vlt_rows.proofs.Collected.{collected}
use Rattle.vlt_rows.proofs.Fitting.{unlisted}
use Rattle.vlt_rows.proofs.list.return_list.Goals as goal

pub give_return-requires : goal.give_return-requires
give_return-requires c = c.requires

pub returns-in_err-give_return : goal.returns-in_err-give_return
returns-in_err-give_return c = unlisted _ _ _ _ _ _ _ c.from_residual.ensures.1 c.in_err-give_return.ensures

pub returns : goal.returns
returns c = collected _ _ _ c.new-list.ensures c.in_ok-give_return.ensures
