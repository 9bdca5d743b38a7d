use Rattle.vlt_rows.proofs.Taken.{stops_first, stops_more, goes_on}
use Rattle.vlt_rows.proofs.calls.give_call.Goals as goal

pub returns-in_err-give_operands : goal.returns-in_err-give_operands
returns-in_err-give_operands g c =
    stops_first _ _ _ _ _ c.args.to.now _ _ _ c.from_residual.ensures.1 (stops_more _ _ _ _ _ _ _ _ c.in_err-give_operands.ensures)

pub returns-in_err-give_callee : goal.returns-in_err-give_callee
returns-in_err-give_callee g c =
    stops_first _ _ _ _ _ _ _ _ _ c.from_residual-in_err-give_callee.ensures.1 (goes_on _ _ _ _ _ _ _ _ c.in_ok-give_operands.ensures c.in_err-give_callee.ensures)

pub returns : goal.returns
returns g c = (goes_on _ _ _ _ _ _ _ _ (goes_on _ _ _ _ _ _ _ _ c.in_ok-give_operands.ensures c.in_ok-give_callee.ensures) c.give_target.ensures)
