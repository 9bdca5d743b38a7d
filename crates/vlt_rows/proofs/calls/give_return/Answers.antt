use Rattle.vlt_rows.proofs.Taken.{stops_first, goes_on}
use Rattle.vlt_rows.proofs.calls.give_return.Goals as goal

pub returns-in_err-give_handed_back : goal.returns-in_err-give_handed_back
returns-in_err-give_handed_back g c =
    stops_first _ _ _ _ _ _ _ _ _ c.from_residual.ensures.1 c.in_err-give_handed_back.ensures

pub returns : goal.returns
returns g c =
    let tokens = rw c.requires at c.give_gone.ensures in
    goes_on _ _ _ _ _ _ _ _ c.in_ok-give_handed_back.ensures tokens
