use Rattle.vlt_rows.proofs.Taken.{stops_first, stops_more, goes_on}
use Rattle.vlt_rows.proofs.calls.give_handed_back.Goals as goal

pub returns-in_err-give_value : goal.returns-in_err-give_value
returns-in_err-give_value g c =
    stops_first _ _ _ _ _ c.args.to.now _ _ _ c.from_residual.ensures.1 (stops_more _ _ _ _ _ _ _ _ c.in_err-give_value.ensures)

pub returns-in_err-give_news : goal.returns-in_err-give_news
returns-in_err-give_news g c =
    stops_first _ _ _ _ _ _ _ _ _ c.from_residual-in_err-give_news.ensures.1 (goes_on _ _ _ _ _ _ _ _ c.in_ok-give_value.ensures c.in_err-give_news.ensures)

pub returns : goal.returns
returns g c = (goes_on _ _ _ _ _ _ _ _ (goes_on _ _ _ _ _ _ _ _ c.in_ok-give_value.ensures c.in_ok-give_news.ensures) c.give_given_backs.ensures)
