use Rattle.vlt_witness.proofs.Singles.{without_in}
use Rattle.vlt_witness.proofs.single.without.Goals as goal

pub returns : goal.returns
returns c =
    let r = c.made in
    without_in c.args.a c.args.b r.result _ _ r.ensures.absent r.ensures.full r.ensures.held r.ensures.lent c.only_first.ensures c.only_first-2.ensures
