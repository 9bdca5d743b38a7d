use Rattle.vlt_points.proofs.Founds.{join_near}
use Rattle.vlt_points.proofs.found.join_at.Goals as goal

pub returns-clause-closer : goal.returns-clause-closer
returns-clause-closer c =
    let old = rw c.as_slice.ensures.value at c.at-old.ensures in
    join_near c.args.ones.now.items c.put.new.ones.items c.args.i c.at-old.result c.args.m c.union-both.result c.is_same.result old c.union-both.ensures c.in_ok-put.ensures.put c.is_same.ensures
