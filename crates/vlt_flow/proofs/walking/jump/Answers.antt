use Rattle.std.proofs.lemmas.Result.{on_ok_weaker}
use Rattle.vlt_flow.proofs.Parts.{jump_around, jump_after}
use Rattle.vlt_flow.proofs.walking.jump.Goals as goal

pub returns-then-continues-clause-ok : goal.returns-then-continues-clause-ok
returns-then-continues-clause-ok c =
    let f = c.join_around.ensures in
    rw (c.in-Some.is, c.if-continues.true) (on_ok_weaker _ (λ q. jump_around _ _ _ _ _ _ c.in_ok-pass_gone.ensures.ok (record { long = f.long; into = q; others = f.others; following = f.following })) f.into)

pub returns-else-continues-clause-ok : goal.returns-else-continues-clause-ok
returns-else-continues-clause-ok c =
    let f = c.join_after.ensures in
    rw (c.in-Some.is, c.if-continues.false) (on_ok_weaker _ (λ q. jump_after _ _ _ _ _ _ c.in_ok-pass_gone.ensures.ok (record { long = f.long; into = q; others = f.others; around = f.around })) f.into)
