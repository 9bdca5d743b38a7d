use Rattle.std.proofs.Common.{◌≡◌, length, arith, rules}
use Rattle.std.proofs.lemmas.List.{same_lists}
use Rattle.vlt_keyset.proofs.tables.all_same.Goals as goal

pub returns : goal.returns
returns c =
    let all : length c.args.xs.now ≡ length c.args.ys.now = omega (arith, c.if-xs-ys.false) in
    (λ t. same_lists _ _ all (λ k d h. c.loop-i.invariant k d (omega (arith, c.loop-i-test.false))), λ e. search rules)
