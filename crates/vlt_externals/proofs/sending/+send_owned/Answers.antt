use Rattle.std.proofs.Common.{rules, sym, ap, subst, ◌∙◌, ◌≡◌, ◌≤◌, ◌+◌, ◌*◌, ◌-◌, suc, arith, length}
use Rattle.vlt_externals.specs.Sent.{CanHand, Hands}
use Rattle.vlt_externals.proofs.Handing.{hand_first, hand_rest, hands_both}
use Rattle.vlt_externals.proofs.sending.+send_owned.Goals as goal

pub send_one-requires-clause-can : goal.send_one-requires-clause-can
send_one-requires-clause-can n c = hand_first c.args.heap.now c.args.values.now c.args.from (c.args.count - 1) c.args.count (let l = c.if-count-eq0.false in omega (arith, l)) c.requires.can

pub send_owned-requires : goal.send_owned-requires
send_owned-requires n c =
    let is : c.args.count ≡ suc (c.args.count - 1) = (let l = c.if-count-eq0.false in omega (arith, l)) in
    let w = c.requires.within in
    let row : c.args.count * c.args.values.now.width ≡ c.args.values.now.width + (c.args.count - 1) * c.args.values.now.width = ap (λ k. k * c.args.values.now.width) is ∙ omega arith in (
      search rules,
      (
        c.send_one.ensures.sound,
        (
          subst (λ k. (c.args.from + k) + (c.args.count - 1) * c.args.values.now.width ≤ length c.args.values.now.slots.items) (sym c.width.ensures) (omega (arith, w, row)),
          subst (λ k. CanHand c.send_one.new.heap c.args.values.now (c.args.from + k) (c.args.count - 1)) (sym c.width.ensures) (hand_rest c.args.heap.now c.send_one.new.heap c.args.values.now c.args.from (c.args.count - 1) c.args.count is c.requires.can c.send_one.ensures.hands),
        ),
      ),
    )

pub returns-clause-hands : goal.returns-clause-hands
returns-clause-hands n c = hands_both c.args.heap.now c.send_one.new.heap c.send_owned.new.heap c.args.values.now c.args.from (c.args.count - 1) c.args.count (let l = c.if-count-eq0.false in omega (arith, l)) c.send_one.ensures.hands
    (subst (λ k. Hands (c.args.from + k) (c.args.count - 1) c.args.values.now c.send_one.new.heap c.send_owned.new.heap) c.width.ensures c.send_owned.ensures.hands)
