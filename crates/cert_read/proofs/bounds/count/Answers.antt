use Rattle.std.proofs.Common.{◌+◌, sym, ap, ◌∙◌, if◌then◌else◌, arith}
use Rattle.vlt_base.specs.States.{has_state}
use Rattle.cert_read.proofs.Counting.{counted}
use Rattle.cert_read.proofs.bounds.count.Goals.{then-has, else-has}
use Rattle.cert_read.proofs.bounds.count.Goals as goal

pub loop-s-preserved : goal.loop-s-preserved
loop-s-preserved c =
    let inv = c.loop-s.invariant in
    elim c.if-has.branch [
      | then-has w ↦ (
        sym (counted (has_state c.args.states) c.loop-s.s 32 c.loop-s.n c.if-has.n c.loop-s-test.true
            (w.n-is ∙ sym (ap (λ b. if b then c.loop-s.n + 1 else c.loop-s.n) (sym c.has.ensures ∙ w.if-has.true)))) ∙ inv.0,
        (let e = w.n-is in let h = inv.1 in omega (arith, e, h)),
      )
      | else-has w ↦ (
        sym (counted (has_state c.args.states) c.loop-s.s 32 c.loop-s.n c.if-has.n c.loop-s-test.true
            (w.n-is ∙ sym (ap (λ b. if b then c.loop-s.n + 1 else c.loop-s.n) (sym c.has.ensures ∙ w.if-has.false)))) ∙ inv.0,
        (let e = w.n-is in let h = inv.1 in omega (arith, e, h)),
      )
    ]
