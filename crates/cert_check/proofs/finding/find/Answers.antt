use Rattle.std.proofs.Common.{◌≡◌, ◌<◌, ◌≤◌, ◌+◌, ◌-◌, ◌/◌, ℕ, arith, subst}
use Rattle.cert_check.proofs.Lookups.{search_up, search_down, search_ended}
use Rattle.cert_check.proofs.finding.find.Goals as goal

half_below : (low high : ℕ) → low < high → low + (high - low) / 2 < high
half_below low high less = omega (arith, less)

pub loop-low-preserved-then-at-n-2 : goal.loop-low-preserved-then-at-n-2
loop-low-preserved-then-at-n-2 c =
    search_up c.args.given.now.instance c.args.given.now.notes.now c.args.n c.loop-low.low c.loop-low.high _ c.index-notes-mid.result c.requires c.loop-low.invariant
    (half_below c.loop-low.low c.loop-low.high c.loop-low-test.true) c.index-notes-mid.is (subst (λ k. k < c.args.n) c.number-at.ensures c.if-at-n-2.true)

pub loop-low-preserved : goal.loop-low-preserved
loop-low-preserved c =
    search_down c.args.given.now.instance c.args.given.now.notes.now c.args.n c.loop-low.low c.loop-low.high _ c.index-notes-mid.result c.requires c.loop-low.invariant (omega arith)
    (half_below c.loop-low.low c.loop-low.high c.loop-low-test.true) c.index-notes-mid.is (subst (λ k. c.args.n < k) c.number-at.ensures (later c.number-at.result c.args.n c.if-at-n.false c.if-at-n-2.false))
  where
    later : (k n : ℕ) → (k ≡ n → ⊥) → n ≤ k → n < k
    later k n other le = omega (arith, other, le)

pub returns-clause-none : goal.returns-clause-none
returns-clause-none c = search_ended c.args.given.now.instance c.args.given.now.notes.now c.args.n c.loop-low.low c.loop-low.high c.loop-low-test.false c.loop-low.invariant
