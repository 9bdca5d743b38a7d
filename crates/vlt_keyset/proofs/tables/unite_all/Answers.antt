use Rattle.std.proofs.Common.{◌<◌, length, arith, sym, ap, ◌∙◌, subst, true≢false}
use Rattle.std.proofs.lemmas.List.{get_or_read}
use Rattle.vlt_core.specs.Maps.{IsStatusBelow}
use Rattle.vlt_keyset.specs.Held.{at}
use Rattle.vlt_keyset.specs.Statuses.{IsUnion, gap_of}
use Rattle.vlt_core.specs.HeldView.{status_of}
use Rattle.vlt_core.specs.declared.held.Status.TheVariants.{Absent}
use Rattle.vlt_keyset.proofs.Joining.{joining_write, joining_keep}
use Rattle.vlt_keyset.proofs.tables.unite_all.Goals as goal
use Rattle.vlt_keyset.proofs.tables.unite_all.Goals.{then-not-is_below, else-not-is_below}

pub loop-i-preserved : goal.loop-i-preserved
loop-i-preserved c =
    let j = c.loop-i.invariant in
    let lt : c.loop-i.i < length c.loop-i.xs = omega arith in
    let here = get_or_read c.loop-i.xs c.loop-i.i _ lt c.index-xs-i.is Absent in
    let there = c.status_at-y.ensures in
    let old = ap status_of (sym here) in
    let init = j.rest c.loop-i.i (omega arith) in
    elim c.if-not-is_below.branch [
      | then-not-is_below w ↦
          let never : IsStatusBelow (status_of c.status_at-y.result) (status_of c.index-xs-i.result) → ⊥ = λ p. true≢false (sym (c.is_below.ensures.1 p) ∙ w.if-not-is_below.true) in
          let u = subst (λ s. IsUnion s (at c.args.ys.now c.loop-i.i) (status_of w.union.result)) (ap status_of here ∙ init) (subst (λ s. IsUnion (status_of c.index-xs-i.result) s (status_of w.union.result)) there w.union.ensures.union) in
          let near = subst (λ s. gap_of w.union.result < gap_of s) here (w.union.ensures.nearer.nearer never) in
          rw (w.xs-is, w.grew-is) (joining_write _ _ _ _ _ _ j lt u near)
      | else-not-is_below w ↦
          let p = c.is_below.ensures.0 w.if-not-is_below.false in
          rw (w.xs-is, w.grew-is) (joining_keep _ _ _ _ _ j (subst (IsStatusBelow (at c.args.ys.now c.loop-i.i)) (ap status_of here) (subst (λ s. IsStatusBelow s (status_of c.index-xs-i.result)) there p)))
    ]
