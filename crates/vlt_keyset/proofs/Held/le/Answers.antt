use Rattle.vlt_keyset.proofs.Joining.{below_both, below_not}
use Rattle.vlt_keyset.proofs.Held.le.Goals as goal

pub returns-then-all_below : goal.returns-then-all_below
returns-then-all_below c =
    let p = rw (c.as_slice.ensures.value, c.as_slice-2.ensures.value) at c.all_below.ensures in
    let q = rw (c.as_slice-then-all_below.ensures.value, c.as_slice-then-all_below-2.ensures.value) at c.all_below-then-all_below.ensures in
    rw (← c.self.view_is, ← c.o.view_is) (below_both _ _ _ _ c.if-all_below.true p q)

pub returns-else-all_below : goal.returns-else-all_below
returns-else-all_below c =
    let p = rw (c.as_slice.ensures.value, c.as_slice-2.ensures.value) at c.all_below.ensures in
    rw (← c.self.view_is, ← c.o.view_is) (below_not _ _ _ c.if-all_below.false p)
