use Rattle.vlt_keyset.proofs.Joining.{same_both, same_not}
use Rattle.vlt_keyset.proofs.Held.is_same.Goals as goal

pub returns-then-all_same : goal.returns-then-all_same
returns-then-all_same c =
    let p = rw (c.as_slice.ensures.value, c.as_slice-2.ensures.value) at c.all_same.ensures in
    let q = rw (c.as_slice-then-all_same.ensures.value, c.as_slice-then-all_same-2.ensures.value) at c.all_same-then-all_same.ensures in
    rw (← c.self.view_is, ← c.o.view_is) (same_both _ _ _ _ c.if-all_same.true p q)

pub returns-else-all_same : goal.returns-else-all_same
returns-else-all_same c =
    let p = rw (c.as_slice.ensures.value, c.as_slice-2.ensures.value) at c.all_same.ensures in
    rw (← c.self.view_is, ← c.o.view_is) (same_not _ _ _ c.if-all_same.false p)
