use Rattle.vlt_keyset.proofs.Joining.{only_both, only_not}
use Rattle.vlt_keyset.proofs.Held.has_only.Goals as goal

pub returns-then-all_absent_from : goal.returns-then-all_absent_from
returns-then-all_absent_from c =
    let p = rw c.as_slice.ensures.value at c.all_absent_from.ensures in
    let q = rw c.as_slice-then-all_absent_from.ensures.value at c.all_absent_from-then-all_absent_from.ensures in
    rw (← c.self.view_is) (only_both _ _ _ _ _ c.if-all_absent_from.true p q)

pub returns-else-all_absent_from : goal.returns-else-all_absent_from
returns-else-all_absent_from c =
    let p = rw c.as_slice.ensures.value at c.all_absent_from.ensures in
    rw (← c.self.view_is) (only_not _ _ _ _ c.if-all_absent_from.false p)
