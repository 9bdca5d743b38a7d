-- Slots that are copied one by one.
use Rattle.std.proofs.Common.{◌≡◌, ◌≢◌, ◌⊎◌, inl, inr, ℕ, ◌+◌, ◌*◌, ◌<◌, ◌≤◌, List, length, Some, None, sym, ap, ◌∙◌, subst, arith, slice_get, slice_set}
use Rattle.std.proofs.lemmas.Option.{none-some, same_Some}
use Rattle.vlt_rings.proofs.Lists.{equal_or_not, get_same, get_other}
use Rattle.vlt_heap.specs.declared.slots.Obj.{Obj}
use Rattle.vlt_heap.specs.declared.slots.Slot.{Slot}
use Rattle.vlt_heap.specs.declared.heap.Heap.{Heap}
use Rattle.vlt_heap.specs.Shown.{Finds}
use Rattle.vlt_acts.specs.declared.values.values.Values.{Values}
use Rattle.vlt_acts.specs.Values.Filled.{IsFilled, IsCellSlot}
use Rattle.vlt_acts.specs.Values.Shown.{var_at, AreApart, IsVarSlot, IsSlotFrom, IsFrontOf}

pub filled_none : (source : ℕ → Slot → Type 0) (slots : List Slot) (to : ℕ) → IsFilled source slots to 0
filled_none source slots to j a l from = absurd (omega (arith, l))

pub filled_more : (source : ℕ → Slot → Type 0) (slots : List Slot) (to n : ℕ) (a : Slot) → to + n < length slots → IsFilled source slots to n → ((b : Slot) → source n b → a ≡ b) → IsFilled source (slice_set slots (to + n) a) to (n + 1)
filled_more source slots to n a within filled is j b l from = by (equal_or_not j n)
  where
    by : (j ≡ n) ⊎ (j ≢ n) → slice_get (slice_set slots (to + n) a) (to + j) ≡ Some b
    by (inl e) = ap (λ k. slice_get (slice_set slots (to + n) a) (to + k)) e ∙ get_same slots (to + n) a within ∙ ap (λ z. Some z) (is b (subst (λ k. source k b) e from))
    by (inr d) = get_other slots (to + n) (to + j) a (λ e. d (omega (arith, e))) ∙ filled j b (omega (arith, l, d)) from

-- what is outside of so many slots is as it was
abbrev pub IsOutside : (first slots : List Slot) → (to count : ℕ) → Type 0
IsOutside first slots to n = (k : ℕ) → (k < to) ⊎ (to + n ≤ k) → slice_get slots k ≡ slice_get first k

pub outside_more : (first slots : List Slot) (to n : ℕ) (a : Slot) → IsOutside first slots to n → IsOutside first (slice_set slots (to + n) a) to (n + 1)
outside_more first slots to n a same k out = by out
  where
    by : (k < to) ⊎ (to + (n + 1) ≤ k) → slice_get (slice_set slots (to + n) a) k ≡ slice_get first k
    by (inl l) = get_other slots (to + n) k a (λ e. absurd (omega (arith, l, e))) ∙ same k (inl l)
    by (inr l) = get_other slots (to + n) k a (λ e. absurd (omega (arith, l, e))) ∙ same k (inr (omega (arith, l)))

-- a slot that wasn't written yet
pub apart_outside : (from to width n : ℕ) → n < width → AreApart from to width → (from + n < to) ⊎ (to + n ≤ from + n)
apart_outside from to width n l (inl e) = inr (omega (arith, e))
apart_outside from to width n l (inr (inl m)) = inl (omega (arith, m, l))
apart_outside from to width n l (inr (inr m)) = inr (omega (arith, m))

-- a slot of the source that wasn't written yet
pub var_source : (first now : Values) (v to n : ℕ) (a : Slot) → now.base ≡ first.base → now.width ≡ first.width → n < first.width → IsOutside first.slots.items now.slots.items to n → AreApart (var_at first v) to first.width
    → ((b : Slot) → slice_get now.slots.items (var_at now v + n) ≡ Some b → a ≡ b) → (b : Slot) → IsVarSlot first v n b → a ≡ b
var_source first now v to n a base width l same apart is b from = is b (ap (λ k. slice_get now.slots.items (k + n)) at ∙ same (var_at first v + n) (apart_outside (var_at first v) to first.width n l apart) ∙ from)
  where
    at : var_at now v ≡ var_at first v
    at = ap (λ k. k + v * now.width) base ∙ ap (λ w. first.base + v * w) width

pub slot_source : (first now : Values) (from to n : ℕ) (a : Slot) → n < first.width → IsOutside first.slots.items now.slots.items to n → AreApart from to first.width → slice_get now.slots.items (from + n) ≡ Some a → (b : Slot) → IsSlotFrom first from n b → a ≡ b
slot_source first now from to n a l same apart at b is = same_Some a b (sym at ∙ same (from + n) (apart_outside from to first.width n l apart) ∙ is)

pub front_source : (first now : Values) (from to n : ℕ) (a : Slot) → now.width ≡ first.width → IsOutside first.slots.items now.slots.items to n → to + n ≤ from → slice_get now.slots.items (from + n * now.width) ≡ Some a → (b : Slot) → IsFrontOf first from n b → a ≡ b
front_source first now from to n a width same before at b is =
    same_Some a b (sym at ∙ same (from + n * now.width) (inr (omega (arith, before))) ∙ ap (λ w. slice_get first.slots.items (from + n * w)) width ∙ is)

-- ---- what is found in the heap

pub found_slot : (h : Heap) (o : Obj) (n k : ℕ) (a b : Slot) → Finds (Some a) o n k h → IsCellSlot h o n k b → a ≡ b
found_slot h o n k a b finds cell =
    let f = finds cell.items cell.holds cell.made in
    let item : f.item ≡ cell.item = same_Some _ _ (same_Some _ _ (sym f.at ∙ cell.at)) in
    same_Some a b (sym f.slot ∙ ap (λ z. slice_get z.slots k) item ∙ cell.slot)

pub none_found : (h : Heap) (o : Obj) (n k : ℕ) (a b : Slot) → Finds None o n k h → IsCellSlot h o n k b → a ≡ b
none_found h o n k a b finds cell = absurd (none-some b (sym (finds cell.items cell.holds cell.made cell.item cell.at) ∙ cell.slot))
