-- Values in slots that have 0 after them.
use Rattle.std.proofs.Common.{◌≡◌, ℕ, zero, suc, ◌+◌, ◌-◌, ◌==◌, ◌<◌, ◌≤◌, pos, false, List, length, replicate, Some, refl, subst, arith, slice_get}
use Rattle.std.proofs.lemmas.Bool.Decides.{nat_tests}
use Rattle.std.proofs.lemmas.List.{length-append, length-replicate}
use Rattle.vlt_heap.specs.declared.slots.Slot.{Slot}
use Rattle.vlt_heap.specs.declared.slots.Slot.TheVariants.{Number}
use Rattle.vlt_heap.specs.Items.{Items}
use Rattle.vlt_meaning.specs.World.{Part, number, Value, one}
use Rattle.vlt_acts.specs.Values.Parts.{flat, padded_parts, HasPart, HaveParts, HaveValue}
use Rattle.vlt_acts.specs.Values.Filled.{IsFilled, IsSingleSlot}

pub length_padded : (w : ℕ) (a : Value) → length (flat a) ≤ w → length (padded_parts w a) ≡ w
length_padded w a l =
    let e = length-append (flat a) (replicate (w - length (flat a)) (number (pos 0))) in
    let r = length-replicate (w - length (flat a)) (number (pos 0)) in
    omega (arith, e, r, l)

pub have_zeros : (items : Items) (slots : List Slot) (k n : ℕ) → ((j : ℕ) → j < n → slice_get slots (k + j) ≡ Some (Number (pos 0))) → HaveParts items slots k (replicate n (number (pos 0)))
have_zeros items slots k zero at = tt
have_zeros items slots k (suc n) at = (
  record { slot = Number (pos 0); at = subst (λ j. slice_get slots j ≡ Some (Number (pos 0))) (omega arith) (at 0 (omega arith)); part = refl },
  have_zeros items slots (suc k) n (λ j l. subst (λ i. slice_get slots i ≡ Some (Number (pos 0))) (omega arith) (at (suc j) (omega (arith, l)))),
)

-- slots that were filled so have a value of one part
pub single_value : (items : Items) (slots : List Slot) (to w : ℕ) (a : Slot) (p : Part) → 1 ≤ w → HasPart items p a → IsFilled (IsSingleSlot a) slots to w → HaveValue items slots to w (one p)
single_value items slots to w a p wide part filled = record {
  narrow = wide;
  parts = (
    record { slot = a; at = subst (λ j. slice_get slots j ≡ Some a) (omega arith) (filled 0 a wide refl); part = part },
    have_zeros items slots (suc to) (w - 1) (λ j l. subst (λ i. slice_get slots i ≡ Some (Number (pos 0))) (omega arith) (filled (suc j) (Number (pos 0)) (omega (arith, l)) (later j))),
  );
}
  where
    later : (j : ℕ) → IsSingleSlot a (suc j) (Number (pos 0))
    later j = let e : (suc j == 0) ≡ false = grind (arith, nat_tests) in rw e refl
