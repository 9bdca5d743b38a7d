-- What is shown stays shown where objects are known still, and where slots are as they were.
use Rattle.std.proofs.Common.{◌≡◌, ◌≢◌, ◌⊎◌, inl, inr, ℕ, suc, ◌+◌, ◌<◌, ◌≤◌, ◌==◌, Bool, true, false, if◌then◌else◌, List, [], ◌∷◌, length, Some, refl, sym, ◌∙◌, subst, arith, slice_get}
use Rattle.std.proofs.lemmas.Bool.Decides.{nat_tests}
use Rattle.std.proofs.lemmas.Option.{same_Some}
use Rattle.vlt_rings.proofs.Rows.{below_or_above, row_fits}
use Rattle.vlt_heap.specs.declared.slots.Slot.{Slot}
use Rattle.vlt_heap.specs.Items.{Items}
use Rattle.vlt_heap.proofs.Listed.{KeepMade}
use Rattle.vlt_meaning.specs.World.{Part, number, reference, owned, Value, one, Frame}
use Rattle.vlt_meaning.specs.Step.{with_var}
use Rattle.vlt_acts.specs.declared.values.values.Values.{Values}
use Rattle.vlt_acts.specs.Values.Parts.{padded_parts, IsObject, HasPart, HasPartAt, HaveParts, HaveValue}
use Rattle.vlt_acts.specs.Values.Filled.{IsFilled, IsSingleSlot}
use Rattle.vlt_acts.specs.Values.Shown.{var_at, key_at, HasVar, ShowsFrame, IsKept}
use Rattle.vlt_acts.proofs.OfValues.Padding.{length_padded, single_value}

-- ---- objects are known still

object_kept : (old new : Items) (n : ℕ) (a : Slot) → KeepMade old new → IsObject old n a → IsObject new n a
object_kept old new n a keep h = record { object = h.object; is = h.is; made = keep h.object.0 n h.made }

pub part_kept : (old new : Items) (p : Part) (a : Slot) → KeepMade old new → HasPart old p a → HasPart new p a
part_kept old new (number z) a keep h = h
part_kept old new (reference n) a keep h = object_kept old new n a keep h
part_kept old new (owned n) a keep h = record { object = h.object; is = h.is; made = keep h.object.0 n h.made }

part_at_kept : (old new : Items) (slots : List Slot) (k : ℕ) (p : Part) → KeepMade old new → HasPartAt old slots k p → HasPartAt new slots k p
part_at_kept old new slots k p keep h = record { slot = h.slot; at = h.at; part = part_kept old new p h.slot keep h.part }

parts_kept : (old new : Items) (slots : List Slot) (k : ℕ) (ps : List Part) → KeepMade old new → HaveParts old slots k ps → HaveParts new slots k ps
parts_kept old new slots k [] keep h = tt
parts_kept old new slots k (p ∷ ps) keep h = (part_at_kept old new slots k p keep h.0, parts_kept old new slots (suc k) ps keep h.1)

pub value_kept : (old new : Items) (slots : List Slot) (k w : ℕ) (a : Value) → KeepMade old new → HaveValue old slots k w a → HaveValue new slots k w a
value_kept old new slots k w a keep h = record { narrow = h.narrow; parts = parts_kept old new slots k (padded_parts w a) keep h.parts }

pub frame_kept : (old new : Items) (values : Values) (frame : Frame) → KeepMade old new → ShowsFrame old values frame → ShowsFrame new values frame
frame_kept old new values frame keep h = record {
  vars = λ v a e. let q = h.vars v a e in record { within = q.within; value = value_kept old new values.slots.items (var_at values v) values.width a keep q.value };
  keys = λ k n e. part_at_kept old new values.slots.items (key_at values k) (reference n) keep (h.keys k n e);
}

-- ---- slots are as they were

parts_same : (items : Items) (slots news : List Slot) (from k : ℕ) (w : ℕ) (ps : List Part) → from ≤ k → k + length ps ≤ from + w → ((j : ℕ) → from ≤ j → j < from + w → slice_get news j ≡ slice_get slots j) → HaveParts items slots k ps → HaveParts items news k ps
parts_same items slots news from k w [] low high same h = tt
parts_same items slots news from k w (p ∷ ps) low high same h =
    let q = h.0 in (
      record { slot = q.slot; at = same k low (omega (arith, high)) ∙ q.at; part = q.part },
      parts_same items slots news from (suc k) w ps (omega (arith, low)) (omega (arith, high)) same h.1,
    )

pub value_same : (items : Items) (slots news : List Slot) (from w : ℕ) (a : Value) → ((j : ℕ) → from ≤ j → j < from + w → slice_get news j ≡ slice_get slots j) → HaveValue items slots from w a → HaveValue items news from w a
value_same items slots news from w a same h = record {
  narrow = h.narrow;
  parts = parts_same items slots news from from w (padded_parts w a) (omega arith) (let n = length_padded w a h.narrow in omega (arith, n)) same h.parts;
}

-- ---- a variable gets a value

pub single_at : (items : Items) (slots : List Slot) (to place width wide : ℕ) (a : Slot) (p : Part) → to ≡ place → wide ≡ width → 1 ≤ width → HasPart items p a → IsFilled (IsSingleSlot a) slots to width → HaveValue items slots place wide (one p)
single_at items slots to place width wide a p is same enough part filled =
    subst (λ w. HaveValue items slots place w (one p)) (sym same) (subst (λ k. HaveValue items slots k width (one p)) is (single_value items slots to width a p enough part filled))

equal_is : (x v : ℕ) → (x == v) ≡ true → x ≡ v
equal_is x v e = grind (arith, nat_tests)

other_is : (x v : ℕ) → (x == v) ≡ false → x ≢ v
other_is x v e same = by same e
  where
    by : x ≡ v → (x == v) ≡ false → ⊥
    by same e = absurd (grind (arith, nat_tests))

pub assigned : (items : Items) (old new : Values) (frame : Frame) (v : ℕ) (a : Value) → v < old.vars → IsKept (var_at old v) old new → HaveValue items new.slots.items (var_at old v) new.width a → ShowsFrame items old frame → ShowsFrame items new (with_var v (Some a) frame)
assigned items old new frame v a within kept has h = record {
  vars = λ x b e. by x b (x == v) refl e;
  keys = λ k n e. let q = h.keys k n e in rw (kept.base, kept.vars, kept.width) (record {
    slot = q.slot;
    at = kept.outside (key_at old k) (inr (let m = row_fits v old.vars old.width old.width within (omega arith) in omega (arith, m))) ∙ q.at;
    part = q.part;
  });
}
  where
    here : HasVar items new v a
    here = record { within = subst (λ n. v < n) (sym kept.vars) within; value = rw (kept.base, kept.width) (subst (λ w. HaveValue items new.slots.items (var_at old v) w a) kept.width has) }

    apart : (x : ℕ) → x ≢ v → (j : ℕ) → var_at old x ≤ j → j < var_at old x + old.width → slice_get new.slots.items j ≡ slice_get old.slots.items j
    apart x d j low high = kept.outside j (side (below_or_above x v d))
      where
        side : (x < v) ⊎ (v < x) → (j < var_at old v) ⊎ (var_at old v + old.width ≤ j)
        side (inl l) = inl (let m = row_fits x v old.width old.width l (omega arith) in omega (arith, m, high))
        side (inr l) = inr (let m = row_fits v x old.width old.width l (omega arith) in omega (arith, m, low))

    by : (x : ℕ) (b : Value) (t : Bool) → (x == v) ≡ t → (if t then Some a else frame.vars x) ≡ Some b → HasVar items new x b
    by x b true t e = subst (λ y. HasVar items new y b) (sym (equal_is x v t)) (subst (HasVar items new v) (same_Some a b e) here)
    by x b false t e =
        let q = h.vars x b e in
        record {
          within = subst (λ n. x < n) (sym kept.vars) q.within;
          value = rw (kept.base, kept.width) (value_same items old.slots.items new.slots.items (var_at old x) old.width b (apart x (other_is x v t)) q.value);
        }
