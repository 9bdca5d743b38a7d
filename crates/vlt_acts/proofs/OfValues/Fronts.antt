-- The first slots of variables and of fields.
use Rattle.std.proofs.Common.{◌≡◌, ℕ, ℤ, ◌*◌, false, List, Option, Some, None, Ok, Err, refl, sym, ap, ◌∙◌, subst, arith, slice_get}
use Rattle.std.proofs.lemmas.Bool.{false≢true}
use Rattle.std.proofs.lemmas.Option.{none-some, same_Some, slice_get_within}
use Rattle.vlt_core.specs.Core.{field}
use Rattle.vlt_heap.specs.declared.slots.Obj.{Obj}
use Rattle.vlt_heap.specs.declared.slots.Slot.{Slot}
use Rattle.vlt_heap.specs.declared.slots.Slot.TheVariants.{Number, Object, Owned}
use Rattle.vlt_heap.specs.declared.heap.Heap.{Heap}
use Rattle.vlt_heap.specs.Items.{Item, Items, IsAt, IsMadeAt}
use Rattle.vlt_heap.specs.Shown.{Finds}
use Rattle.vlt_rings.proofs.Calls.{item_at}
use Rattle.vlt_meaning.specs.World.{Part, reference, Value, one, of_case, Object as Thing, is_gone, missing, no_value}
use Rattle.vlt_meaning.specs.Found.{Found, ◌>>=◌, or_fault, Named}
use Rattle.vlt_meaning.specs.Values.{touchable, value_of}
use Rattle.vlt_acts.specs.declared.values.values.Values.{Values}
use Rattle.vlt_acts.specs.Values.Parts.{padded_parts, head_of, IsObject, IsOwned, HasPart, HasPartAt, HaveParts}
use Rattle.vlt_meaning.specs.Values.{number_in}
use Rattle.vlt_acts.proofs.OfValues.Numbers.{front_number}
use Rattle.vlt_acts.specs.Values.Shown.{ShowsObject, ShowsIt, ShowObjects, var_at, Seen, IsFront, IsNumber}
use Rattle.vlt_acts.proofs.OfValues.Touching.{OrFault, Touched, touched, touch_fault}

-- the first part of a value
pub front_part : (items : Items) (slots : List Slot) (k n : ℕ) (w : Value) → HaveParts items slots k (padded_parts n w) → HasPartAt items slots k (head_of w)
front_part items slots k n (one a) parts = parts.0
front_part items slots k n (of_case c ps keys) parts = parts.0

-- whatever slot is there, it is this one
abbrev pub IsSlotAt : List Slot → ℕ → Slot → Type 0
IsSlotAt slots k a = (b : Slot) → slice_get slots k ≡ Some b → a ≡ b

pub has_part : (items : Items) (slots : List Slot) (k : ℕ) (p : Part) (a : Slot) → IsSlotAt slots k a → HasPartAt items slots k p → HasPart items p a
has_part items slots k p a is part = subst (HasPart items p) (sym (is part.slot part.at)) part.part

pub var_front : (h : Heap) (v : Values) (c : Seen h v) (x : ℕ) (a : Slot) → IsSlotAt v.slots.items (var_at v x) a → IsFront c.items a (or_fault no_value (c.frame.vars x))
var_front h v c x a is = by (c.frame.vars x) refl
  where
    by : (w : Option Value) → c.frame.vars x ≡ w → IsFront c.items a (or_fault no_value w)
    by None e = refl
    by (Some w) e = has_part c.items v.slots.items (var_at v x) (head_of w) a is (front_part c.items v.slots.items (var_at v x) v.width w (c.fits.vars x w e).value.parts)

-- ---- the number of a variable

same_number : (x z : ℤ) → ◌≡◌ {A = Slot} (Number x) (Number z) → x ≡ z
same_number x z e = ap of e
  where
    of : Slot → ℤ
    of (Number q) = q
    of _ = x

pub var_number : (h : Heap) (v : Values) (c : Seen h v) (x : ℕ) (y : ℤ) → ((z : ℤ) → slice_get v.slots.items (var_at v x) ≡ Some (Number z) → y ≡ z) → IsNumber (Ok y) (or_fault no_value (c.frame.vars x) >>= number_in)
var_number h v c x y is = by (slice_get v.slots.items (var_at v x)) refl
  where
    by : (s : Option Slot) → slice_get v.slots.items (var_at v x) ≡ s → IsNumber (Ok y) (or_fault no_value (c.frame.vars x) >>= number_in)
    by None e = front_number c.items (Number y) (or_fault no_value (c.frame.vars x)) y (var_front h v c x (Number y) (λ b there. absurd (none-some b (sym e ∙ there)))) (λ z k. same_number y z k)
    by (Some b) e = front_number c.items b (or_fault no_value (c.frame.vars x)) y (var_front h v c x b (λ d there. same_Some b d (sym e ∙ there))) (λ z k. is z (e ∙ ap (λ q. Some q) k))

-- ---- fields

-- the object that a variable refers to, as the heap has it
pub record Following (items : Items) (width n : ℕ) (o : Thing) : Type 0 where
  pub item : Item
  pub at : IsAt items n item
  pub shown : ShowsObject items width item o

pub following : (items : Items) (width n : ℕ) (objects : List Thing) (o : Thing) → ShowObjects items width objects → slice_get objects n ≡ Some o → is_gone o.owner ≡ false → Following items width n o
following items width n objects o shown at live =
    let y = item_at items n (let l = slice_get_within objects n o at in omega (arith, l, shown.long)) in
    by y.item y.at (shown.each n y.item o y.at at)
  where
    by : (x : Option Item) → slice_get items n ≡ Some x → ShowsIt items width x o → Following items width n o
    by None e gone = absurd (false≢true (sym live ∙ gone))
    by (Some x) e is = record { item = x; at = e; shown = is }

abbrev object_in : Slot → Option (Obj × ℕ)
object_in (Number z) = None
object_in (Object o n) = Some (o, n)
object_in (Owned o n) = None

pub same_object : {o q : Obj} {n m : ℕ} → Object o n ≡ Object q m → (o ≡ q) × (n ≡ m)
same_object e = let s = same_Some _ _ (ap object_in e) in (ap (λ x. x.0) s, ap (λ x. x.1) s)

-- a slot that refers to no object
abbrev pub IsNoObject : Slot → Type 0
IsNoObject a = (q : Obj) (m : ℕ) → a ≡ Object q m → ⊥

pub number_object : (a : Slot) (z : ℤ) → a ≡ Number z → IsNoObject a
number_object a z is q m e = none-some _ (ap object_in (sym is ∙ e))

pub owned_object : (a : Slot) (o : Obj) (n : ℕ) → a ≡ Owned o n → IsNoObject a
owned_object a o n is q m e = none-some _ (ap object_in (sym is ∙ e))

-- a reference that is packed owns its object
pub packed_object : (items : Items) (n : ℕ) (a b : Slot) → ((o : Obj) (m : ℕ) → a ≡ Object o m → b ≡ Owned o m) → IsObject items n a → IsOwned items n b
packed_object items n a b packed ref = record { object = ref.object; is = packed ref.object n ref.is; made = ref.made }

-- where the field is there, the slot has to have its front
pub field_front : (h : Heap) (v : Values) (c : Seen h v) (x i : ℕ) (r : Slot) → ((m : Named) (w : Value) → Touched x c.frame c.objects m → slice_get m.object.cells i ≡ Some w → HasPart c.items (head_of w) r)
    → IsFront c.items r (value_of c.program c.func (field x i) c.frame c.objects)
field_front h v c x i r is = by (touchable c.program c.func x i c.frame c.objects) refl (touch_fault c.program c.func x i c.frame c.objects)
  where
    cell : (m : Named) → touchable c.program c.func x i c.frame c.objects ≡ Ok m → (w : Option Value) → slice_get m.object.cells i ≡ w → IsFront c.items r (or_fault missing w)
    cell m e None at = refl
    cell m e (Some w) at = is m w (touched c.program c.func x i c.frame c.objects m e) at

    by : (q : Found Named) → touchable c.program c.func x i c.frame c.objects ≡ q → OrFault q → IsFront c.items r (q >>= (λ m. or_fault missing (slice_get m.object.cells i)))
    by (Ok m) e fault = cell m e (slice_get m.object.cells i) refl
    by (Err o) e fault = fault

module _ (h : Heap) (v : Values) (c : Seen h v) (x : ℕ) (a : Slot) (is : IsSlotAt v.slots.items (var_at v x) a) where
  -- what the variable's slot has
  pub referred : (m : Named) → Touched x c.frame c.objects m → IsObject c.items m.number a
  referred m t = has_part c.items v.slots.items (var_at v x) (reference m.number) a is (c.fits.vars x (one (reference m.number)) t.var).value.parts.0

  pub field_found : (i : ℕ) (o : Obj) (n : ℕ) (r : Slot) → a ≡ Object o n → Finds (Some r) o n (i * v.width) h → IsFront c.items r (value_of c.program c.func (field x i) c.frame c.objects)
  field_found i o n r e finds = field_front h v c x i r (λ m w t at.
      let ref = referred m t in
      let s = same_object (sym e ∙ ref.is) in
      let b = following c.items v.width m.number c.objects m.object c.shown t.at t.live in
      let f = finds c.items c.holds (subst (λ q. IsMadeAt c.items q.0 n) (sym s.0) (subst (IsMadeAt c.items ref.object.0) (sym s.1) ref.made)) in
      let item : f.item ≡ b.item = same_Some _ _ (same_Some _ _ (sym f.at ∙ ap (slice_get c.items) s.1 ∙ b.at)) in
      has_part c.items b.item.slots (i * v.width) (head_of w) r (λ q at_q. same_Some r q (sym f.slot ∙ ap (λ z. slice_get z.slots (i * v.width)) item ∙ at_q))
      (front_part c.items b.item.slots (i * v.width) v.width w (b.shown.cells i w at).parts))

  pub field_none : (i : ℕ) (o : Obj) (n : ℕ) (r : Slot) → a ≡ Object o n → Finds None o n (i * v.width) h → IsFront c.items r (value_of c.program c.func (field x i) c.frame c.objects)
  field_none i o n r e finds = field_front h v c x i r (λ m w t at.
      let ref = referred m t in
      let s = same_object (sym e ∙ ref.is) in
      let b = following c.items v.width m.number c.objects m.object c.shown t.at t.live in
      let f = finds c.items c.holds (subst (λ q. IsMadeAt c.items q.0 n) (sym s.0) (subst (IsMadeAt c.items ref.object.0) (sym s.1) ref.made)) in
      let part = front_part c.items b.item.slots (i * v.width) v.width w (b.shown.cells i w at).parts in
      absurd (none-some part.slot (sym (f b.item (ap (slice_get c.items) s.1 ∙ b.at)) ∙ part.at)))

  pub field_nowhere : (i : ℕ) (r : Slot) → IsNoObject a → IsFront c.items r (value_of c.program c.func (field x i) c.frame c.objects)
  field_nowhere i r none = field_front h v c x i r (λ m w t at. let ref = referred m t in absurd (none ref.object m.number ref.is))
