-- A new object with its cells, and the objects that go in it.
use Rattle.std.proofs.Common.{◌≡◌, ◌⊎◌, inl, inr, ℕ, zero, suc, ◌+◌, ◌*◌, ◌<◌, ◌≤◌, nat_le, true, false, not, cond, ◌||◌, List, [], ◌∷◌, ◌++◌, take, drop, length, Option, Some, None, Ok, Err, refl, sym, ap, ◌∙◌, subst, arith, slice_get, slice_set}
use Rattle.std.specs.List.{flat_map}
use Rattle.std.proofs.lemmas.Option.{none-some, same_Some, slice_get_within}
use Rattle.std.proofs.lemmas.List.{length-append, length-replicate}
use Rattle.std.proofs.lemmas.List.Sums.{sum_by-cons}
use Rattle.vlt_base.specs.declared.HeapEnd.{HeapEnd}
use Rattle.vlt_core.specs.Lookups.{Reference}
use Rattle.vlt_rings.proofs.Lists.{get_push, get_last}
use Rattle.vlt_rings.proofs.Rows.{row_within}
use Rattle.vlt_heap.specs.declared.slots.Obj.{Obj}
use Rattle.vlt_heap.specs.declared.slots.Slot.{Slot}
use Rattle.vlt_heap.specs.declared.slots.Slot.TheVariants.{Object}
use Rattle.vlt_heap.specs.declared.heap.Heap.{Heap}
use Rattle.vlt_heap.specs.Items.{Item, Items, IsAt, IsMadeAt, is_there, new_item, with_item}
use Rattle.vlt_heap.specs.Items as held
use Rattle.vlt_heap.specs.Shown.{Holds, slots_of, heap_of, Makes}
use Rattle.vlt_heap.proofs.Listed.{KeepMade, kept_with, kept_new, made_at}
use Rattle.vlt_meaning.specs.World.{Part, Value, objects_in, Object as Thing, is_gone, is_full, max_made, Frame}
use Rattle.vlt_meaning.specs.World as world
use Rattle.vlt_meaning.specs.Objects.{with_changed_object, changed_in}
use Rattle.vlt_meaning.specs.Run.{new_object}
use Rattle.vlt_acts.specs.declared.values.values.Values.{Values}
use Rattle.vlt_acts.specs.Values.Parts.{padded_parts, HaveParts, HaveValue}
use Rattle.vlt_acts.specs.Values.Shown.{ShowsObject, ShowsIt, ShowObjects}
use Rattle.vlt_acts.specs.Values.Pushed.{HaveValues}
use Rattle.vlt_acts.proofs.OfValues.Padding.{length_padded}
use Rattle.vlt_acts.proofs.OfValues.Writing.{value_moved}
use Rattle.vlt_acts.proofs.OfActs.Keeping.{value_kept}
use Rattle.vlt_acts.proofs.OfActs.Showing.{it_kept, one_shown}
use Rattle.vlt_acts.specs.Objects.Owned.{AreParts, owned_in, Sees, IsHeldAt, put_in, CanHang, HangsAll}
use Rattle.vlt_acts.specs.Objects.Cells.{set_from, with_slots, StoresAll}
use Rattle.vlt_acts.specs.Objects.Made.{SeesCells, objects_with, CanMake, HasNew}
use Rattle.vlt_acts.proofs.OfObjects.Chains.{parts_known, then_kept}
use Rattle.vlt_acts.proofs.OfObjects.Rows.{owned_both, owned_padded, row_parts}
use Rattle.vlt_acts.proofs.OfObjects.Storing.{set_inside, row_get, length_row}

-- ---- values one after another

abbrev pub all_parts : (width : ℕ) → List Value → List Part
all_parts w = flat_map (padded_parts w)

pub owned_all : (w : ℕ) (xs : List Value) → owned_in (all_parts w xs) ≡ flat_map objects_in xs
owned_all w [] = refl
owned_all w (a ∷ xs) = owned_both (padded_parts w a) (all_parts w xs) ∙ ap (λ l. l ++ owned_in (all_parts w xs)) (owned_padded w a) ∙ ap (λ l. objects_in a ++ l) (owned_all w xs)

pub parts_both : (items : Items) (slots : List Slot) (k : ℕ) (ps qs : List Part) → HaveParts items slots k ps → HaveParts items slots (k + length ps) qs → HaveParts items slots k (ps ++ qs)
parts_both items slots k [] qs first rest = subst (λ j. HaveParts items slots j qs) (omega arith) rest
parts_both items slots k (p ∷ ps) qs first rest = (first.0, parts_both items slots (suc k) ps qs first.1 (subst (λ j. HaveParts items slots j qs) (omega arith) rest))

values_parts : (items : Items) (slots : List Slot) (k w : ℕ) (xs : List Value) → HaveValues items slots k w xs → HaveParts items slots k (all_parts w xs)
values_parts items slots k w [] have = tt
values_parts items slots k w (a ∷ xs) have =
    parts_both items slots k (padded_parts w a) (all_parts w xs) have.0.parts (subst (λ j. HaveParts items slots (k + j) (all_parts w xs)) (sym (length_padded w a have.0.narrow)) (values_parts items slots (k + w) w xs have.1))

length_all : (items : Items) (slots : List Slot) (k w : ℕ) (xs : List Value) → HaveValues items slots k w xs → length (all_parts w xs) ≡ length xs * w
length_all items slots k w [] have = omega arith
length_all items slots k w (a ∷ xs) have =
    let e = length-append (padded_parts w a) (all_parts w xs) in
    let p = length_padded w a have.0.narrow in
    let r = length_all items slots (k + w) w xs have.1 in
    let m : suc (length xs) * w ≡ w + length xs * w = omega arith in
    omega (arith, e, p, r, m)

pub row_values : (items : Items) (slots : List Slot) (k w n : ℕ) (xs : List Value) → length xs ≡ n → HaveValues items slots k w xs → AreParts items (take (n * w) (drop k slots)) (all_parts w xs)
row_values items slots k w n xs is have =
    subst (λ m. AreParts items (take m (drop k slots)) (all_parts w xs)) (length_all items slots k w xs have ∙ ap (λ m. m * w) is) (row_parts items slots k (all_parts w xs) (values_parts items slots k w xs have))

value_at : (items : Items) (slots : List Slot) (k w : ℕ) (xs : List Value) (i : ℕ) (a : Value) → HaveValues items slots k w xs → slice_get xs i ≡ Some a → HaveValue items slots (k + i * w) w a
value_at items slots k w [] i a have at = absurd (none-some a at)
value_at items slots k w (x ∷ xs) zero a have at = subst (HaveValue items slots (k + 0 * w) w) (same_Some x a at) (subst (λ j. HaveValue items slots j w x) (omega arith) have.0)
value_at items slots k w (x ∷ xs) (suc i) a have at =
    let e : k + w + i * w ≡ k + suc i * w = omega arith in subst (λ j. HaveValue items slots j w a) e (value_at items slots (k + w) w xs i a have.1 at)

-- ---- as many are live

live_same : (w : ℕ) (xs : Items) (os : List Thing) → length xs ≡ length os → ((n : ℕ) (x : Option Item) (o : Thing) → slice_get xs n ≡ Some x → slice_get os n ≡ Some o → is_there x ≡ not (is_gone o.owner)) → held.live_count xs ≡ world.live_count os
live_same w [] [] long each = refl
live_same w [] (o ∷ os) long each = absurd (omega (arith, long))
live_same w (x ∷ xs) [] long each = absurd (omega (arith, long))
live_same w (x ∷ xs) (o ∷ os) long each =
    sum_by-cons (λ z. cond (is_there z) 1 0) x xs
    ∙ ap (λ t. cond t 1 0 + held.live_count xs) (each 0 x o refl refl)
    ∙ ap (λ k. cond (not (is_gone o.owner)) 1 0 + k) (live_same w xs os (omega (arith, long)) (λ n y q at_y at_q. each (suc n) y q at_y at_q))
    ∙ sym (sum_by-cons (λ (z : Thing). cond (not (is_gone z.owner)) 1 0) o os)

pub full_same : (items : Items) (w budget : ℕ) (objects : List Thing) → ShowObjects items w objects → held.is_full budget items ≡ is_full budget objects
full_same items w budget objects h =
    ap (λ n. nat_le budget n || nat_le max_made (length items)) (live_same w items objects h.long (λ n x o at_x at_o. by x o (h.each n x o at_x at_o)))
    ∙ ap (λ n. nat_le budget (world.live_count objects) || nat_le max_made n) h.long
  where
    by : (x : Option Item) (o : Thing) → ShowsIt items w x o → is_there x ≡ not (is_gone o.owner)
    by None o s = ap not (sym s)
    by (Some x) o s = ap not (sym s.live)

-- ---- the new object

change_last : (os : List Thing) (o : Thing) (change : Thing → Thing) → with_changed_object (length os) change (os ++ o ∷ []) ≡ os ++ change o ∷ []
change_last os o change = ap (λ x. changed_in (length os) change (os ++ o ∷ []) x) (get_last os o) ∙ set_last os
  where
    set_last : (xs : List Thing) → slice_set (xs ++ o ∷ []) (length xs) (change o) ≡ xs ++ change o ∷ []
    set_last [] = refl
    set_last (x ∷ xs) = ap (λ l. x ∷ l) (set_last xs)

more_shown : (items : Items) (w : ℕ) (objects : List Thing) (x : Item) (o : Thing) → ShowObjects items w objects → ShowsObject (items ++ Some x ∷ []) w x o → ShowObjects (items ++ Some x ∷ []) w (objects ++ o ∷ [])
more_shown items w objects x o h new = record {
  long = length-append items (Some x ∷ []) ∙ ap (λ n. n + 1) h.long ∙ sym (length-append objects (o ∷ []));
  each = λ n y q at_y at_q. by n y q (get_push items (Some x) n y at_y).is (get_push objects o n q at_q).is;
}
  where
    by : (n : ℕ) (y : Option Item) (q : Thing) → (slice_get items n ≡ Some y) ⊎ ((n ≡ length items) × (Some x ≡ y)) → (slice_get objects n ≡ Some q) ⊎ ((n ≡ length objects) × (o ≡ q)) → ShowsIt (items ++ Some x ∷ []) w y q
    by n y q (inl a) (inl b) = it_kept items (items ++ Some x ∷ []) w y q (kept_new items x) (h.each n y q a b)
    by n y q (inl a) (inr b) = absurd (let l = slice_get_within items n y a in let e = b.0 in omega (arith, l, e, h.long))
    by n y q (inr a) (inl b) = absurd (let l = slice_get_within objects n q b in let e = a.0 in omega (arith, l, e, h.long))
    by n y q (inr a) (inr b) = subst (λ z. ShowsIt (items ++ Some x ∷ []) w z q) a.1 (subst (ShowsObject (items ++ Some x ∷ []) w x) b.1 new)

abbrev with_cells : List Value → Thing → Thing
with_cells cells o = record o { cells = cells }

-- what the heap shows once the cells are set
pub record Stored (heap : Heap) (values : Values) (from : ℕ) (s : SeesCells heap values from) (q : Reference) (frame : Frame) (new : Heap) (o : Obj) : Type 0 where
  pub items : Items
  pub holds : Holds new items
  pub shown : ShowObjects items values.width (objects_with q s.cells frame s.objects)
  pub kept : KeepMade s.items items
  pub made : IsMadeAt items o.0 (length s.objects)

module _ (old mid : Heap) (values : Values) (from count t : ℕ) (o : Obj) (makes : Makes (Ok o) t old mid) (within : from + count * values.width ≤ length values.slots.items) (fits : count * values.width ≤ slots_of old) (size : slots_of mid ≡ slots_of old) (row : List Slot) (is_row : row ≡ take (count * values.width) (drop from values.slots.items)) where
  pub stored : (new : Heap) (k n : ℕ) → n ≡ 0 → StoresAll o k n row mid new → (s : SeesCells old values from) → k ≡ length s.items → length s.cells ≡ count → (q : Reference) (frame : Frame) → q.type ≡ t → Stored old values from s q frame new o
  stored new k n zero_is stores s is_k counted q frame typed =
      let m = makes s.items s.holds in
      let x : Item = new_item (slots_of old) t o.0 in
      let one : Items = s.items ++ Some x ∷ [] in
      let at : IsAt one (length s.items) x = get_last s.items (Some x) in
      let long : length row ≡ count * values.width = ap length is_row ∙ length_row values.slots.items from (count * values.width) within in
      let y : Item = with_slots 0 row x in
      let keep : KeepMade one (with_item (length s.items) y one) = kept_with one (length s.items) x y at refl in
      let wide : length x.slots ≡ slots_of old = length-replicate (slots_of old) _ in
      let thing : Thing = new_object q s.cells frame in
      let empty : Thing = with_cells [] thing in
      let base : ShowObjects one values.width (s.objects ++ empty ∷ []) =
      more_shown s.items values.width s.objects x empty s.shown (record { live = refl; type = sym typed; state = refl; parent = refl; is_out = refl; cells = λ i a none. absurd (none-some a none) }) in
      let end : length s.items ≡ length s.objects = s.shown.long in
      let all : ShowObjects (with_item (length s.items) y one) values.width (with_changed_object (length s.items) (with_cells s.cells) (s.objects ++ empty ∷ [])) =
      one_shown one values.width (length s.items) (s.objects ++ empty ∷ []) x y empty (with_cells s.cells) keep base at (subst (λ j. slice_get (s.objects ++ empty ∷ []) j ≡ Some empty) (sym end) (get_last s.objects empty)) (record {
        live = refl;
        type = sym typed;
        state = refl;
        parent = refl;
        is_out = refl;
        cells = λ i a at_a. cell i a at_a x y (omega (arith, long, fits, wide)) refl;
      }) in
      record {
        items = with_item (length s.items) y one;
        holds = subst (λ j. Holds new (with_item j y one)) is_k (subst (λ j. Holds new (with_item k (with_slots j row x) one)) zero_is
            (stores one x m.holds (subst (λ j. IsAt one j x) (sym is_k) at) refl (omega (arith, long, fits, size, zero_is))));
        shown = subst (ShowObjects (with_item (length s.items) y one) values.width) (ap (λ j. with_changed_object j (with_cells s.cells) (s.objects ++ empty ∷ [])) end ∙ change_last s.objects empty (with_cells s.cells)) all;
        kept = λ c j made. keep c j (kept_new s.items x c j made);
        made = subst (IsMadeAt (with_item (length s.items) y one) o.0) end (keep o.0 (length s.items) (made_at one (length s.items) x at));
      }
    where
      cell : (i : ℕ) (a : Value) → slice_get s.cells i ≡ Some a → (x y : Item) → 0 + length row ≤ length x.slots → y ≡ with_slots 0 row x
          → HaveValue (s.items ++ Some (new_item (slots_of old) t o.0) ∷ []) y.slots (i * values.width) values.width a
      cell i a at_a x y room is_y =
          value_kept s.items (s.items ++ Some (new_item (slots_of old) t o.0) ∷ []) y.slots (i * values.width) values.width a (kept_new s.items (new_item (slots_of old) t o.0))
          (value_moved s.items values.slots.items y.slots (from + i * values.width) (i * values.width) values.width a (λ j b l at_b. subst (λ z. slice_get z.slots (i * values.width + j) ≡ Some b) (sym is_y)
          (let i_in = slice_get_within s.cells i a at_a in let f = row_within i (length s.cells) values.width j i_in l in
          ap (slice_get (set_from 0 row x.slots)) (omega arith)
          ∙ set_inside 0 row x.slots (i * values.width + j) b room (ap (λ z. slice_get z (i * values.width + j)) is_row ∙ row_get values.slots.items from (count * values.width) (i * values.width + j) (subst (λ c. i * values.width + j < c * values.width) counted f) ∙ ap (slice_get values.slots.items) (omega arith) ∙ at_b)))
          (value_at s.items values.slots.items from values.width s.cells i a s.have at_a))

-- ---- its values' objects go in it

abbrev stored_seen : (old new : Heap) (values : Values) (from count : ℕ) (s : SeesCells old values from) (q : Reference) (frame : Frame) (o : Obj) (row : List Slot) → row ≡ take (count * values.width) (drop from values.slots.items) → length s.cells ≡ count → Stored old values from s q frame new o → Sees new row
stored_seen old new values from count s q frame o row is_row counted k = record {
  items = k.items;
  width = values.width;
  objects = objects_with q s.cells frame s.objects;
  parts = all_parts values.width s.cells;
  holds = k.holds;
  shown = k.shown;
  have = parts_known s.items k.items row (all_parts values.width s.cells) k.kept
      (subst (λ l. AreParts s.items l (all_parts values.width s.cells)) (sym is_row) (row_values s.items values.slots.items from values.width count s.cells counted s.have));
}

abbrev stored_holder : (old new : Heap) (values : Values) (from : ℕ) (s : SeesCells old values from) (q : Reference) (frame : Frame) (o : Obj) (k : Stored old values from s q frame new o) → IsHeldAt k.items (objects_with q s.cells frame s.objects) (length s.objects) o.0
stored_holder old new values from s q frame o k =
    record { object = new_object q s.cells frame; at = get_last s.objects (new_object q s.cells frame); depth = frame.depth; key = q.key; owner = refl; made = k.made }

module _ (old mid : Heap) (values : Values) (from count t : ℕ) (o : Obj) (makes : Makes (Ok o) t old mid) (within : from + count * values.width ≤ length values.slots.items) (fits : count * values.width ≤ slots_of old) (size : slots_of mid ≡ slots_of old)
    (row : List Slot) (is_row : row ≡ take (count * values.width) (drop from values.slots.items)) (new : Heap) (k : ℕ) (numbered : (items : Items) (n : ℕ) (x : Item) → Holds mid items → IsAt items n x → x.place ≡ o.0 → k ≡ n) (stores : StoresAll o k 0 row mid new) where
  number_is : (s : SeesCells old values from) → k ≡ length s.items
  number_is s = let m = makes s.items s.holds in numbered (s.items ++ Some (new_item (slots_of old) t o.0) ∷ []) (length s.items) (new_item (slots_of old) t o.0) m.holds (get_last s.items (Some (new_item (slots_of old) t o.0))) refl

  not_full : (s : SeesCells old values from) → is_full (heap_of old) s.objects ≡ false
  not_full s = sym (full_same s.items values.width (heap_of old) s.objects s.shown) ∙ (makes s.items s.holds).room

  new_stored : (s : SeesCells old values from) → length s.cells ≡ count → (q : Reference) (frame : Frame) → q.type ≡ t → Stored old values from s q frame new o
  new_stored s counted q frame typed = stored old mid values from count t o makes within fits size row is_row new k 0 refl stores s (number_is s) counted q frame typed

  pub hang_new : CanMake t from count values old → CanHang new row o
  hang_new c =
      let s = c.sees in
      let p = new_stored s c.counted c.ref c.frame c.typed in
      let r = c.right (not_full s) in
      record {
        number = length s.objects;
        can = record {
          sees = stored_seen old new values from count s c.ref c.frame o row is_row c.counted p;
          after = r.0;
          is = ap (λ ns. put_in (length s.objects) ns (objects_with c.ref s.cells c.frame s.objects)) (owned_all values.width s.cells) ∙ r.1;
        };
        holder = stored_holder old new values from s c.ref c.frame o p;
      }

  pub new_made : (last : Heap) → HangsAll row o new last → (s : SeesCells old values from) (frame : Frame) (q : Reference) → length s.cells ≡ count → q.type ≡ t → HasNew old values from s frame q last (Object o k)
  new_made last hangs s frame q counted typed = record {
    room = not_full s;
    shows = λ after is.
        let p = new_stored s counted q frame typed in
        let a = hangs (stored_seen old new values from count s q frame o row is_row counted p) (length s.objects) after (stored_holder old new values from s q frame o p) (ap (λ ns. put_in (length s.objects) ns (objects_with q s.cells frame s.objects)) (owned_all values.width s.cells) ∙ is) in
        record {
          shows = then_kept s.items last values.width after p.items p.kept a;
          object = record { object = o; is = ap (Object o) (number_is s ∙ s.shown.long); made = a.kept o.0 (length s.objects) p.made };
        };
  }

pub full_made : (old new : Heap) (values : Values) (from t : ℕ) (e : HeapEnd) → Makes (Err e) t old new → (s : SeesCells old values from) → is_full (heap_of old) s.objects ≡ true
full_made old new values from t e makes s = sym (full_same s.items values.width (heap_of old) s.objects s.shown) ∙ makes s.items s.holds
