-- What the calls on a heap come to.
use Rattle.std.proofs.Common.{◌≡◌, ◌≢◌, ◌⊎◌, inl, inr, ℕ, zero, suc, ◌+◌, ◌*◌, ◌<◌, ◌≤◌, ◌||◌, nat_le, max, pos, Bool, true, false, if◌then◌else◌, [], ◌∷◌, ◌++◌, length, replicate, Option, Some, None, refl, sym, ap, ◌∙◌, subst, arith, slice_get, slice_set, vec_capacity}
use Rattle.std.specs.Option.{option_map}
use Rattle.std.proofs.lemmas.Bool.Decides.{nat_tests}
use Rattle.std.proofs.lemmas.Option.{none-some, same_Some, slice_get_within}
use Rattle.std.proofs.lemmas.List.{length-set}
use Rattle.vlt_base.specs.Parents.{is_at_or_below}
use Rattle.vlt_rings.specs.Places.{IsSettled, home_by}
use Rattle.vlt_rings.specs.Things as rings
use Rattle.vlt_rings.specs.Things.{Thing, Things, ParentIs, IsLiveAt, places_in, budget_of, made_in}
use Rattle.vlt_rings.proofs.Lists.{equal_or_not, get_same, get_other, get_push, get_last}
use Rattle.vlt_rings.proofs.Holding.{live_left}
use Rattle.vlt_rings.proofs.Rows.{below_or_above, rows_apart, row_within, row_fits}
use Rattle.vlt_meaning.specs.World.{max_made}
use Rattle.vlt_heap.specs.declared.slots.Obj.{Obj}
use Rattle.vlt_heap.specs.declared.slots.Slot.{Slot}
use Rattle.vlt_heap.specs.declared.slots.Slot.TheVariants.{Number}
use Rattle.vlt_heap.specs.declared.slots.Kind.{Kind}
use Rattle.vlt_heap.specs.declared.heap.Heap.{Heap}
use Rattle.vlt_heap.specs.Items.{Item, Items, IsAt, live_count, is_full, new_item, with_item, with_slot, with_parent, parents_of, without, IsMadeAt}
use Rattle.vlt_heap.specs.Shown.{thing_of, things_of, IsKind, IsRow, IsShown, Holds, IsSound, IsSetKind, IsNew, IsThereOrGone, IsParentAt, IsRoot, IsHere, IsChild}
use Rattle.vlt_heap.proofs.Listed.{thing_at, of_thing, gone_at, length_things, things_with, same_things, things_new, count_items, parents_same, with_cases, left_at, things_without}

-- ---- places

-- different objects are in different places
pub places_apart : (h : Heap) (items : Items) → Holds h items → (n k : ℕ) (x v : Item) → IsAt items n x → IsAt items k v → k ≢ n → v.place ≢ x.place
places_apart h items holds n k x v at_x at_v other same =
    let s = holds.things.hold.shown n (thing_of x) (thing_at items n (Some x) at_x) in
    let r = holds.things.hold.shown k (thing_of v) (thing_at items k (Some v) at_v) in
    let what : r.what ≡ s.what = same_Some r.what s.what (sym r.at ∙ ap (slice_get h.places.places.items) same ∙ s.at) in
    other (sym r.number ∙ ap (λ p. p.number) what ∙ s.number)

-- an object is live in its place
pub live_at : (h : Heap) (items : Items) → Holds h items → (n : ℕ) (x : Item) → IsAt items n x → IsLiveAt h.places x.place
live_at h items holds n x at = let s = holds.things.hold.shown n (thing_of x) (thing_at items n (Some x) at) in record { what = s.what; at = s.at; is = s.live }

pub place_within : (h : Heap) (items : Items) → Holds h items → (n : ℕ) (x : Item) → IsAt items n x → x.place < places_in h.places
place_within h items holds n x at = let l = live_at h items holds n x at in slice_get_within h.places.places.items x.place l.what l.at

-- a live place has an object
pub record Found (h : Heap) (items : Items) (c : ℕ) : Type 0 where
  pub number : ℕ
  pub item : Item
  pub at : IsAt items number item
  pub place : item.place ≡ c

pub found : (h : Heap) (items : Items) (c : ℕ) → Holds h items → IsLiveAt h.places c → Found h items c
found h items c holds live =
    let k = holds.things.hold.known c live.what live.at live.is in
    let o = of_thing items live.what.number k.thing k.at in
    record { number = live.what.number; item = o.item; at = o.at; place = ap (λ t. t.place) o.thing ∙ k.place }

-- ---- reads

pub cell_within : (h : Heap) (c i : ℕ) → IsSound h → IsLiveAt h.places c → i < h.width → c * h.width + i < length h.cells.items
cell_within h c i sound live l =
    let within = slice_get_within h.places.places.items c live.what live.at in
    let k = row_within c (places_in h.places) h.width i within l in
    omega (arith, k, sound.cells)

pub kind_read : (h : Heap) (items : Items) (n c : ℕ) (x : Item) (k : Kind) → Holds h items → IsAt items n x → x.place ≡ c → slice_get h.kinds.items c ≡ Some k → IsKind k x
kind_read h items n c x k holds at place is =
    let s = holds.shown n x at in
    subst (λ q. IsKind q x) (same_Some s.what k (sym s.at ∙ ap (slice_get h.kinds.items) place ∙ is)) s.kind

pub slot_read : (h : Heap) (items : Items) (n c i k : ℕ) (x : Item) (a : Slot) → Holds h items → IsAt items n x → x.place ≡ c → i < h.width → k ≡ c * h.width + i → slice_get h.cells.items k ≡ Some a → slice_get x.slots i ≡ Some a
slot_read h items n c i k x a holds at place l is read =
    (holds.shown n x at).row.each i l ∙ ap (λ d. slice_get h.cells.items (d * h.width + i)) place ∙ ap (slice_get h.cells.items) (sym is) ∙ read

-- ---- changes of one object

pub with_holds : (old new : Heap) (items : Items) (n : ℕ) (x y : Item) → Holds old items → IsAt items n x → y.place ≡ x.place → rings.Holds new.places (things_of (with_item n y items))
    → IsShown new y → ((k : ℕ) (v : Item) → IsAt items k v → k ≢ n → IsShown new v) → Holds new (with_item n y items)
with_holds old new items n x y holds at same things here others = record {
  things = things;
  shown = λ k v at_k. by k v (with_cases items n x y at k v at_k).is;
}
  where
    by : (k : ℕ) (v : Item) → ((k ≡ n) × (y ≡ v)) ⊎ ((k ≢ n) × IsAt items k v) → IsShown new v
    by k v (inl e) = subst (IsShown new) e.1 here
    by k v (inr e) = others k v e.1 e.0

-- tables that are the same show the same
pub record SameTables (old new : Heap) : Type 0 where
  pub kinds : new.kinds ≡ old.kinds
  pub cells : new.cells ≡ old.cells
  pub width : new.width ≡ old.width

same_shown : (old new : Heap) (x y : Item) → SameTables old new → y ≡ record x { parent = y.parent } → IsShown old x → IsShown new y
same_shown old new x y same is s = subst (IsShown new) (sym is) (record {
  what = s.what;
  at = ap (λ l. slice_get l.items x.place) same.kinds ∙ s.at;
  kind = record { type = s.kind.type; state = s.kind.state; is_out = s.kind.is_out };
  row = record {
    long = s.row.long ∙ sym same.width;
    each = λ i l. s.row.each i (rw (← same.width) l) ∙ ap (λ w. slice_get old.cells.items (x.place * w + i)) (sym same.width) ∙ ap (λ t. slice_get t.items (x.place * new.width + i)) (sym same.cells);
  };
})

-- an object gets a parent, or loses it
pub parent_set : (old new : Heap) (items : Items) (n : ℕ) (x : Item) (parent : Option ℕ) → SameTables old new → Holds old items → IsAt items n x
    → rings.Holds new.places (slice_set (things_of items) n (Some (record (thing_of x) { parent = parent }))) → Holds new (with_item n (with_parent parent x) items)
parent_set old new items n x parent same holds at things =
    with_holds old new items n x (with_parent parent x) holds at refl (subst (rings.Holds new.places) (sym (things_with items n (with_parent parent x))) things)
    (same_shown old new x (with_parent parent x) same refl (holds.shown n x at))
    (λ k v at_v other. same_shown old new v v same refl (holds.shown k v at_v))

pub released : (old new : Heap) (items : Items) (n : ℕ) (x : Item) → SameTables old new → Holds old items → IsAt items n x → rings.AreReleased (things_of items) n new.places → Holds new (without n items)
released old new items n x same holds at r = record {
  things = subst (rings.Holds new.places) (things_without gone 0 items r.things (r.long ∙ length_things items) each) r.holds;
  shown = λ k v at_k. same_shown old new v v same refl (holds.shown k v (left_at gone 0 items k v at_k));
}
  where
    gone : ℕ → Bool
    gone = is_at_or_below (parents_of items) (n ∷ [])

    each : (k : ℕ) (z : Option Item) → slice_get items k ≡ Some z → slice_get r.things k ≡ Some (if gone (0 + k) then None else option_map thing_of z)
    each k z at_k =
        r.each k (option_map thing_of z) (thing_at items k z at_k)
        ∙ ap (λ l. Some (if is_at_or_below l (n ∷ []) k then None else option_map thing_of z)) (parents_same items)
        ∙ ap (λ j. Some (if gone j then None else option_map thing_of z)) (omega arith)

-- what one object is was set
pub kind_set : (old new : Heap) (items : Items) (n c : ℕ) (x y : Item) (k : Kind) → IsSound old → Holds old items → IsAt items n x → x.place ≡ c → IsSetKind c k old new → IsKind k y
    → thing_of y ≡ thing_of x → y.slots ≡ x.slots → Holds new (with_item n y items)
kind_set old new items n c x y k sound holds at place set is same slots =
    with_holds old new items n x y holds at (ap (λ t. t.place) same)
    (subst (λ h. rings.Holds h (things_of (with_item n y items))) (sym set.places) (subst (rings.Holds old.places) (sym (same_things items n x y at same)) holds.things))
    (record { what = k; at = here; kind = is; row = row y x (ap (λ t. t.place) same) slots (holds.shown n x at).row })
    (λ d v at_v other. let s = holds.shown d v at_v in record {
      what = s.what;
      at = ap (λ l. slice_get l v.place) set.kinds ∙ get_other old.kinds.items c v.place k (λ e. places_apart old items holds n d x v at at_v other (e ∙ sym place)) ∙ s.at;
      kind = s.kind;
      row = row v v refl refl s.row;
    })
  where
    within : c < length old.kinds.items
    within = let w = place_within old items holds n x at in omega (arith, w, place, sound.kinds)

    here : slice_get new.kinds.items y.place ≡ Some k
    here = ap (λ t. slice_get new.kinds.items t.place) same ∙ ap (slice_get new.kinds.items) place ∙ ap (λ l. slice_get l c) set.kinds ∙ get_same old.kinds.items c k within

    row : (v u : Item) → v.place ≡ u.place → v.slots ≡ u.slots → IsRow old.cells.items (u.place * old.width) old.width u.slots → IsRow new.cells.items (v.place * new.width) new.width v.slots
    row v u p s r = record {
      long = ap length s ∙ r.long ∙ sym set.width;
      each = λ i l. ap (λ q. slice_get q i) s ∙ r.each i (rw (← set.width) l) ∙ ap (λ d. slice_get old.cells.items (d * old.width + i)) (sym p)
          ∙ ap (λ w. slice_get old.cells.items (v.place * w + i)) (sym set.width) ∙ ap (λ t. slice_get t.items (v.place * new.width + i)) (sym set.cells);
    }

pub sound_kind : (old new : Heap) (c : ℕ) (k : Kind) → IsSound old → IsSetKind c k old new → vec_capacity new.kinds ≡ vec_capacity old.kinds → IsSound new
sound_kind old new c k sound set room = record {
  settled = subst IsSettled (sym set.places) sound.settled;
  kinds = ap length set.kinds ∙ length-set old.kinds.items c k ∙ sound.kinds ∙ ap places_in (sym set.places);
  cells = ap (λ l. length l.items) set.cells ∙ sound.cells ∙ ap (λ w. places_in old.places * w) (sym set.width) ∙ ap (λ h. places_in h * new.width) (sym set.places);
  kinds_room = rw (set.places, room) (sound.kinds_room);
  cells_room = rw (set.places, set.cells, set.width) (sound.cells_room);
}

-- ---- a slot is set

pub record OneSet (old new : Heap) (k : ℕ) (a : Slot) : Type 0 where
  pub places : new.places ≡ old.places
  pub kinds : new.kinds ≡ old.kinds
  pub cells : new.cells.items ≡ slice_set old.cells.items k a
  pub width : new.width ≡ old.width
  pub within : k < length old.cells.items

pub slot_set : (old new : Heap) (items : Items) (n c i : ℕ) (x : Item) (a : Slot) → Holds old items → IsAt items n x → x.place ≡ c → i < old.width → OneSet old new (c * old.width + i) a
    → Holds new (with_item n (with_slot i a x) items)
slot_set old new items n c i x a holds at place l set =
    with_holds old new items n x (with_slot i a x) holds at refl
    (subst (λ h. rings.Holds h (things_of (with_item n (with_slot i a x) items))) (sym set.places) (subst (rings.Holds old.places) (sym (same_things items n x (with_slot i a x) at refl)) holds.things))
    here others
  where
    shown : (v : Item) → IsShown old v → IsRow new.cells.items (v.place * old.width) old.width v.slots → IsShown new v
    shown v s row = record {
      what = s.what;
      at = ap (λ t. slice_get t.items v.place) set.kinds ∙ s.at;
      kind = s.kind;
      row = subst (λ w. IsRow new.cells.items (v.place * w) w v.slots) (sym set.width) row;
    }

    read : (k : ℕ) → slice_get new.cells.items k ≡ slice_get (slice_set old.cells.items (c * old.width + i) a) k
    read k = ap (λ t. slice_get t k) set.cells

    each_here : (s : IsShown old x) (j : ℕ) → j < old.width → (j ≡ i) ⊎ (j ≢ i) → slice_get (slice_set x.slots i a) j ≡ slice_get new.cells.items (x.place * old.width + j)
    each_here s j m (inl e) =
        ap (slice_get (slice_set x.slots i a)) e ∙ get_same x.slots i a (omega (arith, l, s.row.long))
        ∙ sym (get_same old.cells.items (c * old.width + i) a set.within) ∙ sym (read (c * old.width + i)) ∙ ap (λ d. slice_get new.cells.items (d * old.width + i)) (sym place) ∙ ap (λ d. slice_get new.cells.items (x.place * old.width + d)) (sym e)
    each_here s j m (inr d) =
        get_other x.slots i j a d ∙ s.row.each j m ∙ ap (λ q. slice_get old.cells.items (q * old.width + j)) place
        ∙ sym (get_other old.cells.items (c * old.width + i) (c * old.width + j) a (λ e. d (omega (arith, e)))) ∙ sym (read (c * old.width + j)) ∙ ap (λ q. slice_get new.cells.items (q * old.width + j)) (sym place)

    here : IsShown new (with_slot i a x)
    here = let s = holds.shown n x at in record {
      what = s.what;
      at = ap (λ t. slice_get t.items x.place) set.kinds ∙ s.at;
      kind = record { type = s.kind.type; state = s.kind.state; is_out = s.kind.is_out };
      row = record {
        long = length-set x.slots i a ∙ s.row.long ∙ sym set.width;
        each = λ j m. each_here s j (rw (← set.width) m) (equal_or_not j i) ∙ ap (λ w. slice_get new.cells.items (x.place * w + j)) (sym set.width);
      };
    }

    others : (k : ℕ) (v : Item) → IsAt items k v → k ≢ n → IsShown new v
    others k v at_v other = let s = holds.shown k v at_v in shown v s (record {
      long = s.row.long;
      each = λ j m. s.row.each j m ∙ sym (get_other old.cells.items (c * old.width + i) (v.place * old.width + j) a (rows_apart v.place c old.width j i (λ e. places_apart old items holds n k x v at at_v other (e ∙ sym place)) m l)) ∙ sym (read (v.place * old.width + j));
    })

-- ---- whether an object is there

-- what was made at a place was made there as a thing
thing_made : (items : Items) (c n : ℕ) → IsMadeAt items c n → rings.IsMadeAt (things_of items) c n
thing_made items c n made = record {
  made = rw (length_things items) (made.made);
  place = λ t at. let o = of_thing items n t at in ap (λ z. z.place) (sym o.thing) ∙ made.place o.item o.at;
}

pub there_or_gone : (h : Heap) (items : Items) (c n : ℕ) (b : Bool) → ((ts : Things) → rings.Holds h.places ts → rings.IsMadeAt ts c n → rings.IsThereOrGone b ts n c) → Holds h items → IsMadeAt items c n → IsThereOrGone b items n c
there_or_gone h items c n true is holds made =
    let k = is (things_of items) holds.things (thing_made items c n made) in
    let o = of_thing items n k.thing k.at in
    (o.item, o.at, ap (λ t. t.place) o.thing ∙ k.place)
there_or_gone h items c n false is holds made = gone_at items n (is (things_of items) holds.things (thing_made items c n made))

-- ---- parents

record ItemAt (items : Items) (m : ℕ) : Type 0 where
  item : Item
  at : IsAt items m item

live_parent : (h : Heap) (items : Items) (m : ℕ) (a b : Option ℕ) → IsSettled h.places → Holds h items → ParentIs h.places.places.items a b → b ≡ Some m → ItemAt items m
live_parent h items m None None settled holds parent is = absurd (none-some m is)
live_parent h items m None (Some k) settled holds parent is = absurd parent
live_parent h items m (Some q) None settled holds parent is = absurd parent
live_parent h items m (Some q) (Some k) settled holds parent is =
    let live = live_left parent.0.mark parent.3 (λ d. settled.quiet q parent.0 parent.1 (ap (λ z. home_by z parent.0.parent) d)) in
    let known = holds.things.hold.known q parent.0 parent.1 live in
    let o = of_thing items parent.0.number known.thing known.at in
    record { item = o.item; at = ap (slice_get items) (sym (parent.2 ∙ same_Some k m is)) ∙ o.at }

-- a parent is live, and it is at its place
pub parent_there : (h : Heap) (items : Items) (n c : ℕ) (x : Item) → IsSettled h.places → Holds h items → IsAt items n x → (m : ℕ) → rings.IsParentAt (things_of items) (thing_of x) c m → IsParentAt items x c
parent_there h items n c x settled holds at m parent =
    let s = holds.things.hold.shown n (thing_of x) (thing_at items n (Some x) at) in
    let o = live_parent h items m s.what.parent x.parent settled holds s.parent parent.number in
    record { number = m; is = parent.number; parent = o.item; at = o.at; place = parent.made.place (thing_of o.item) (thing_at items m (Some o.item) o.at) }

-- ---- a new object

get_replicate : {A : Type 0} (n i : ℕ) (a : A) → i < n → slice_get (replicate n a) i ≡ Some a
get_replicate zero i a l = absurd (omega (arith, l))
get_replicate (suc n) zero a l = refl
get_replicate (suc n) (suc i) a l = get_replicate n i a (omega (arith, l))

length_replicate : {A : Type 0} (n : ℕ) (a : A) → length (replicate n a) ≡ n
length_replicate zero a = refl
length_replicate (suc n) a = ap suc (length_replicate n a)

is_le : (m n : ℕ) → m ≤ n → nat_le m n ≡ true
is_le m n l = grind (arith, nat_tests)

is_not_le : (m n : ℕ) → n < m → nat_le m n ≡ false
is_not_le m n l = grind (arith, nat_tests)

next_times : (n w : ℕ) → (n + 1) * w ≡ n * w + w
next_times n w = omega arith

-- the tables after a new object in the place c
pub record NewTables (old new : Heap) (c t : ℕ) : Type 0 where
  pub place : c ≤ places_in old.places
  pub places : places_in new.places ≡ max (places_in old.places) (c + 1)
  pub kind : Kind
  pub here : slice_get new.kinds.items c ≡ Some kind
  pub is : IsKind kind (new_item old.width t c)
  pub kinds : (d : ℕ) → d ≢ c → slice_get new.kinds.items d ≡ slice_get old.kinds.items d
  pub kinds_long : length new.kinds.items ≡ max (length old.kinds.items) (c + 1)
  pub inside : (k : ℕ) → c * old.width ≤ k → k < c * old.width + old.width → slice_get new.cells.items k ≡ Some (Number (pos 0))
  pub outside : (k : ℕ) → (k < c * old.width) ⊎ (c * old.width + old.width ≤ k) → k < length old.cells.items → slice_get new.cells.items k ≡ slice_get old.cells.items k
  pub cells_long : length new.cells.items ≡ max (length old.cells.items) (c * old.width + old.width)
  pub width : new.width ≡ old.width

module _ (old new : Heap) (c t : ℕ) (sound : IsSound old) (tables : NewTables old new c t) where
  pub sound_new : IsSettled new.places → budget_of new.places ≡ budget_of old.places → vec_capacity old.kinds ≤ vec_capacity new.kinds → vec_capacity old.cells ≤ vec_capacity new.cells → IsSound new
  sound_new settled budget kinds_room cells_room = record {
    settled = settled;
    kinds = let l = tables.kinds_long in let p = tables.places in omega (arith, l, p, sound.kinds);
    cells = tables.cells_long ∙ ap (λ n. max n (c * old.width + old.width)) sound.cells ∙ most (places_in old.places) c old.width tables.place ∙ ap (λ n. n * old.width) (sym tables.places) ∙ ap (λ w. places_in new.places * w) (sym tables.width);
    kinds_room = omega (arith, budget, kinds_room, sound.kinds_room);
    cells_room = rw (budget, tables.width) (omega (arith, cells_room, sound.cells_room));
  }
    where
      most : (n c w : ℕ) → c ≤ n → max (n * w) (c * w + w) ≡ max n (c + 1) * w
      most n c w l = by (equal_or_not c n)
        where
          one : (n w : ℕ) → max (n * w) (n * w + w) ≡ max n (n + 1) * w
          one n w =
              let m : max n (n + 1) ≡ n + 1 = omega arith in
              let k : (n + 1) * w ≡ n * w + w = next_times n w in
              rw m (omega (arith, k))

          by : (c ≡ n) ⊎ (c ≢ n) → max (n * w) (c * w + w) ≡ max n (c + 1) * w
          by (inl e) = rw e (one n w)
          by (inr d) =
              let m : max n (c + 1) ≡ n = omega (arith, l, d) in
              let k = row_fits c n w w (omega (arith, l, d)) (omega arith) in
              rw m (omega (arith, k))

  new_shown : IsShown new (new_item old.width t c)
  new_shown = record {
    what = tables.kind;
    at = tables.here;
    kind = tables.is;
    row = subst (λ w. IsRow new.cells.items (c * w) w (replicate old.width (Number (pos 0)))) (sym tables.width) (record {
      long = length_replicate old.width (Number (pos 0));
      each = λ i l. get_replicate old.width i (Number (pos 0)) l ∙ sym (tables.inside (c * old.width + i) (omega arith) (omega (arith, l)));
    });
  }

  old_shown : (v : Item) → v.place < places_in old.places → v.place ≢ c → IsShown old v → IsShown new v
  old_shown v within other s = record {
    what = s.what;
    at = tables.kinds v.place other ∙ s.at;
    kind = s.kind;
    row = subst (λ w. IsRow new.cells.items (v.place * w) w v.slots) (sym tables.width) (record {
      long = s.row.long;
      each = λ j m. s.row.each j m ∙ sym (tables.outside (v.place * old.width + j) (by j m (below_or_above v.place c other)) (let k = row_within v.place (places_in old.places) old.width j within m in omega (arith, k, sound.cells)));
    });
  }
    where
      by : (j : ℕ) → j < old.width → (v.place < c) ⊎ (c < v.place) → (v.place * old.width + j < c * old.width) ⊎ (c * old.width + old.width ≤ v.place * old.width + j)
      by j m (inl l) = inl (row_within v.place c old.width j l m)
      by j m (inr l) = inr (let k = row_fits c v.place old.width old.width l (omega arith) in omega (arith, k))

  pub new_is : (items : Items) (o : Obj) → Holds old items → rings.IsMade (things_of items) c old.places new.places → o.0 ≡ c → made_in old.places < max_made → IsNew items o t old new
  new_is items o holds made place few = record {
    room =
        let live = count_items items in
        let long = length_things items in
        let x : nat_le (budget_of old.places) (live_count items) ≡ false = is_not_le _ _ (let q = made.room in omega (arith, q, live)) in
        let y : nat_le max_made (length items) ≡ false = is_not_le _ _ (omega (arith, few, long, holds.things.made)) in
        rw (x, y) refl;
    holds = subst (λ d. Holds new (items ++ Some (new_item old.width t d) ∷ [])) (sym place) now;
  }
    where
      y : Item
      y = new_item old.width t c

      things : rings.Holds new.places (things_of (items ++ Some y ∷ []))
      things = subst (rings.Holds new.places) (sym (things_new items y)) made.holds

      now : Holds new (items ++ Some y ∷ [])
      now = record {
        things = things;
        shown = λ k v at. shown k v at (get_push items (Some y) k (Some v) at).is;
      }
        where
          apart : (k : ℕ) (v : Item) → IsAt items k v → IsAt (items ++ Some y ∷ []) k v → v.place ≢ c
          apart k v old_at at e =
              let s = things.hold.shown k (thing_of v) (thing_at (items ++ Some y ∷ []) k (Some v) at) in
              let r = things.hold.shown (length items) (thing_of y) (thing_at (items ++ Some y ∷ []) (length items) (Some y) (get_last items (Some y))) in
              let what : s.what ≡ r.what = same_Some s.what r.what (sym s.at ∙ ap (slice_get new.places.places.items) e ∙ r.at) in
              let same : k ≡ length items = sym s.number ∙ ap (λ p. p.number) what ∙ r.number in
              let l = slice_get_within items k (Some v) old_at in omega (arith, same, l)

          shown : (k : ℕ) (v : Item) → IsAt (items ++ Some y ∷ []) k v → (IsAt items k v) ⊎ ((k ≡ length items) × (Some y ≡ Some v)) → IsShown new v
          shown k v at (inl e) = old_shown v (place_within old items holds k v e) (apart k v e at) (holds.shown k v e)
          shown k v at (inr e) = subst (IsShown new) (same_Some y v e.1) new_shown

pub full_of_live : (h : Heap) (items : Items) → budget_of h.places ≤ rings.count_things (things_of items) → is_full (budget_of h.places) items ≡ true
full_of_live h items full =
    let live = count_items items in
    let x : nat_le (budget_of h.places) (live_count items) ≡ true = is_le _ _ (omega (arith, full, live)) in
    rw x refl

pub full_of_made : (h : Heap) (items : Items) → Holds h items → max_made ≤ made_in h.places → is_full (budget_of h.places) items ≡ true
full_of_made h items holds full =
    let long = length_things items in
    let y : nat_le max_made (length items) ≡ true = is_le _ _ (omega (arith, full, long, holds.things.made)) in
    rw y (or_true _)
  where
    or_true : (x : Bool) → (x || true) ≡ true
    or_true true = refl
    or_true false = refl

-- ---- what a caller knows of an object that the heap shows

-- an object without a parent is a root in its place
pub root_at : (h : Heap) (items : Items) → Holds h items → (n : ℕ) (x : Item) (o : Obj) → IsAt items n x → x.place ≡ o.0 → x.parent ≡ None → IsRoot h o
root_at h items holds n x o at place lone p at_p =
    let s = holds.things.hold.shown n (thing_of x) (thing_at items n (Some x) at) in
    let same : s.what ≡ p = same_Some s.what p (sym s.at ∙ ap (slice_get h.places.places.items) place ∙ at_p) in
    by p.parent (subst (λ q. ParentIs h.places.places.items q.parent x.parent) same s.parent) x.parent refl lone
  where
    by : (a : Option ℕ) → ParentIs h.places.places.items a x.parent → (b : Option ℕ) → x.parent ≡ b → b ≡ None → a ≡ None
    by None parent b is none = refl
    by (Some q) parent b is none = absurd (subst (ParentIs h.places.places.items (Some q)) (is ∙ none) parent)

-- an object that isn't out is here in its place
pub here_at : (h : Heap) (items : Items) → Holds h items → (n : ℕ) (x : Item) (o : Obj) → IsAt items n x → x.place ≡ o.0 → x.is_out ≡ false → IsHere h o
here_at h items holds n x o at place here k at_k =
    let s = holds.shown n x at in
    ap (λ q. q.is_out) (same_Some k s.what (sym at_k ∙ ap (slice_get h.kinds.items) (sym place) ∙ s.at)) ∙ s.kind.is_out ∙ here

-- an object with a parent is a child in its place
pub child_at : (h : Heap) (items : Items) → Holds h items → (n m : ℕ) (x : Item) (o : Obj) → IsAt items n x → x.place ≡ o.0 → x.parent ≡ Some m → IsChild h o
child_at h items holds n m x o at place hung p at_p none =
    let s = holds.things.hold.shown n (thing_of x) (thing_at items n (Some x) at) in
    let same : s.what ≡ p = same_Some s.what p (sym s.at ∙ ap (slice_get h.places.places.items) place ∙ at_p) in
    by x.parent (subst (λ a. ParentIs h.places.places.items a x.parent) (ap (λ q. q.parent) same ∙ none) s.parent) hung
  where
    by : (b : Option ℕ) → ParentIs h.places.places.items None b → b ≡ Some m → ⊥
    by None parent is = none-some m is
    by (Some q) parent is = parent
