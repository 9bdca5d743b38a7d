-- One object that a slot owns goes into another one, leaves it, or ends.
use Rattle.std.proofs.Common.{◌≡◌, ◌≢◌, ℕ, Bool, true, false, List, [], ◌∷◌, Some, None, Ok, refl, sym, ap, ◌∙◌, subst, slice_get}
use Rattle.std.proofs.lemmas.Bool.{false≢true}
use Rattle.std.proofs.lemmas.Option.{same_Some}
use Rattle.vlt_core.specs.Core.{Program}
use Rattle.vlt_rings.specs.Things.{IsLiveAt}
use Rattle.vlt_heap.specs.declared.slots.Obj.{Obj}
use Rattle.vlt_heap.specs.declared.slots.Slot.{Slot}
use Rattle.vlt_heap.specs.declared.slots.Slot.TheVariants.{Owned}
use Rattle.vlt_heap.specs.declared.heap.Heap.{Heap}
use Rattle.vlt_heap.specs.Items.{Item, Items, IsAt, IsMadeAt, with_item, with_parent, without}
use Rattle.vlt_heap.specs.Shown.{IsLive, IsChild, IsRoot as IsLone, IsHere, Hangs, Changes, Releases}
use Rattle.vlt_heap.proofs.Listed.{kept_with, kept_without}
use Rattle.vlt_heap.proofs.Calls.{live_at, root_at, here_at, child_at, places_apart}
use Rattle.vlt_meaning.specs.World.{Owner, held, lent, loose, inside, adopted_by, out, gone, is_loose, is_inside, is_gone, is_out, above, Object as Thing, wrong_state}
use Rattle.vlt_meaning.specs.Found.{Named, if_so}
use Rattle.vlt_meaning.specs.Objects.{object_at, owned_at, with_owner, with_changed_object, is_releasable, objects_after_release}
use Rattle.vlt_meaning_laws.proofs.Keeping.{bound}
use Rattle.vlt_acts.specs.Values.Shown.{ShowsObject, ShowObjects}
use Rattle.vlt_acts.proofs.OfValues.Touching.{so_is, object_is, equal_is}
use Rattle.vlt_acts.proofs.OfValues.Fronts.{following}
use Rattle.vlt_acts.proofs.OfActs.Showing.{one_shown, release_shown}
use Rattle.vlt_acts.specs.Objects.Owned.{owned_in, Sees, IsHeldAt, put_in, taken_out, objects_after_drop, CanHang, CanFree, CanDrop, HangsAll, FreesAll, DropsAll}
use Rattle.vlt_acts.proofs.OfObjects.Chains.{same_objects, Owns, owns}

-- ---- what the owner of an object tells

pub loose_is : (o : Owner) → is_loose o ≡ true → o ≡ loose
loose_is (held e j) h = absurd (false≢true h)
loose_is (lent e j) h = absurd (false≢true h)
loose_is loose h = refl
loose_is (inside n) h = absurd (false≢true h)
loose_is (adopted_by n) h = absurd (false≢true h)
loose_is out h = absurd (false≢true h)
loose_is gone h = absurd (false≢true h)

pub inside_is : (n : ℕ) (o : Owner) → is_inside n o ≡ true → o ≡ inside n
inside_is n (held e j) h = absurd (false≢true h)
inside_is n (lent e j) h = absurd (false≢true h)
inside_is n loose h = absurd (false≢true h)
inside_is n (inside m) h = ap inside (sym (equal_is n m h))
inside_is n (adopted_by m) h = absurd (false≢true h)
inside_is n out h = absurd (false≢true h)
inside_is n gone h = absurd (false≢true h)

-- ---- an object that is found by its owner

pub record FoundAt (from : Owner → Bool) (objects : List Thing) (n : ℕ) : Type 0 where
  pub object : Thing
  pub at : slice_get objects n ≡ Some object
  pub test : from object.owner ≡ true

pub found_at : (from : Owner → Bool) (objects : List Thing) (n : ℕ) (m : Named) → owned_at from objects n ≡ Ok m → FoundAt from objects n
found_at from objects n m e =
    let b = bound (object_at objects n) _ m e in
    let s = so_is (from b.0.object.owner) _ b.0 m b.2 in
    record { object = b.0.object; at = (object_is objects n b.0 b.1).1; test = s.0 }

-- the object that a slot owns, as the heap has it
pub record Meets (h : Heap) (items : Items) (width : ℕ) (objects : List Thing) (o : Obj) (n : ℕ) (owner : Owner) : Type 0 where
  pub thing : Thing
  pub object : slice_get objects n ≡ Some thing
  pub owner_is : thing.owner ≡ owner
  pub item : Item
  pub at : IsAt items n item
  pub place : item.place ≡ o.0
  pub shown : ShowsObject items width item thing

pub meets : (h : Heap) (a : List Slot) (s : Sees h a) (o : Obj) (n : ℕ) (owner : Owner) (from : Owner → Bool) → ((q : Owner) → from q ≡ true → q ≡ owner) → is_gone owner ≡ false → IsMadeAt s.items o.0 n → FoundAt from s.objects n → Meets h s.items s.width s.objects o n owner
meets h a s o n owner from says live made f =
    let is = says f.object.owner f.test in
    let b = following s.items s.width n s.objects f.object s.shown f.at (ap is_gone is ∙ live) in
    record { thing = f.object; object = f.at; owner_is = is; item = b.item; at = b.at; place = made.place b.item b.at; shown = b.shown }

module _ (h : Heap) (a : List Slot) (s : Sees h a) (o : Obj) (n : ℕ) (owner : Owner) (m : Meets h s.items s.width s.objects o n owner) where
  pub meets_live : IsLive h o
  meets_live = subst (IsLiveAt h.places) m.place (live_at h s.items s.holds n m.item m.at)

  pub meets_root : above owner ≡ None → IsLone h o
  meets_root lone = root_at h s.items s.holds n m.item o m.at m.place (m.shown.parent ∙ ap above m.owner_is ∙ lone)

  pub meets_child : (p : ℕ) → above owner ≡ Some p → IsChild h o
  meets_child p hung = child_at h s.items s.holds n p m.item o m.at m.place (m.shown.parent ∙ ap above m.owner_is ∙ hung)

  pub meets_here : is_out owner ≡ false → IsHere h o
  meets_here here = here_at h s.items s.holds n m.item o m.at m.place (m.shown.is_out ∙ ap is_out m.owner_is ∙ here)

-- ---- the one that holds it

pub holder_meets : (h : Heap) (a : List Slot) (s : Sees h a) (o : Obj) (n : ℕ) (k : IsHeldAt s.items s.objects n o.0) → Meets h s.items s.width s.objects o n (held k.depth k.key)
holder_meets h a s o n k =
    let b = following s.items s.width n s.objects k.object s.shown k.at (ap is_gone k.owner) in
    record { thing = k.object; object = k.at; owner_is = k.owner; item = b.item; at = b.at; place = k.made.place b.item b.at; shown = b.shown }

-- different owners are those of different objects
owners_apart : (objects : List Thing) (n k : ℕ) (x y : Thing) → slice_get objects n ≡ Some x → slice_get objects k ≡ Some y → is_loose x.owner ≡ true → is_loose y.owner ≡ false → n ≢ k
owners_apart objects n k x y at_x at_y is isnt e =
    absurd (false≢true (sym isnt ∙ ap (λ z. is_loose z.owner) (same_Some y x (sym at_y ∙ ap (slice_get objects) (sym e) ∙ at_x)) ∙ is))

-- ---- in

-- what `own` asks
pub record Needs (h : Heap) (o q : Obj) : Type 0 where
  pub live : IsLive h o
  pub root : IsLone h o
  pub here : IsHere h o
  pub parent_live : IsLive h q
  pub parent_root : IsLone h q
  pub other : o.0 ≢ q.0

module _ (h : Heap) (a : Slot) (q o : Obj) (k : ℕ) (e : a ≡ Owned o k) where
  one_in : (s : Sees h (a ∷ [])) (n : ℕ) (after : List Thing) → put_in n (owned_in s.parts) s.objects ≡ Ok after → (w : Owns s.items o s.parts) → FoundAt is_loose s.objects w.number × (with_changed_object w.number (with_owner (inside n)) s.objects ≡ after)
  one_in s n after is w =
      let b = bound (owned_at is_loose s.objects w.number) _ after (ap (λ z. put_in n z s.objects) (sym w.is) ∙ is) in
      (found_at is_loose s.objects w.number b.0 b.1, same_objects b.2)

  pub hang_needs : CanHang h (a ∷ []) q → Needs h o q
  hang_needs c =
      let s = c.can.sees in
      let w = owns s.items a o k s.parts e s.have in
      let f = (one_in s c.number c.can.after c.can.is w).0 in
      let m = meets h (a ∷ []) s o w.number loose is_loose loose_is refl w.made f in
      let p = holder_meets h (a ∷ []) s q c.number c.holder in
      record {
        live = meets_live h (a ∷ []) s o w.number loose m;
        root = meets_root h (a ∷ []) s o w.number loose m refl;
        here = meets_here h (a ∷ []) s o w.number loose m refl;
        parent_live = meets_live h (a ∷ []) s q c.number _ p;
        parent_root = meets_root h (a ∷ []) s q c.number _ p refl;
        other = λ same. places_apart h s.items s.holds c.number w.number p.item m.item p.at m.at
            (owners_apart s.objects w.number c.number m.thing p.thing m.object p.object (ap is_loose m.owner_is) (ap is_loose p.owner_is)) (m.place ∙ same ∙ sym p.place);
      }

  pub hang_does : (new : Heap) → Hangs o q h new → HangsAll (a ∷ []) q h new
  hang_does new hangs s n after holder is =
      let w = owns s.items a o k s.parts e s.have in
      let f = one_in s n after is w in
      let m = meets h (a ∷ []) s o w.number loose is_loose loose_is refl w.made f.0 in
      let p = holder_meets h (a ∷ []) s q n holder in
      let y = with_parent (Some n) m.item in
      let keep = kept_with s.items w.number m.item y m.at refl in
      record {
        items = with_item w.number y s.items;
        holds = hangs s.items w.number m.item s.holds m.at m.place n p.item p.at p.place;
        shown = subst (ShowObjects (with_item w.number y s.items) s.width) f.1 (one_shown s.items s.width w.number s.objects m.item y m.thing (with_owner (inside n)) keep s.shown m.at m.object
            (record { live = refl; type = m.shown.type; state = m.shown.state; parent = refl; is_out = m.shown.is_out ∙ ap is_out m.owner_is; cells = m.shown.cells }));
        kept = keep;
      }

-- ---- out

module _ (h : Heap) (a : Slot) (o : Obj) (k : ℕ) (e : a ≡ Owned o k) where
  one_out : (s : Sees h (a ∷ [])) (n : ℕ) (after : List Thing) → taken_out n (owned_in s.parts) s.objects ≡ Ok after → (w : Owns s.items o s.parts) → FoundAt (is_inside n) s.objects w.number × (with_changed_object w.number (with_owner loose) s.objects ≡ after)
  one_out s n after is w =
      let b = bound (owned_at (is_inside n) s.objects w.number) _ after (ap (λ z. taken_out n z s.objects) (sym w.is) ∙ is) in
      (found_at (is_inside n) s.objects w.number b.0 b.1, same_objects b.2)

  pub free_live : CanFree h (a ∷ []) → IsLive h o
  free_live c =
      let s = c.can.sees in
      let w = owns s.items a o k s.parts e s.have in
      meets_live h (a ∷ []) s o w.number (inside c.number) (meets h (a ∷ []) s o w.number (inside c.number) (is_inside c.number) (inside_is c.number) refl w.made (one_out s c.number c.can.after c.can.is w).0)

  pub free_child : CanFree h (a ∷ []) → IsChild h o
  free_child c =
      let s = c.can.sees in
      let w = owns s.items a o k s.parts e s.have in
      meets_child h (a ∷ []) s o w.number (inside c.number) (meets h (a ∷ []) s o w.number (inside c.number) (is_inside c.number) (inside_is c.number) refl w.made (one_out s c.number c.can.after c.can.is w).0) c.number refl

  pub free_does : (new : Heap) → Changes o (with_parent None) h new → FreesAll (a ∷ []) h new
  free_does new changes n s after is =
      let w = owns s.items a o k s.parts e s.have in
      let f = one_out s n after is w in
      let m = meets h (a ∷ []) s o w.number (inside n) (is_inside n) (inside_is n) refl w.made f.0 in
      let y = with_parent None m.item in
      let keep = kept_with s.items w.number m.item y m.at refl in
      record {
        items = with_item w.number y s.items;
        holds = changes s.items w.number m.item s.holds m.at m.place;
        shown = subst (ShowObjects (with_item w.number y s.items) s.width) f.1 (one_shown s.items s.width w.number s.objects m.item y m.thing (with_owner loose) keep s.shown m.at m.object
            (record { live = refl; type = m.shown.type; state = m.shown.state; parent = refl; is_out = m.shown.is_out ∙ ap is_out m.owner_is; cells = m.shown.cells }));
        kept = keep;
      }

-- ---- the end

module _ (h : Heap) (a : Slot) (o : Obj) (k : ℕ) (e : a ≡ Owned o k) where
  one_ends : (s : Sees h (a ∷ [])) (p : Program) (after : List Thing) → objects_after_drop p (owned_in s.parts) s.objects ≡ Ok after → (w : Owns s.items o s.parts) → FoundAt is_loose s.objects w.number × (objects_after_release w.number s.objects ≡ after)
  one_ends s p after is w =
      let b = bound (owned_at is_loose s.objects w.number) _ after (ap (λ z. objects_after_drop p z s.objects) (sym w.is) ∙ is) in
      let d = bound (if_so (is_releasable p s.objects w.number) wrong_state b.0) _ after b.2 in
      (found_at is_loose s.objects w.number b.0 b.1, same_objects d.2)

  ends_meets : (c : CanDrop h (a ∷ [])) → (w : Owns c.can.sees.items o c.can.sees.parts) → Meets h c.can.sees.items c.can.sees.width c.can.sees.objects o w.number loose
  ends_meets c w = meets h (a ∷ []) c.can.sees o w.number loose is_loose loose_is refl w.made (one_ends c.can.sees c.program c.can.after c.can.is w).0

  pub drop_live : CanDrop h (a ∷ []) → IsLive h o
  drop_live c = let w = owns c.can.sees.items a o k c.can.sees.parts e c.can.sees.have in meets_live h (a ∷ []) c.can.sees o w.number loose (ends_meets c w)

  pub drop_root : CanDrop h (a ∷ []) → IsLone h o
  drop_root c = let w = owns c.can.sees.items a o k c.can.sees.parts e c.can.sees.have in meets_root h (a ∷ []) c.can.sees o w.number loose (ends_meets c w) refl

  pub drop_here : CanDrop h (a ∷ []) → IsHere h o
  drop_here c = let w = owns c.can.sees.items a o k c.can.sees.parts e c.can.sees.have in meets_here h (a ∷ []) c.can.sees o w.number loose (ends_meets c w) refl

  pub drop_does : (new : Heap) → Releases o h new → DropsAll (a ∷ []) h new
  drop_does new releases p s after is =
      let w = owns s.items a o k s.parts e s.have in
      let f = one_ends s p after is w in
      let m = meets h (a ∷ []) s o w.number loose is_loose loose_is refl w.made f.0 in
      record {
        items = without w.number s.items;
        holds = releases s.items w.number m.item s.holds m.at m.place;
        shown = subst (ShowObjects (without w.number s.items) s.width) f.1 (release_shown s.items s.width w.number s.objects s.shown);
        kept = kept_without s.items w.number;
      }
