-- What a focus comes to.
use Rattle.std.proofs.Common.{◌≡◌, ◌≢◌, ℕ, ◌<◌, ◌≤◌, ◌==◌, true, List, Some, None, Ok, Err, refl, sym, ap, ◌∙◌, subst, arith, slice_get}
use Rattle.std.proofs.lemmas.Bool.{false≢true}
use Rattle.std.proofs.lemmas.Bool.Decides.{nat_tests}
use Rattle.std.proofs.lemmas.Option.{none-some, same_Some}
use Rattle.vlt_core.specs.Lookups.{Reference}
use Rattle.vlt_rings.specs.Things.{IsLiveAt}
use Rattle.vlt_heap.specs.declared.slots.Obj.{Obj}
use Rattle.vlt_heap.specs.declared.slots.Slot.{Slot}
use Rattle.vlt_heap.specs.declared.slots.Slot.TheVariants.{Object}
use Rattle.vlt_heap.specs.declared.heap.Heap.{Heap}
use Rattle.vlt_heap.specs.Items.{Item, Items, IsAt, IsMadeAt, with_item, with_parent}
use Rattle.vlt_heap.specs.Shown.{IsLive, IsChild, IsRoot as IsLone, IsHere, IsParentAt, ForObject, Changes, Hangs}
use Rattle.vlt_heap.proofs.Listed.{kept_with, made_at}
use Rattle.vlt_heap.proofs.Calls.{live_at, root_at, here_at, child_at, places_apart}
use Rattle.vlt_meaning.specs.World.{one, reference, Owner, held, lent, loose, inside, adopted_by, out, gone, is_adopted_by, is_held_under, is_lent_under, above, is_out, Object as Thing, World, Frame, not_guarded, not_held, no_value}
use Rattle.vlt_meaning.specs.Found as sd
use Rattle.vlt_meaning.specs.Found.{Named, or_fault}
use Rattle.vlt_meaning.specs.Objects.{object_at, with_owner, with_changed_object}
use Rattle.vlt_meaning.specs.Values.{held_object, guarded_object, reference_in}
use Rattle.vlt_meaning.specs.Step.{with_key}
use Rattle.vlt_meaning_laws.proofs.Keeping.{bound, change_elsewhere}
use Rattle.vlt_acts.specs.declared.values.values.Values.{Values}
use Rattle.vlt_acts.specs.Values.Parts.{IsObject}
use Rattle.vlt_acts.specs.Values.Filled.{IsFilled, IsSingleSlot}
use Rattle.vlt_acts.specs.Values.Shown.{ShowsObject, ShowObjects, ShowsFrame, var_at, Seen, IsKept, IsKeySet}
use Rattle.vlt_acts.proofs.OfValues.Touching.{Touched, IsHeld, IsRoot, guarded_is, held_is, so_is, object_is}
use Rattle.vlt_acts.proofs.OfValues.Fronts.{IsSlotAt, IsNoObject, following, referred}
use Rattle.vlt_acts.proofs.OfValues.Fronts as fronts
use Rattle.vlt_acts.proofs.OfValues.Pushing.{owner_shown}
use Rattle.vlt_acts.specs.Acts.Focus.{FindsFocus, CanFocus, HasFocused, focused_frame, focused_world, FindsEnd, CanEnd, HasEnded}
use Rattle.vlt_acts.proofs.OfActs.Keeping.{frame_kept, single_at, assigned}
use Rattle.vlt_acts.proofs.OfActs.Showing.{one_shown}
use Rattle.vlt_acts.proofs.OfActs.Naming.{named_shown}

-- ---- the object and its adopter

same_named : {n m : Named} → ◌≡◌ {A = sd.Found Named} (Ok n) (Ok m) → n ≡ m
same_named {n = n} e = ap of_ok e
  where
    of_ok : sd.Found Named → Named
    of_ok (Ok k) = k
    of_ok (Err o) = n

adopted_is : (n : ℕ) (o : Owner) → is_adopted_by n o ≡ true → o ≡ adopted_by n
adopted_is n (held e j) h = absurd (false≢true h)
adopted_is n (lent e j) h = absurd (false≢true h)
adopted_is n loose h = absurd (false≢true h)
adopted_is n (inside m) h = absurd (false≢true h)
adopted_is n (adopted_by m) h = ap adopted_by (sym (equal_is n m h))
  where
    equal_is : (n m : ℕ) → (n == m) ≡ true → n ≡ m
    equal_is n m e = grind (arith, nat_tests)
adopted_is n out h = absurd (false≢true h)
adopted_is n gone h = absurd (false≢true h)

owner_is : (g : Reference) (y : ℕ) (frame : Frame) (objects : List Thing) (a n : Named) → held_object g.key frame objects ≡ Ok a → guarded_object g y frame objects ≡ Ok n → n.object.owner ≡ adopted_by a.number
owner_is g y frame objects a n is_a is_n =
    let b = bound (held_object g.key frame objects) _ n is_n in
    let r = bound (reference_in (frame.vars y)) _ n b.2 in
    let d = bound (object_at objects r.0) _ n r.2 in
    let s = so_is (is_adopted_by b.0.number d.0.object.owner) not_guarded d.0 n d.2 in
    ap (λ q. q.object.owner) (sym s.1) ∙ adopted_is b.0.number d.0.object.owner s.0 ∙ ap (λ q. adopted_by q.number) (same_named (sym b.1 ∙ is_a))

-- the object as the heap has it
pub record Met (h : Heap) (v : Values) (c : Seen h v) (w : World) (a n : Named) (o : Obj) : Type 0 where
  pub item : Item
  pub at : IsAt c.items n.number item
  pub place : item.place ≡ o.0
  pub shown : ShowsObject c.items v.width item n.object
  pub object : slice_get w.objects n.number ≡ Some n.object
  pub owner : n.object.owner ≡ adopted_by a.number
  pub parent : item.parent ≡ Some a.number
  pub made : IsMadeAt c.items o.0 n.number
  pub adopter : slice_get w.objects a.number ≡ Some a.object

pub record At (number : ℕ) (h : Heap) (v : Values) (c : Seen h v) (w : World) (a n : Named) (o : Obj) : Type 0 where
  pub met : Met h v c w a n o
  pub is : number ≡ n.number

pub met_focus : (h : Heap) (v : Values) (c : Seen h v) (w : World) (y z : ℕ) → w.objects ≡ c.objects → (f : FindsFocus h v c w y z) → (s : Slot) → IsSlotAt v.slots.items (var_at v y) s → (o : Obj) (k : ℕ) → s ≡ Object o k → At k h v c w f.adopter f.object o
met_focus h v c w y z same f s is o k e =
    let t = subst (λ os. Touched y c.frame os f.object) same (guarded_is f.guard y c.frame w.objects f.object f.is_object) in
    let a = held_is f.guard.key c.frame w.objects f.adopter f.is_adopter in
    let owner = owner_is f.guard y c.frame w.objects f.adopter f.object f.is_adopter f.is_object in
    let ref = referred h v c y s is f.object t in
    let q = fronts.same_object (sym e ∙ ref.is) in
    let b = following c.items v.width f.object.number c.objects f.object.object c.shown t.at t.live in
    let made : IsMadeAt c.items o.0 f.object.number = subst (λ z. IsMadeAt c.items z.0 f.object.number) (sym q.0) ref.made in
    record {
      met = record {
        item = b.item;
        at = b.at;
        place = made.place b.item b.at;
        shown = b.shown;
        object = ap (λ os. slice_get os f.object.number) same ∙ t.at;
        owner = owner;
        parent = b.shown.parent ∙ ap above owner;
        made = made;
        adopter = a.at;
      };
      is = q.1;
    }

pub met_live : (h : Heap) (v : Values) (c : Seen h v) (w : World) (a n : Named) (o : Obj) → Met h v c w a n o → IsLive h o
met_live h v c w a n o m = subst (IsLiveAt h.places) m.place (live_at h c.items c.holds n.number m.item m.at)

pub met_child : (h : Heap) (v : Values) (c : Seen h v) (w : World) (a n : Named) (o : Obj) → Met h v c w a n o → IsChild h o
met_child h v c w a n o m = child_at h c.items c.holds n.number a.number m.item o m.at m.place m.parent

pub no_focus : (h : Heap) (v : Values) (y z : ℕ) → CanFocus h v y z → (s : Slot) → IsSlotAt v.slots.items (var_at v y) s → IsNoObject s → ⊥
no_focus h v y z q s is none =
    let t = subst (λ os. Touched y q.seen.frame os q.finds.object) q.objects (guarded_is q.finds.guard y q.seen.frame q.world.objects q.finds.object q.finds.is_object) in
    let ref = referred h v q.seen y s is q.finds.object t in
    none ref.object q.finds.object.number ref.is

-- ---- where the block begins

pub focus_does : (old new : Heap) (v mid u : Values) (c : Seen old v) (w : World) (y z to : ℕ) (same : w.objects ≡ c.objects) (f : FindsFocus old v c w y z) (s : Slot) (o p : Obj) (k : ℕ) → IsSlotAt v.slots.items (var_at v y) s → s ≡ Object o k
    → z < v.vars → 1 ≤ v.width → (key : ℕ) → key ≡ f.key.key → IsKeySet key (Object o k) v mid → to ≡ var_at mid z → IsKept to mid u → IsFilled (IsSingleSlot (Object o k)) u.slots.items to mid.width
    → ForObject old o (λ items n x. IsParentAt items x p.0) → Changes o (with_parent None) old new
    → HasFocused c.items new u (focused_frame f.key.key f.object.number z c.frame) (focused_world c.frame.depth f.guard.key f.key.key f.adopter.number f.object.number w) o p f.object.number f.adopter.number
focus_does old new v mid u c w y z to same f s o p k is e within wide key is_key set is_to kept filled parent changes = record {
  shows = record {
    items = items;
    holds = changes c.items f.object.number m.item c.holds m.at m.place;
    objects_shown = subst (λ q. ShowObjects items q (with_changed_object f.object.number (with_owner (held c.frame.depth f.key.key)) lent_objects)) (sym width)
        (one_shown c.items v.width f.object.number lent_objects m.item (with_parent None m.item) f.object.object (with_owner (held c.frame.depth f.key.key)) keep
        (owner_shown c.items v.width f.adopter.number w.objects f.adopter.object (lent c.frame.depth f.guard.key) (subst (ShowObjects c.items v.width) (sym same) c.shown) a.at (sym a.root.live) (sym a.root.above) (sym a.root.here))
        m.at (change_elsewhere w.objects f.adopter.number (with_owner (lent c.frame.depth f.guard.key)) f.object.number apart ∙ m.object)
        (record { live = refl; type = m.shown.type; state = m.shown.state; parent = refl; is_out = m.shown.is_out ∙ ap is_out m.owner; cells = m.shown.cells }));
    frame_shown = assigned items mid u _ z (one (reference f.object.number)) (subst (λ q. z < q) (sym set.vars) within) (subst (λ q. IsKept q mid u) is_to kept)
        (single_at items u.slots.items to (var_at mid z) mid.width u.width (Object o k) (reference f.object.number) is_to kept.width (subst (λ q. 1 ≤ q) (sym set.width) wide) ref filled)
        (subst (λ q. named_frame q) is_key (named_shown items v mid c.frame key f.object.number (Object o k) set ref (frame_kept c.items items v c.frame keep c.fits)));
    kept = keep;
  };
  object_made = keep o.0 f.object.number m.made;
  adopter_made = keep p.0 f.adopter.number adopter;
}
  where
    q : At k old v c w f.adopter f.object o
    q = met_focus old v c w y z same f s is o k e

    m : Met old v c w f.adopter f.object o
    m = q.met

    a : IsHeld f.guard.key c.frame w.objects f.adopter
    a = held_is f.guard.key c.frame w.objects f.adopter f.is_adopter

    items : Items
    items = with_item f.object.number (with_parent None m.item) c.items

    keep : (b j : ℕ) → IsMadeAt c.items b j → IsMadeAt items b j
    keep = kept_with c.items f.object.number m.item (with_parent None m.item) m.at refl

    lent_objects : List Thing
    lent_objects = with_changed_object f.adopter.number (with_owner (lent c.frame.depth f.guard.key)) w.objects

    width : u.width ≡ v.width
    width = kept.width ∙ set.width

    ref : IsObject items f.object.number (Object o k)
    ref = record { object = o; is = ap (Object o) q.is; made = keep o.0 f.object.number m.made }

    -- the adopter is another one, since it is held
    apart : f.object.number ≢ f.adopter.number
    apart same_number =
        let one_object : f.object.object ≡ f.adopter.object = same_Some _ _ (sym m.object ∙ ap (slice_get w.objects) same_number ∙ a.at) in
        none-some f.adopter.number (sym a.root.above ∙ ap (λ x. above x.owner) (sym one_object) ∙ ap above m.owner)

    adopter : IsMadeAt c.items p.0 f.adopter.number
    adopter =
        let r = parent c.items f.object.number m.item c.holds m.at m.place in
        let number : r.number ≡ f.adopter.number = same_Some _ _ (sym r.is ∙ m.parent) in
        subst (IsMadeAt c.items p.0) number (subst (λ d. IsMadeAt c.items d r.number) r.place (made_at c.items r.number r.parent r.at))

    named_frame : ℕ → Type 0
    named_frame j = ShowsFrame items mid (with_key j f.object.number c.frame)

-- ---- where the block ends

lent_root : (d k : ℕ) (o : Owner) → is_lent_under d k o ≡ true → IsRoot o
lent_root d k (lent e j) h = record { live = refl; above = refl; here = refl }
lent_root d k (held e j) h = absurd (false≢true h)
lent_root d k loose h = absurd (false≢true h)
lent_root d k (inside n) h = absurd (false≢true h)
lent_root d k (adopted_by n) h = absurd (false≢true h)
lent_root d k out h = absurd (false≢true h)
lent_root d k gone h = absurd (false≢true h)

held_not_lent : (d k e j : ℕ) (o : Owner) → is_held_under d k o ≡ true → is_lent_under e j o ≡ true → ⊥
held_not_lent d k e j (held a b) h l = false≢true l
held_not_lent d k e j (lent a b) h l = false≢true h
held_not_lent d k e j loose h l = false≢true h
held_not_lent d k e j (inside n) h l = false≢true h
held_not_lent d k e j (adopted_by n) h l = false≢true h
held_not_lent d k e j out h l = false≢true h
held_not_lent d k e j gone h l = false≢true h

held_owner : (k : ℕ) (frame : Frame) (objects : List Thing) (m : Named) → held_object k frame objects ≡ Ok m → is_held_under frame.depth k m.object.owner ≡ true
held_owner k frame objects m e =
    let a = bound (or_fault no_value (frame.keys k)) _ m e in
    let b = bound (object_at objects a.0) _ m a.2 in
    let s = so_is (is_held_under frame.depth k b.0.object.owner) not_held b.0 m b.2 in
    subst (λ q. is_held_under frame.depth k q.object.owner ≡ true) s.1 s.0

-- both objects as the heap has them
pub record Ends (h : Heap) (v : Values) (c : Seen h v) (w : World) (object adopter : Obj) (n a : ℕ) : Type 0 where
  pub item : Item
  pub thing : Thing
  pub at : IsAt c.items n item
  pub place : item.place ≡ object.0
  pub shown : ShowsObject c.items v.width item thing
  pub object_at : slice_get w.objects n ≡ Some thing
  pub root : IsRoot thing.owner
  pub parent : Item
  pub parent_thing : Thing
  pub parent_at : IsAt c.items a parent
  pub parent_place : parent.place ≡ adopter.0
  pub parent_shown : ShowsObject c.items v.width parent parent_thing
  pub parent_object_at : slice_get w.objects a ≡ Some parent_thing
  pub parent_root : IsRoot parent_thing.owner
  pub other : n ≢ a

pub ends_met : (h : Heap) (v : Values) (c : Seen h v) (w : World) (o p : Obj) → w.objects ≡ c.objects → (f : FindsEnd h v c w o p) → Ends h v c w o p f.number f.adopter_number
ends_met h v c w o p same f =
    let held = held_is f.key c.frame w.objects f.object_named f.is_object in
    let at_n : slice_get w.objects f.number ≡ Some f.object_named.object = ap (slice_get w.objects) (sym f.is_number) ∙ held.at in
    let b = bound (object_at w.objects f.adopter_number) _ f.adopter_named f.is_adopter in
    let s = so_is (is_lent_under c.frame.depth f.guard b.0.object.owner) not_held b.0 f.adopter_named b.2 in
    let at_a = (object_is w.objects f.adopter_number b.0 b.1).1 in
    let root = lent_root c.frame.depth f.guard b.0.object.owner s.0 in
    let x = following c.items v.width f.number c.objects f.object_named.object c.shown (ap (λ os. slice_get os f.number) (sym same) ∙ at_n) held.root.live in
    let y = following c.items v.width f.adopter_number c.objects b.0.object c.shown (ap (λ os. slice_get os f.adopter_number) (sym same) ∙ at_a) root.live in
    record {
      item = x.item;
      thing = f.object_named.object;
      at = x.at;
      place = f.object_made.place x.item x.at;
      shown = x.shown;
      object_at = at_n;
      root = held.root;
      parent = y.item;
      parent_thing = b.0.object;
      parent_at = y.at;
      parent_place = f.adopter_made.place y.item y.at;
      parent_shown = y.shown;
      parent_object_at = at_a;
      parent_root = root;
      other = λ e.
          let q : f.object_named.object ≡ b.0.object = same_Some _ _ (sym at_n ∙ ap (slice_get w.objects) e ∙ at_a) in
          held_not_lent c.frame.depth f.key c.frame.depth f.guard b.0.object.owner (subst (λ u. is_held_under c.frame.depth f.key u.owner ≡ true) q (held_owner f.key c.frame w.objects f.object_named f.is_object)) s.0;
    }

-- what `unfocus` asks of the object and of its adopter
pub record Needs (h : Heap) (o q : Obj) : Type 0 where
  pub live : IsLive h o
  pub root : IsLone h o
  pub here : IsHere h o
  pub parent_live : IsLive h q
  pub parent_root : IsLone h q
  pub other : o.0 ≢ q.0

pub end_needs : (h : Heap) (v : Values) (o p : Obj) → CanEnd h v o p → Needs h o p
end_needs h v o p q =
    let c = q.seen in
    let m = ends_met h v c q.world o p q.objects q.finds in
    record {
      live = subst (IsLiveAt h.places) m.place (live_at h c.items c.holds q.finds.number m.item m.at);
      root = root_at h c.items c.holds q.finds.number m.item o m.at m.place (m.shown.parent ∙ m.root.above);
      here = here_at h c.items c.holds q.finds.number m.item o m.at m.place (m.shown.is_out ∙ m.root.here);
      parent_live = subst (IsLiveAt h.places) m.parent_place (live_at h c.items c.holds q.finds.adopter_number m.parent m.parent_at);
      parent_root = root_at h c.items c.holds q.finds.adopter_number m.parent p m.parent_at m.parent_place (m.parent_shown.parent ∙ m.parent_root.above);
      other = λ e. places_apart h c.items c.holds q.finds.adopter_number q.finds.number m.parent m.item m.parent_at m.at m.other (m.place ∙ e ∙ sym m.parent_place);
    }

pub end_does : (old new : Heap) (v : Values) (c : Seen old v) (w : World) (o p : Obj) → w.objects ≡ c.objects → (f : FindsEnd old v c w o p) → Hangs o p old new → HasEnded old v c w o p f new
end_does old new v c w o p same f hangs =
    let m = ends_met old v c w o p same f in
    let items : Items = with_item f.number (with_parent (Some f.adopter_number) m.item) c.items in
    let keep = kept_with c.items f.number m.item (with_parent (Some f.adopter_number) m.item) m.at refl in
    record {
      items = items;
      holds = hangs c.items f.number m.item c.holds m.at m.place f.adopter_number m.parent m.parent_at m.parent_place;
      objects_shown = owner_shown items v.width f.adopter_number (with_changed_object f.number (with_owner (adopted_by f.adopter_number)) w.objects) m.parent_thing (held c.frame.depth f.guard)
          (one_shown c.items v.width f.number w.objects m.item (with_parent (Some f.adopter_number) m.item) m.thing (with_owner (adopted_by f.adopter_number)) keep (subst (ShowObjects c.items v.width) (sym same) c.shown) m.at m.object_at
          (record { live = refl; type = m.shown.type; state = m.shown.state; parent = refl; is_out = m.shown.is_out ∙ m.root.here; cells = m.shown.cells }))
          (change_elsewhere w.objects f.number (with_owner (adopted_by f.adopter_number)) f.adopter_number (λ e. m.other (sym e)) ∙ m.parent_object_at)
          (sym m.parent_root.live) (sym m.parent_root.above) (sym m.parent_root.here);
      frame_shown = frame_kept c.items items v c.frame keep c.fits;
      kept = keep;
    }
