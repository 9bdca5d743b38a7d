-- Objects that go out.
use Rattle.std.proofs.Common.{◌≡◌, ◌+◌, ℕ, Bool, true, false, ◌&&◌, not, if◌then◌else◌, List, [], ◌∷◌, ◌++◌, None, Some, Ok, Err, refl, sym, ap, ◌∙◌, subst, append-nil, slice_get}
use Rattle.std.specs.Option.{option_to_list, option_and_then}
use Rattle.std.proofs.lemmas.Bool.{false≢true}
use Rattle.std.proofs.lemmas.Option.{none-some}
use Rattle.vlt_core.specs.Core.{Entry}
use Rattle.vlt_core.specs.Lookups.{is_held_before, is_held_after}
use Rattle.vlt_rings.specs.Things.{IsLiveAt}
use Rattle.vlt_heap.specs.declared.slots.Obj.{Obj}
use Rattle.vlt_heap.specs.declared.slots.Slot.{Slot}
use Rattle.vlt_heap.specs.declared.slots.Slot.TheVariants.{Object}
use Rattle.vlt_heap.specs.declared.heap.Heap.{Heap}
use Rattle.vlt_heap.specs.Items.{Items, IsMadeAt, with_item, with_out}
use Rattle.vlt_heap.specs.Shown.{IsLive, IsRoot as IsLone, IsHere, Changes}
use Rattle.vlt_heap.proofs.Listed.{kept_with}
use Rattle.vlt_heap.proofs.Calls.{live_at, root_at, here_at}
use Rattle.vlt_meaning.specs.World.{Owner, held, lent, loose, inside, adopted_by, out, gone, is_gone, is_out, above, is_at, is_loose, Object as Thing, Frame, not_owned}
use Rattle.vlt_meaning.specs.Found.{Found, ◌>>=◌}
use Rattle.vlt_meaning.specs.Objects.{object_at, owned_at, with_owner, with_changed_object, objects_after_move}
use Rattle.vlt_meaning.specs.Calls.{caller_object}
use Rattle.vlt_meaning.specs.Externals.{is_taken, taken_objects}
use Rattle.vlt_meaning_laws.proofs.Keeping.{bound}
use Rattle.vlt_acts.specs.declared.values.values.Values.{Values}
use Rattle.vlt_acts.specs.Values.Parts.{IsObject}
use Rattle.vlt_acts.specs.Values.Shown.{Seen, key_at}
use Rattle.vlt_acts.proofs.OfValues.Touching.{so_is, object_is}
use Rattle.vlt_acts.proofs.OfValues.Fronts.{IsSlotAt, has_part, following, Following, same_object}
use Rattle.vlt_acts.specs.Acts.Acts.{Shows}
use Rattle.vlt_acts.proofs.OfActs.Keeping.{frame_kept}
use Rattle.vlt_acts.proofs.OfActs.Showing.{one_shown}
use Rattle.vlt_acts.specs.Frames.Left.{IsRootAt}
use Rattle.vlt_externals.specs.Sent.{ShowsAll, CanGo, Goes, IsNamed, AreNamed, taken_out, CanTake, Takes}

-- ---- one object

module _ (h : Heap) (o : Obj) (g : CanGo h o) where
  at_it : Following g.items g.width g.number g.root.object
  at_it = following g.items g.width g.number g.objects g.root.object g.shown g.root.at g.root.live

  pub go_live : IsLive h o
  go_live = subst (IsLiveAt h.places) (g.made.place at_it.item at_it.at) (live_at h g.items g.holds g.number at_it.item at_it.at)

  pub go_root : IsLone h o
  go_root = root_at h g.items g.holds g.number at_it.item o at_it.at (g.made.place at_it.item at_it.at) (at_it.shown.parent ∙ g.root.root)

  pub go_here : IsHere h o
  go_here = here_at h g.items g.holds g.number at_it.item o at_it.at (g.made.place at_it.item at_it.at) (at_it.shown.is_out ∙ g.root.here)

pub goes_out : (old new : Heap) (o : Obj) → Changes o (with_out true) old new → Goes o old new
goes_out old new o changes items width objects n holds shown root made =
    let b = following items width n objects root.object shown root.at root.live in
    let keep = kept_with items n b.item (with_out true b.item) b.at refl in
    record {
      items = with_item n (with_out true b.item) items;
      holds = changes items n b.item holds b.at (made.place b.item b.at);
      shown = one_shown items width n objects b.item (with_out true b.item) root.object (with_owner out) keep shown b.at root.at
          (record { live = refl; type = b.shown.type; state = b.shown.state; parent = b.shown.parent ∙ root.root; is_out = refl; cells = b.shown.cells });
      kept = keep;
    }

-- the frame is shown still
pub all_shown : (old new : Heap) (values : Values) (c : Seen old values) (objects : List Thing) → ShowsAll c.items new values.width objects → Shows c.items new values c.frame objects
all_shown old new values c objects s = record {
  items = s.items;
  holds = s.holds;
  objects_shown = s.shown;
  frame_shown = frame_kept c.items s.items values c.frame s.kept c.fits;
  kept = s.kept;
}

-- where it is gone on from
abbrev pub seen_after : (old new : Heap) (values : Values) (c : Seen old values) (objects : List Thing) → Shows c.items new values c.frame objects → Seen new values
seen_after old new values c objects s = record {
  program = c.program;
  func = c.func;
  frame = c.frame;
  objects = objects;
  items = s.items;
  holds = s.holds;
  shown = s.objects_shown;
  fits = s.frame_shown;
}

pub shows_twice : (old between new : Heap) (values : Values) (c : Seen old values) (mid after : List Thing) (s : Shows c.items between values c.frame mid) → Shows s.items new values c.frame after → Shows c.items new values c.frame after
shows_twice old between new values c mid after s t = record {
  items = t.items;
  holds = t.holds;
  objects_shown = t.objects_shown;
  frame_shown = t.frame_shown;
  kept = λ k n made. t.kept k n (s.kept k n made);
}

pub shows_same : (h : Heap) (values : Values) (c : Seen h values) → Shows c.items h values c.frame c.objects
shows_same h values c = record { items = c.items; holds = c.holds; objects_shown = c.shown; frame_shown = c.fits; kept = λ k n made. made }

-- ---- objects that get another owner, one after another

pub record IsMoved (from : Owner → Bool) (to : Owner) (n : ℕ) (objects after : List Thing) : Type 0 where
  pub object : Thing
  pub at : slice_get objects n ≡ Some object
  pub passes : from object.owner ≡ true
  pub is : with_changed_object n (with_owner to) objects ≡ after

abbrev objects_or : List Thing → Found (List Thing) → List Thing
objects_or d (Ok xs) = xs
objects_or d (Err o) = d

pub same_found : (xs ys : List Thing) → ◌≡◌ {A = Found (List Thing)} (Ok xs) (Ok ys) → xs ≡ ys
same_found xs ys e = ap (objects_or xs) e

pub moved_one : (from : Owner → Bool) (to : Owner) (n : ℕ) (objects after : List Thing) → objects_after_move from to (n ∷ []) objects ≡ Ok after → IsMoved from to n objects after
moved_one from to n objects after e =
    let a = bound (owned_at from objects n) _ after e in
    let b = bound (object_at objects n) _ a.0 a.1 in
    let s = so_is (from b.0.object.owner) not_owned b.0 a.0 b.2 in
    record { object = b.0.object; at = (object_is objects n b.0 b.1).1; passes = s.0; is = same_found _ _ a.2 }

pub moved_append : (from : Owner → Bool) (to : Owner) (xs ys : List ℕ) (objects after : List Thing) → objects_after_move from to (xs ++ ys) objects ≡ Ok after → (mid : List Thing) × (objects_after_move from to xs objects ≡ Ok mid) × (objects_after_move from to ys mid ≡ Ok after)
moved_append from to [] ys objects after e = (objects, refl, e)
moved_append from to (n ∷ xs) ys objects after e =
    let a = bound (owned_at from objects n) _ after e in
    let r = moved_append from to xs ys (with_changed_object n (with_owner to) objects) after a.2 in
    (r.0, subst (λ q. (q >>= (λ m. objects_after_move from to xs (with_changed_object n (with_owner to) objects))) ≡ Ok r.0) (sym a.1) r.1, r.2)

pub at_root : (d : ℕ) (o : Owner) → is_at d o ≡ true → (is_gone o ≡ false) × (above o ≡ None) × (is_out o ≡ false)
at_root d (held e j) h = (refl, refl, refl)
at_root d (lent e j) h = (refl, refl, refl)
at_root d loose h = absurd (false≢true h)
at_root d (inside n) h = absurd (false≢true h)
at_root d (adopted_by n) h = absurd (false≢true h)
at_root d out h = absurd (false≢true h)
at_root d gone h = absurd (false≢true h)

pub loose_root : (o : Owner) → is_loose o ≡ true → (is_gone o ≡ false) × (above o ≡ None) × (is_out o ≡ false)
loose_root loose h = (refl, refl, refl)
loose_root (held e j) h = absurd (false≢true h)
loose_root (lent e j) h = absurd (false≢true h)
loose_root (inside n) h = absurd (false≢true h)
loose_root (adopted_by n) h = absurd (false≢true h)
loose_root out h = absurd (false≢true h)
loose_root gone h = absurd (false≢true h)

-- ---- the object of a key that is taken

taken_before : (e : Entry) → is_taken e ≡ true → is_held_before e ≡ true
taken_before e h = by (is_held_before e) h
  where
    by : (b : Bool) → (b && not (is_held_after e)) ≡ true → b ≡ true
    by true h = refl
    by false h = absurd (false≢true h)

taken_is : (keys : List ℕ) (frame : Frame) (e : Entry) (es : List Entry) → is_taken e ≡ true → taken_objects keys frame (e ∷ es) ≡ option_to_list (caller_object keys frame e) ++ taken_objects keys frame es
taken_is keys frame e es h = ap (λ b. (if b then option_to_list (caller_object keys frame e) else []) ++ taken_objects keys frame es) h

pub not_taken : (keys : List ℕ) (frame : Frame) (e : Entry) (es : List Entry) → is_taken e ≡ false → taken_objects keys frame (e ∷ es) ≡ taken_objects keys frame es
not_taken keys frame e es h = ap (λ b. (if b then option_to_list (caller_object keys frame e) else []) ++ taken_objects keys frame es) h

-- what the tables have of it
record IsTakenAt (items : Items) (keys : List ℕ) (frame : Frame) (objects : List Thing) (o : Obj) (after : List Thing) : Type 0 where
  number : ℕ
  root : IsRootAt objects number
  made : IsMadeAt items o.0 number
  is : with_changed_object number (with_owner out) objects ≡ after

module _ (h : Heap) (values : Values) (keys : List ℕ) (e : Entry) (k : ℕ) (a : Slot) (taken : is_taken e ≡ true) (key : slice_get keys e.key ≡ Some k) (slot : IsSlotAt values.slots.items (key_at values k) a) where
  -- the key's slot goes to the object
  slot_is : (c : Seen h values) (n : IsNamed keys c.frame e) → IsObject c.items n.number a
  slot_is c n =
      let q = c.fits.keys k n.number (ap (option_and_then c.frame.keys) (sym key) ∙ n.is) in
      has_part c.items values.slots.items (key_at values k) _ a slot q

  taken_at : (c : Seen h values) (after : List Thing) (o : Obj) (m : ℕ) → a ≡ Object o m → AreNamed keys c.frame (e ∷ []) → taken_out keys (e ∷ []) c.frame c.objects ≡ Ok after → IsTakenAt c.items keys c.frame c.objects o after
  taken_at c after o m is named went =
      let n = named.0 (taken_before e taken) in
      let ref = slot_is c n in
      let same = same_object (sym is ∙ ref.is) in
      let list : taken_objects keys c.frame (e ∷ []) ≡ n.number ∷ [] = taken_is keys c.frame e [] taken ∙ append-nil _ ∙ ap option_to_list n.is in
      let r = moved_one (is_at c.frame.depth) out n.number c.objects after (ap (λ ns. objects_after_move (is_at c.frame.depth) out ns c.objects) (sym list) ∙ went) in
      let root = at_root c.frame.depth r.object.owner r.passes in
      record { number = n.number; root = record { object = r.object; at = r.at; live = root.0; root = root.1; here = root.2 }; made = subst (λ q. IsMadeAt c.items q.0 n.number) (sym same.0) ref.made; is = r.is }

  pub can_go : (o : Obj) (m : ℕ) → a ≡ Object o m → CanTake h values keys (e ∷ []) → CanGo h o
  can_go o m is can =
      let t = taken_at can.seen can.after o m is can.named can.is in
      record { items = can.seen.items; width = values.width; objects = can.seen.objects; number = t.number; holds = can.seen.holds; shown = can.seen.shown; root = t.root; made = t.made }

  pub takes_it : (new : Heap) (o : Obj) (m : ℕ) → a ≡ Object o m → Goes o h new → Takes keys (e ∷ []) values h new
  takes_it new o m is goes c after named went =
      let t = taken_at c after o m is named went in
      all_shown h new values c after (subst (ShowsAll c.items new values.width) t.is (goes c.items values.width c.objects t.number c.holds c.shown t.root t.made))

  -- it goes to an object
  pub takes_other : (other : (o : Obj) (m : ℕ) → a ≡ Object o m → ⊥) → Takes keys (e ∷ []) values h h
  takes_other other c after named went = let ref = slot_is c (named.0 (taken_before e taken)) in absurd (other ref.object _ ref.is)

pub takes_missing : (h : Heap) (values : Values) (keys : List ℕ) (e : Entry) → is_taken e ≡ true → slice_get keys e.key ≡ None → Takes keys (e ∷ []) values h h
takes_missing h values keys e taken key c after named went =
    let n = named.0 (taken_before e taken) in
    absurd (none-some n.number (ap (option_and_then c.frame.keys) (sym key) ∙ n.is))

-- ---- one entry, then the others

taken_split : (keys : List ℕ) (frame : Frame) (e : Entry) (es : List Entry) (objects after : List Thing) → taken_out keys (e ∷ es) frame objects ≡ Ok after → (mid : List Thing) × (taken_out keys (e ∷ []) frame objects ≡ Ok mid) × (taken_out keys es frame mid ≡ Ok after)
taken_split keys frame e es objects after went =
    let r = moved_append (is_at frame.depth) out (if is_taken e then option_to_list (caller_object keys frame e) else []) (taken_objects keys frame es) objects after went in
    (r.0, ap (λ ns. objects_after_move (is_at frame.depth) out ns objects) (append-nil _) ∙ r.1, r.2)

pub can_first : (h : Heap) (values : Values) (keys : List ℕ) (e : Entry) (es : List Entry) → CanTake h values keys (e ∷ es) → CanTake h values keys (e ∷ [])
can_first h values keys e es can =
    let r = taken_split keys can.seen.frame e es can.seen.objects can.after can.is in
    record { seen = can.seen; named = (can.named.0, tt); after = r.0; is = r.1 }

pub can_rest : (old new : Heap) (values : Values) (keys : List ℕ) (e : Entry) (es : List Entry) → CanTake old values keys (e ∷ es) → Takes keys (e ∷ []) values old new → CanTake new values keys es
can_rest old new values keys e es can takes =
    let r = taken_split keys can.seen.frame e es can.seen.objects can.after can.is in
    let s = takes can.seen r.0 (can.named.0, tt) r.1 in
    record { seen = seen_after old new values can.seen r.0 s; named = can.named.1; after = can.after; is = r.2 }

pub takes_both : (old between new : Heap) (values : Values) (keys : List ℕ) (e : Entry) (es : List Entry) → Takes keys (e ∷ []) values old between → Takes keys es values between new → Takes keys (e ∷ es) values old new
takes_both old between new values keys e es first rest c after named went =
    let r = taken_split keys c.frame e es c.objects after went in
    let s = first c r.0 (named.0, tt) r.1 in
    shows_twice old between new values c r.0 after s (rest (seen_after old between values c r.0 s) after named.1 r.2)

pub can_skip : (h : Heap) (values : Values) (keys : List ℕ) (e : Entry) (es : List Entry) → is_taken e ≡ false → CanTake h values keys (e ∷ es) → CanTake h values keys es
can_skip h values keys e es free can = record {
  seen = can.seen;
  named = can.named.1;
  after = can.after;
  is = ap (λ ns. objects_after_move (is_at can.seen.frame.depth) out ns can.seen.objects) (sym (not_taken keys can.seen.frame e es free)) ∙ can.is;
}

pub takes_skip : (old new : Heap) (values : Values) (keys : List ℕ) (e : Entry) (es : List Entry) → is_taken e ≡ false → Takes keys es values old new → Takes keys (e ∷ es) values old new
takes_skip old new values keys e es free takes c after named went = takes c after named.1 (ap (λ ns. objects_after_move (is_at c.frame.depth) out ns c.objects) (sym (not_taken keys c.frame e es free)) ∙ went)

pub takes_none : (h : Heap) (values : Values) (keys : List ℕ) → Takes keys [] values h h
takes_none h values keys c after named went = subst (λ os. Shows c.items h values c.frame os) (same_found c.objects after went) (shows_same h values c)
