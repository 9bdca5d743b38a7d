-- The calls on one place.
use Rattle.std.proofs.Common.{◌≡◌, ◌≢◌, ◌⊎◌, inl, inr, ℕ, zero, suc, ◌+◌, ◌<◌, ◌≤◌, true, List, [], ◌∷◌, ◌++◌, length, Option, Some, None, refl, sym, ap, ◌∙◌, subst, arith, slice_get, slice_set, vec_capacity}
use Rattle.std.proofs.lemmas.Option.{none-some, same_Some, slice_get_within}
use Rattle.std.proofs.lemmas.List.{length-set}
use Rattle.vlt_rings.specs.Rings.{IsWhole, IsUnlinked, next_of, room_of}
use Rattle.vlt_rings.proofs.Lists.{equal_or_not, get_same, get_other, get_last, get_push, get_kept}
use Rattle.vlt_rings.specs.declared.places.Mark.{Mark}
use Rattle.vlt_rings.specs.declared.places.Mark.TheVariants.{Free, Doomed, Live}
use Rattle.vlt_rings.specs.declared.places.Place.{Place}
use Rattle.vlt_rings.specs.declared.places.Places.{Places}
use Rattle.vlt_rings.specs.Places.{head, member, child_home, home_by, home, IsHead, AreSorted, is_live, count_of, IsSound, WasSet, IsMoved, IsMarked, HasNone, StandsIn}
use Rattle.vlt_rings.specs.Things.{Thing, Things, IsAt, ParentIs, IsShown, IsKnown, Hold, count_things, IsBelow, Releasing, AreReleased}
use Rattle.vlt_rings.proofs.Sorting.{OneChanged, set_changes, lone, rehomed}
use Rattle.vlt_rings.proofs.Holding.{free_not_live, parent_stays, parent_set, doomed_holds, child_doomed, childless_freed, count_more, count_new}
use Rattle.vlt_rings.proofs.Counts.{one_if, count_set, count_push, count_all}
use Rattle.vlt_rings.proofs.Released.{are_released}

pub free_head : IsHead 0
free_head c e = omega arith

pub doomed_head : IsHead 1
doomed_head c e = omega arith

pub even_head : (q : ℕ) → IsHead (head q)
even_head q c e = omega arith

-- the tables of rings and places after a change of one place
pub record Change (old new : Places) (c : ℕ) (p q : Place) : Type 0 where
  pub set : new.places.items ≡ slice_set old.places.items c q
  pub sorted : AreSorted (slice_set old.places.items c q) (next_of new.rings)
  pub whole : IsWhole new.rings
  pub long : length (next_of new.rings) ≡ length (next_of old.rings)
  pub parent : (a : ℕ) → q.parent ≡ Some a → a < length old.places.items
  pub budget : new.budget ≡ old.budget
  pub places_room : vec_capacity new.places ≡ vec_capacity old.places
  pub rings_room : room_of new.rings ≡ room_of old.rings
  pub count : new.live + one_if (is_live p.mark) ≡ old.live + one_if (is_live q.mark)

pub sound_changed : (old new : Places) (c : ℕ) (p q : Place) → IsSound old → slice_get old.places.items c ≡ Some p → Change old new c p q → IsSound new
sound_changed old new c p q sound at change =
    let l : length new.places.items ≡ length old.places.items = ap length change.set ∙ length-set old.places.items c q in
    record {
      sorted = rw (change.set) (change.sorted);
      whole = change.whole;
      long = omega (arith, l, change.long, sound.long);
      parents = λ d a r at_d is. subst (λ n. a < n) (sym l) (parents d a r (sym (ap (λ ps. slice_get ps d) change.set) ∙ at_d) is);
      few = rw (change.budget) (sound.few);
      within = omega (arith, l, change.budget, sound.within);
      places_room = omega (arith, change.budget, change.places_room, sound.places_room);
      rings_room = omega (arith, change.budget, change.rings_room, sound.rings_room);
      count =
          let k = count_set (λ r. is_live r.mark) old.places.items c p q at in
          let m : count_of new.places.items ≡ count_of (slice_set old.places.items c q) = ap count_of change.set in
          omega (arith, k, m, change.count, sound.count);
    }
  where
    parents : (d a : ℕ) (r : Place) → slice_get (slice_set old.places.items c q) d ≡ Some r → r.parent ≡ Some a → a < length old.places.items
    parents d a r at_d is = by (equal_or_not d c)
      where
        by : (d ≡ c) ⊎ (d ≢ c) → a < length old.places.items
        by (inl e) =
            let same : q ≡ r = same_Some q r (sym (get_same old.places.items c q (slice_get_within old.places.items c p at)) ∙ ap (slice_get (slice_set old.places.items c q)) (sym e) ∙ at_d) in
            change.parent a (ap (λ z. z.parent) same ∙ is)
        by (inr n) = sound.parents d a r (sym (get_other old.places.items c d q n) ∙ at_d) is

-- its node moves to another ring
pub sound_moved : (old new : Places) (c h : ℕ) (p q : Place) → IsSound old → slice_get old.places.items c ≡ Some p → new.places.items ≡ slice_set old.places.items c q → home q ≡ Some h → IsHead h
    → IsWhole new.rings → length (next_of new.rings) ≡ length (next_of old.rings) → room_of new.rings ≡ room_of old.rings → IsMoved h (member c) (next_of old.rings) (next_of new.rings)
    → ((a : ℕ) → q.parent ≡ Some a → a < length old.places.items) → new.budget ≡ old.budget → vec_capacity new.places ≡ vec_capacity old.places
    → new.live + one_if (is_live p.mark) ≡ old.live + one_if (is_live q.mark) → IsSound new
sound_moved old new c h p q sound at set is is_head whole long room moved parent budget places_room count = sound_changed old new c p q sound at (record {
  set = set;
  sorted = rehomed old.places.items (next_of old.rings) moved.between (next_of new.rings) c h p q sound.sorted at is is_head moved.unlinked moved.inserted;
  whole = whole;
  long = long;
  parent = parent;
  budget = budget;
  places_room = places_room;
  rings_room = room;
  count = count;
})

-- its node is taken out
pub sound_lone : (old new : Places) (c : ℕ) (p q : Place) → IsSound old → slice_get old.places.items c ≡ Some p → new.places.items ≡ slice_set old.places.items c q → home q ≡ None
    → IsWhole new.rings → length (next_of new.rings) ≡ length (next_of old.rings) → room_of new.rings ≡ room_of old.rings → IsUnlinked (member c) (next_of old.rings) (next_of new.rings)
    → ((a : ℕ) → q.parent ≡ Some a → a < length old.places.items) → new.budget ≡ old.budget → vec_capacity new.places ≡ vec_capacity old.places
    → new.live + one_if (is_live p.mark) ≡ old.live + one_if (is_live q.mark) → IsSound new
sound_lone old new c p q sound at set is whole long room unlinked parent budget places_room count = sound_changed old new c p q sound at (record {
  set = set;
  sorted = lone old.places.items (next_of old.rings) (next_of new.rings) c p q sound.sorted at is unlinked;
  whole = whole;
  long = long;
  parent = parent;
  budget = budget;
  places_room = places_room;
  rings_room = room;
  count = count;
})

-- a live place counts
pub live_above : (h : Places) (c : ℕ) → IsSound h → IsMarked Live h.places.items c → 1 ≤ h.live
live_above h c sound live =
    let k = count_set (λ r. is_live r.mark) h.places.items c live.what (record live.what { mark = Free }) live.at in
    let e : one_if (is_live live.what.mark) ≡ 1 = ap (λ m. one_if (is_live m)) live.is in
    omega (arith, k, e, sound.count)

pub mark_count : (p : Place) (m : Mark) → p.mark ≡ m → one_if (is_live p.mark) ≡ one_if (is_live m)
mark_count p m e = ap (λ x. one_if (is_live x)) e

-- ---- parents

changed : (ps qs : List Place) (c : ℕ) (p : Place) (change : Place → Place) → slice_get ps c ≡ Some p → WasSet change c ps qs → OneChanged ps qs c p (change p)
changed ps qs c p change at set = subst (λ l. OneChanged ps l c p (change p)) (sym (set p at)) (set_changes ps c p (change p) at (slice_get_within ps c p at))

number_of : (ps : List Place) (ts : Things) (hold : Hold ps ts) (c : ℕ) (p : Place) (n : ℕ) (t : Thing) → slice_get ps c ≡ Some p → IsAt ts n t → t.place ≡ c → p.number ≡ n
number_of ps ts hold c p n t at is_at place =
    let s = hold.shown n t is_at in
    ap (λ z. z.number) (sym (same_Some s.what p (sym s.at ∙ ap (slice_get ps) place ∙ at))) ∙ s.number

pub disowned : (ps qs : List Place) (c : ℕ) → IsMarked Live ps c → WasSet (λ p. record p { parent = None }) c ps qs → (ts : Things) (n : ℕ) (t : Thing) → Hold ps ts → IsAt ts n t → t.place ≡ c → Hold qs (slice_set ts n (Some (record t { parent = None })))
disowned ps qs c live set ts n t hold at place =
    parent_set ps qs ts c live.what (record live.what { parent = None }) hold (changed ps qs c live.what _ live.at set) n t None None refl live.is (number_of ps ts hold c live.what n t live.at at place) at place tt

pub owned : (ps qs : List Place) (c q : ℕ) → IsMarked Live ps c → IsMarked Live ps q → WasSet (λ p. record p { parent = Some q }) c ps qs
    → (ts : Things) (n m : ℕ) (t u : Thing) → Hold ps ts → IsAt ts n t → t.place ≡ c → IsAt ts m u → u.place ≡ q → Hold qs (slice_set ts n (Some (record t { parent = Some m })))
owned ps qs c q live parent set ts n m t u hold at place at_m place_m =
    let change = changed ps qs c live.what (λ p. record p { parent = Some q }) live.at set in
    let old : ParentIs ps (Some q) (Some m) = (parent.what, parent.at, number_of ps ts hold q parent.what m u parent.at at_m place_m, λ e. free_not_live (sym e ∙ parent.is)) in
    parent_set ps qs ts c live.what (record live.what { parent = Some q }) hold change n t (Some q) (Some m) refl live.is (number_of ps ts hold c live.what n t live.at at place) at place
    (parent_stays ps qs ts c live.what (record live.what { parent = Some q }) hold change refl (λ e. free_not_live (sym e ∙ live.is)) (Some q) (Some m) old)

pub owned_home : (p : Place) (q : ℕ) → p.mark ≡ Live → home (record p { parent = Some q }) ≡ Some (head q)
owned_home p q is = ap (λ m. home_by m (Some q)) is

pub lone_home : (p : Place) → p.mark ≡ Live → home (record p { parent = None }) ≡ None
lone_home p is = ap (λ m. home_by m None) is

-- ---- homes

pub doomed_in : (ps : List Place) (c : ℕ) → StandsIn ps 1 c → IsMarked Doomed ps c
doomed_in ps c s = record { what = s.what; at = s.at; is = by s.what.mark s.what.parent s.home }
  where
    by : (m : Mark) (x : Option ℕ) → home_by m x ≡ Some 1 → m ≡ Doomed
    by Free x e = absurd (let k = same_Some 0 1 e in omega arith)
    by Doomed x e = refl
    by Live None e = absurd (none-some 1 e)
    by Live (Some q) e = absurd (let k = same_Some (head q) 1 e in omega arith)

pub record IsChild (ps : List Place) (a c : ℕ) : Type 0 where
  pub what : Place
  pub at : slice_get ps c ≡ Some what
  pub live : what.mark ≡ Live
  pub parent : what.parent ≡ Some a

pub child_in : (ps : List Place) (a c : ℕ) → StandsIn ps (head a) c → IsChild ps a c
child_in ps a c s = let k = by s.what.mark s.what.parent s.home in record { what = s.what; at = s.at; live = k.0; parent = k.1 }
  where
    by : (m : Mark) (x : Option ℕ) → home_by m x ≡ Some (head a) → (m ≡ Live) × (x ≡ Some a)
    by Free x e = absurd (let k = same_Some 0 (head a) e in omega arith)
    by Doomed x e = absurd (let k = same_Some 1 (head a) e in omega arith)
    by Live None e = absurd (none-some (head a) e)
    by Live (Some q) e = (refl, ap (λ z. Some z) (let k = same_Some (head q) (head a) e in omega arith))

-- ---- a release

pub record Going (old : Things) (n : ℕ) (ps : List Place) : Type 0 where
  pub things : Things
  pub going : Releasing old n ps things

pub begun : (ps qs : List Place) (c : ℕ) → IsMarked Live ps c → HasNone ps 1 → WasSet (λ p. record p { mark = Doomed }) c ps qs → (ts : Things) (n : ℕ) (t : Thing) → Hold ps ts → IsAt ts n t → t.place ≡ c → Going ts n qs
begun ps qs c live quiet set ts n t hold at place = record {
  things = slice_set ts n None;
  going = record {
    hold = doomed_holds ps qs ts c live.what q hold change n t refl live.is number at place;
    long = length-set ts n None;
    kept = λ m. kept m (equal_or_not m n);
    doomed = λ d r at_d mark. doomed d r at_d mark (equal_or_not d c);
    root = get_same ts n None (slice_get_within ts n (Some t) at);
  };
}
  where
    q : Place
    q = record live.what { mark = Doomed }

    change : OneChanged ps qs c live.what (record live.what { mark = Doomed })
    change = changed ps qs c live.what (λ p. record p { mark = Doomed }) live.at set

    number : live.what.number ≡ n
    number = number_of ps ts hold c live.what n t live.at at place

    kept : (m : ℕ) → (m ≡ n) ⊎ (m ≢ n) → (slice_get (slice_set ts n None) m ≡ slice_get ts m) ⊎ ((slice_get (slice_set ts n None) m ≡ Some None) × IsBelow ts n m)
    kept m (inl e) = inr (ap (slice_get (slice_set ts n None)) e ∙ get_same ts n None (slice_get_within ts n (Some t) at), record { steps = 0; chain = e })
    kept m (inr k) = inl (get_other ts n m None k)

    doomed : (d : ℕ) (r : Place) → slice_get qs d ≡ Some r → r.mark ≡ Doomed → (d ≡ c) ⊎ (d ≢ c) → IsBelow ts n r.number
    doomed d r at_d mark (inl e) =
        let same : record live.what { mark = Doomed } ≡ r = same_Some (record live.what { mark = Doomed }) r (sym change.is ∙ ap (slice_get qs) (sym e) ∙ at_d) in
        record { steps = 0; chain = ap (λ z. z.number) (sym same) ∙ number }
    doomed d r at_d mark (inr k) = absurd (quiet d r (sym (change.others d k) ∙ at_d) (ap (λ m. home_by m r.parent) mark))

pub goes_down : (ps qs : List Place) (a c : ℕ) → IsMarked Doomed ps a → IsChild ps a c → WasSet (λ p. record p { mark = Doomed }) c ps qs → (ts : Things) (n : ℕ) → Going ts n ps → Going ts n qs
goes_down ps qs a c doomed child set ts n g = record {
  things = slice_set g.things child.what.number None;
  going = child_doomed ps qs ts g.things n c child.what (record child.what { mark = Doomed }) g.going (changed ps qs c child.what (λ p. record p { mark = Doomed }) child.at set) a doomed.what doomed.at doomed.is child.parent refl child.live;
}

pub goes_up : (ps qs : List Place) (c : ℕ) → IsMarked Doomed ps c → HasNone ps (head c) → WasSet (λ p. record p { mark = Free }) c ps qs → (ts : Things) (n : ℕ) → Going ts n ps → Going ts n qs
goes_up ps qs c doomed none set ts n g = record {
  things = g.things;
  going = childless_freed ps qs ts g.things n c doomed.what (record doomed.what { mark = Free }) g.going (changed ps qs c doomed.what (λ p. record p { mark = Free }) doomed.at set) refl doomed.is
      (λ d r at live is. none d r at (ap (λ m. home_by m r.parent) live ∙ ap child_home is));
}

pub is_over : (h : Places) → HasNone h.places.items 1 → (ts : Things) (n : ℕ) (t : Thing) → IsAt ts n t → length ts ≡ h.made → Going ts n h.places.items → AreReleased ts n h
is_over h none ts n t at made g = are_released ts g.things n t at h g.going (λ c p at is. none c p at (ap (λ m. home_by m p.parent) is)) made

-- ---- how much there is to let go

abbrev pub mark_weight : Mark → ℕ
mark_weight Free = 0
mark_weight Doomed = 1
mark_weight Live = 2

abbrev pub weight : List Place → ℕ
weight [] = 0
weight (p ∷ ps) = mark_weight p.mark + weight ps

lighter : (ps : List Place) (c : ℕ) (p q : Place) → slice_get ps c ≡ Some p → mark_weight q.mark < mark_weight p.mark → weight (slice_set ps c q) < weight ps
lighter [] c p q at l = absurd (none-some p at)
lighter (x ∷ ps) zero p q at l = let e = ap (λ z. mark_weight z.mark) (same_Some x p at) in omega arith
lighter (x ∷ ps) (suc c) p q at l = let k = lighter ps c p q at l in omega arith

pub lighter_down : (ps qs : List Place) (a c : ℕ) → IsChild ps a c → WasSet (λ p. record p { mark = Doomed }) c ps qs → weight qs < weight ps
lighter_down ps qs a c child set = rw (set child.what child.at) (lighter ps c child.what (record child.what { mark = Doomed }) child.at (let e = ap mark_weight child.live in omega arith))

pub lighter_up : (ps qs : List Place) (c : ℕ) → IsMarked Doomed ps c → WasSet (λ p. record p { mark = Free }) c ps qs → weight qs < weight ps
lighter_up ps qs c doomed set = rw (set doomed.what doomed.at) (lighter ps c doomed.what (record doomed.what { mark = Free }) doomed.at (let e = ap mark_weight doomed.is in omega arith))

-- ---- a new thing

pub free_in : (ps : List Place) (c : ℕ) → StandsIn ps 0 c → IsMarked Free ps c
free_in ps c s = record { what = s.what; at = s.at; is = by s.what.mark s.what.parent s.home }
  where
    by : (m : Mark) (x : Option ℕ) → home_by m x ≡ Some 0 → m ≡ Free
    by Free x e = refl
    by Doomed x e = absurd (let k = same_Some 1 0 e in omega arith)
    by Live None e = absurd (none-some 0 e)
    by Live (Some q) e = absurd (let k = same_Some (head q) 0 e in omega arith)

pub new_holds : (ps qs : List Place) (c n : ℕ) → IsMarked Free ps c → WasSet (λ p. record { number = n; mark = Live; parent = None }) c ps qs
    → (ts : Things) → Hold ps ts → length ts ≡ n → Hold qs (ts ++ Some (record { place = c; parent = None }) ∷ [])
new_holds ps qs c n free set ts hold long = record { shown = shown; known = known; count = count }
  where
    change : OneChanged ps qs c free.what (record { number = n; mark = Live; parent = None })
    change = changed ps qs c free.what (λ p. record { number = n; mark = Live; parent = None }) free.at set

    count : count_of qs ≡ count_things (ts ++ Some (record { place = c; parent = None }) ∷ [])
    count =
        let a = count_more ps qs c free.what (record { number = n; mark = Live; parent = None }) change (ap is_live free.is) refl in
        let b = count_new ts (record { place = c; parent = None }) in
        omega (arith, a, b, hold.count)

    parent_kept : (x y : Option ℕ) → ParentIs ps x y → ParentIs qs x y
    parent_kept None None h = tt
    parent_kept None (Some m) h = h
    parent_kept (Some a) None h = h
    parent_kept (Some a) (Some m) h =
        let other : a ≢ c = (λ e. h.3 (ap (λ z. z.mark) (same_Some h.0 free.what (sym h.1 ∙ ap (slice_get ps) e ∙ free.at)) ∙ free.is)) in
        (h.0, change.others a other ∙ h.1, h.2, h.3)

    shown : (k : ℕ) (u : Thing) → IsAt (ts ++ Some (record { place = c; parent = None }) ∷ []) k u → IsShown qs (ts ++ Some (record { place = c; parent = None }) ∷ []) k u
    shown k u at = by (get_push ts (Some (record { place = c; parent = None })) k (Some u) at).is
      where
        by : (slice_get ts k ≡ Some (Some u)) ⊎ ((k ≡ length ts) × (Some (record { place = c; parent = None }) ≡ Some u)) → IsShown qs (ts ++ Some (record { place = c; parent = None }) ∷ []) k u
        by (inl old) =
            let s = hold.shown k u old in
            let other : u.place ≢ c = (λ e. free_not_live (sym (ap (λ z. z.mark) (same_Some s.what free.what (sym s.at ∙ ap (slice_get ps) e ∙ free.at)) ∙ free.is) ∙ s.live)) in
            record { what = s.what; at = change.others u.place other ∙ s.at; number = s.number; live = s.live; parent = parent_kept s.what.parent u.parent s.parent }
        by (inr new) =
            let thing : record { place = c; parent = None } ≡ u = same_Some (record { place = c; parent = None }) u new.1 in
            record {
              what = record { number = n; mark = Live; parent = None };
              at = ap (λ z. slice_get qs z.place) (sym thing) ∙ change.is;
              number = sym long ∙ sym new.0;
              live = refl;
              parent = subst (λ z. ParentIs qs None z) (ap (λ z. z.parent) thing) tt;
            }

    known : (d : ℕ) (r : Place) → slice_get qs d ≡ Some r → r.mark ≡ Live → IsKnown (ts ++ Some (record { place = c; parent = None }) ∷ []) d r.number
    known d r at live = by (equal_or_not d c)
      where
        by : (d ≡ c) ⊎ (d ≢ c) → IsKnown (ts ++ Some (record { place = c; parent = None }) ∷ []) d r.number
        by (inl e) =
            let same : n ≡ r.number = ap (λ z. z.number) (same_Some (record { number = n; mark = Live; parent = None }) r (sym change.is ∙ ap (slice_get qs) (sym e) ∙ at)) in
            record {
              thing = record { place = c; parent = None };
              at = ap (slice_get (ts ++ Some (record { place = c; parent = None }) ∷ [])) (sym same ∙ sym long) ∙ get_last ts (Some (record { place = c; parent = None }));
              place = sym e;
            }
        by (inr m) =
            let k = hold.known d r (sym (change.others d m) ∙ at) live in
            record { thing = k.thing; at = get_kept ts (Some (record { place = c; parent = None })) r.number (Some k.thing) k.at; place = k.place }

-- ---- room for a new thing

-- a free place more
pub grown_holds : (ps : List Place) (q : Place) → q.mark ≡ Free → (ts : Things) → Hold ps ts → Hold (ps ++ q ∷ []) ts
grown_holds ps q free ts hold = record { shown = shown; known = known; count = count }
  where
    count : count_of (ps ++ q ∷ []) ≡ count_things ts
    count =
        let a = count_push (λ r. is_live r.mark) ps q in
        let b = mark_count q Free free in
        omega (arith, a, b, hold.count)

    parent_kept : (x y : Option ℕ) → ParentIs ps x y → ParentIs (ps ++ q ∷ []) x y
    parent_kept None None h = tt
    parent_kept None (Some m) h = h
    parent_kept (Some a) None h = h
    parent_kept (Some a) (Some m) h = (h.0, get_kept ps q a h.0 h.1, h.2, h.3)

    shown : (n : ℕ) (t : Thing) → IsAt ts n t → IsShown (ps ++ q ∷ []) ts n t
    shown n t at =
        let s = hold.shown n t at in
        record { what = s.what; at = get_kept ps q t.place s.what s.at; number = s.number; live = s.live; parent = parent_kept s.what.parent t.parent s.parent }

    known : (c : ℕ) (r : Place) → slice_get (ps ++ q ∷ []) c ≡ Some r → r.mark ≡ Live → IsKnown ts c r.number
    known c r at live = by (get_push ps q c r at).is
      where
        by : (slice_get ps c ≡ Some r) ⊎ ((c ≡ length ps) × (q ≡ r)) → IsKnown ts c r.number
        by (inl old) = hold.known c r old live
        by (inr new) = absurd (free_not_live (sym free ∙ ap (λ z. z.mark) new.1 ∙ live))

-- each place is live where none is free and none doomed
pub all_live : (ps : List Place) → HasNone ps 0 → HasNone ps 1 → count_of ps ≡ length ps
all_live ps free quiet = count_all (λ r. is_live r.mark) ps (λ n p at. by n p at p.mark refl)
  where
    by : (n : ℕ) (p : Place) → slice_get ps n ≡ Some p → (k : Mark) → p.mark ≡ k → is_live k ≡ true
    by n p at Free is = absurd (free n p at (ap (λ z. home_by z p.parent) is))
    by n p at Doomed is = absurd (quiet n p at (ap (λ z. home_by z p.parent) is))
    by n p at Live is = refl
