-- What the calls on places do, from what they do to lists.
use Rattle.std.proofs.Common.{◌≡◌, ◌≢◌, ◌⊎◌, inl, inr, ℕ, zero, suc, ◌+◌, ◌<◌, ◌≤◌, Bool, true, false, if◌then◌else◌, List, [], ◌∷◌, ◌++◌, length, Option, Some, None, refl, sym, ap, ◌∙◌, subst, arith, slice_get, slice_set, vec_capacity}
use Rattle.std.proofs.lemmas.Option.{none-some, same_Some, slice_get_within}
use Rattle.std.proofs.lemmas.List.{length-set, length-append}
use Rattle.std.proofs.lemmas.List.Sums.{count_by-le-length}
use Rattle.vlt_rings.specs.Rings.{IsWhole, IsInserted, next_of, room_of}
use Rattle.vlt_rings.specs.declared.places.Mark.{Mark}
use Rattle.vlt_rings.specs.declared.places.Mark.TheVariants.{Free, Live}
use Rattle.vlt_rings.specs.declared.places.Place.{Place}
use Rattle.vlt_rings.specs.declared.places.Places.{Places}
use Rattle.vlt_rings.specs.Places.{head, member, home_by, home, is_live, count_of, IsSound, IsSettled, WasSet, WasPushed, IsMarked, IsSameBut, HasNone}
use Rattle.vlt_base.specs.Parents.{is_at_or_below}
use Rattle.vlt_rings.specs.Things.{Thing, Things, IsAt, ParentIs, IsShown, IsKnown, Hold, Holds, count_things, IsMade, IsMadeAt, KeepMade, IsThereOrGone, IsParentOf, AreReleased, parents_of}
use Rattle.vlt_rings.proofs.Lists.{equal_or_not, get_same, get_other, get_last, get_push}
use Rattle.vlt_rings.proofs.Counts.{count_set, count_push}
use Rattle.vlt_rings.proofs.Sorting.{most, free_sorted}
use Rattle.vlt_rings.proofs.Holding.{live_left}
use Rattle.vlt_rings.proofs.Sounds.{mark_count, new_holds, disowned, owned}

-- one free place more
pub sound_grown : (old new : Places) (q : Place) → IsSound old → length old.places.items < old.budget → q.mark ≡ Free → q.parent ≡ None
    → new.places.items ≡ old.places.items ++ q ∷ []
    → IsWhole new.rings → length (next_of new.rings) ≡ length (next_of old.rings) + 2
    → IsInserted 0 (member (length old.places.items)) (most (next_of old.rings)) (next_of new.rings)
    → new.budget ≡ old.budget → new.live ≡ old.live → vec_capacity old.places ≤ vec_capacity new.places → room_of old.rings ≤ room_of new.rings → IsSound new
sound_grown old new q sound room free lone set whole long inserted budget live places_room rings_room =
    let l : length new.places.items ≡ length old.places.items + 1 = ap length set ∙ length-append old.places.items (q ∷ []) in
    record {
      sorted = rw set (free_sorted old.places.items (next_of old.rings) sound.sorted sound.parents sound.long (next_of new.rings) q (ap (λ m. home_by m q.parent) free) inserted);
      whole = whole;
      long = omega (arith, l, long, sound.long);
      parents = λ d a r at is. let k = parents d a r (get_push old.places.items q d r (sym (ap (λ ps. slice_get ps d) set) ∙ at)).is is in omega (arith, k, l);
      few = rw budget (sound.few);
      within = omega (arith, l, budget, room);
      places_room = omega (arith, budget, places_room, sound.places_room);
      rings_room = omega (arith, budget, rings_room, sound.rings_room);
      count =
          let a = count_push (λ r. is_live r.mark) old.places.items q in
          let b = mark_count q Free free in
          let e : count_of new.places.items ≡ count_of (old.places.items ++ q ∷ []) = ap count_of set in
          omega (arith, a, b, e, live, sound.count);
    }
  where
    parents : (d a : ℕ) (r : Place) → (slice_get old.places.items d ≡ Some r) ⊎ ((d ≡ length old.places.items) × (q ≡ r)) → r.parent ≡ Some a → a < length old.places.items
    parents d a r (inl at) is = sound.parents d a r at is
    parents d a r (inr at) is = absurd (none-some a (sym lone ∙ ap (λ z. z.parent) at.1 ∙ is))

-- no place is about to be freed still
pub quiet_set : (ps qs : List Place) (c : ℕ) (q : Place) → c < length ps → qs ≡ slice_set ps c q → home q ≢ Some 1 → HasNone ps 1 → HasNone qs 1
quiet_set ps qs c q within set not_doomed quiet d r at = by (equal_or_not d c)
  where
    by : (d ≡ c) ⊎ (d ≢ c) → home r ≢ Some 1
    by (inl e) =
        let same : q ≡ r = same_Some q r (sym (get_same ps c q within) ∙ sym (ap (λ l. slice_get l c) set) ∙ ap (slice_get qs) (sym e) ∙ at) in
        λ h. not_doomed (ap home_of same ∙ h)
      where
        home_of : Place → Option ℕ
        home_of p = home_by p.mark p.parent
    by (inr n) = quiet d r (sym (get_other ps c d q n) ∙ sym (ap (λ l. slice_get l d) set) ∙ at)

pub quiet_pushed : (ps : List Place) (q : Place) → q.mark ≡ Free → HasNone ps 1 → HasNone (ps ++ q ∷ []) 1
quiet_pushed ps q free quiet d r at = by (get_push ps q d r at).is
  where
    by : (slice_get ps d ≡ Some r) ⊎ ((d ≡ length ps) × (q ≡ r)) → home r ≢ Some 1
    by (inl old) = quiet d r old
    by (inr new) = λ h. let k = same_Some 0 1 (sym (ap (λ m. home_by m r.parent) (sym (ap (λ z. z.mark) new.1) ∙ free)) ∙ h) in omega arith

-- of a live place
pub live_quiet : (p : Place) (x : Option ℕ) → p.mark ≡ Live → home (record p { parent = x }) ≢ Some 1
live_quiet p None live h = none-some 1 (sym (ap (λ m. home_by m None) live) ∙ h)
live_quiet p (Some q) live h = let k = same_Some (head q) 1 (sym (ap (λ m. home_by m (Some q)) live) ∙ h) in omega arith

-- a free place more is at the end
pub pushed_at : (old new : List Place) (n : ℕ) (w : WasPushed old new) → n ≡ length old → slice_get new n ≡ Some w.what
pushed_at old new n w e = ap (λ l. slice_get l n) w.is ∙ ap (slice_get (old ++ w.what ∷ [])) e ∙ get_last old w.what

pub pushed_long : (old new : List Place) (w : WasPushed old new) → length new ≡ length old + 1
pushed_long old new w = ap length w.is ∙ length-append old (w.what ∷ [])

pub long_after : (old new : List Place) (c : ℕ) (q : Place) → new ≡ slice_set old c q → length new ≡ length old
long_after old new c q set = ap length set ∙ length-set old c q

-- a free place doesn't count, and there are as many places as the budget has at most
pub room_for_one : (h : Places) (c : ℕ) → IsSound h → IsMarked Free h.places.items c → h.live + 1 ≤ h.budget
room_for_one h c sound free =
    let taken : Place = record { number = 0; mark = Live; parent = None } in
    let k = count_set (λ r. is_live r.mark) h.places.items c free.what taken free.at in
    let e = mark_count free.what Free free.is in
    let n = count_by-le-length (λ r. is_live r.mark) (slice_set h.places.items c taken) in
    let l = length-set h.places.items c taken in
    omega (arith, k, e, n, l, sound.count, sound.within)

-- a new thing has a place
pub new_made : (old mid new : Places) (c : ℕ) → IsSound mid → IsMarked Free mid.places.items c → WasSet (λ p. record { number = mid.made; mark = Live; parent = None }) c mid.places.items new.places.items
    → mid.budget ≡ old.budget → mid.made ≡ old.made → new.made ≡ mid.made + 1 → ((ts : Things) → Hold old.places.items ts → Hold mid.places.items ts)
    → (ts : Things) → Holds old ts → IsMade ts c old new
new_made old mid new c sound free set budget made one kept ts holds =
    let hold = kept ts holds.hold in
    let n : length ts ≡ mid.made = holds.made ∙ sym made in
    record {
      room = let r = room_for_one mid c sound free in omega (arith, r, hold.count, sound.count, budget);
      holds = record {
        hold = new_holds mid.places.items new.places.items c mid.made free set ts hold n;
        made = length-append ts (Some (record { place = c; parent = None }) ∷ []) ∙ ap (λ k. k + 1) n ∙ sym one;
      };
    }

pub full_things : (old : Places) → IsSound old → old.budget ≤ count_of old.places.items → (ts : Things) → Holds old ts → old.budget ≤ count_things ts
full_things old sound full ts holds = rw (← holds.hold.count) full

pub disowned_things : (old new : Places) (c : ℕ) → IsMarked Live old.places.items c → WasSet (λ p. record p { parent = None }) c old.places.items new.places.items → new.made ≡ old.made
    → (ts : Things) (n : ℕ) (t : Thing) → Holds old ts → IsAt ts n t → t.place ≡ c → Holds new (slice_set ts n (Some (record t { parent = None })))
disowned_things old new c live set made ts n t holds at place = record {
  hold = disowned old.places.items new.places.items c live set ts n t holds.hold at place;
  made = length-set ts n (Some (record t { parent = None })) ∙ holds.made ∙ sym made;
}

pub owned_things : (old new : Places) (c q : ℕ) → IsMarked Live old.places.items c → IsMarked Live old.places.items q → WasSet (λ p. record p { parent = Some q }) c old.places.items new.places.items → new.made ≡ old.made
    → (ts : Things) (n m : ℕ) (t u : Thing) → Holds old ts → IsAt ts n t → t.place ≡ c → IsAt ts m u → u.place ≡ q → Holds new (slice_set ts n (Some (record t { parent = Some m })))
owned_things old new c q live parent set made ts n m t u holds at place at_m place_m = record {
  hold = owned old.places.items new.places.items c q live parent set ts n m t u holds.hold at place at_m place_m;
  made = length-set ts n (Some (record t { parent = Some m })) ∙ holds.made ∙ sym made;
}

pub same_places : (first old new : Places) (c : ℕ) (mark mark2 : Mark) → IsSameBut first old → IsMarked mark old.places.items c → WasSet (λ p. record p { mark = mark2 }) c old.places.items new.places.items → new.made ≡ old.made → new.budget ≡ old.budget → IsSameBut first new
same_places first old new c mark mark2 same marked set made budget = record {
  places = long_after old.places.items new.places.items c (record marked.what { mark = mark2 }) (set marked.what marked.at) ∙ same.places;
  made = made ∙ same.made;
  budget = budget ∙ same.budget;
}

pub same_first : (h : Places) → IsSameBut h h
same_first h = record { places = refl; made = refl; budget = refl }

-- ---- what was made

slice_get_none : {A : Type 0} (xs : List A) (n : ℕ) → slice_get xs n ≡ None → length xs ≤ n
slice_get_none [] n e = omega arith
slice_get_none (x ∷ xs) zero e = absurd (none-some x (sym e))
slice_get_none (x ∷ xs) (suc n) e = let k = slice_get_none xs n e in omega arith

-- a thing that is there is at the place where it was made
pub gone_where : (h : Places) (ts : Things) (c n : ℕ) → Holds h ts → IsMadeAt ts c n → ((p : Place) → slice_get h.places.items c ≡ Some p → p.mark ≡ Live → p.number ≢ n) → slice_get ts n ≡ Some None
gone_where h ts c n holds made not = by (slice_get ts n) refl
  where
    by : (x : Option (Option Thing)) → slice_get ts n ≡ x → slice_get ts n ≡ Some None
    by None e = let l = slice_get_none ts n e in absurd (let k = made.made in omega arith)
    by (Some None) e = e
    by (Some (Some t)) e =
        let s = holds.hold.shown n t e in
        absurd (not s.what (ap (slice_get h.places.items) (sym (made.place t e)) ∙ s.at) s.live s.number)

pub kept_new : (ts : Things) (t : Thing) → KeepMade ts (ts ++ Some t ∷ [])
kept_new ts t c n made = record { made = let l = length-append ts (Some t ∷ []) in let k = made.made in omega arith; place = λ u at. by u (get_push ts (Some t) n (Some u) at).is }
  where
    by : (u : Thing) → (slice_get ts n ≡ Some (Some u)) ⊎ ((n ≡ length ts) × (Some t ≡ Some u)) → u.place ≡ c
    by u (inl old) = made.place u old
    by u (inr new) = absurd (let k = made.made in let e = new.0 in omega arith)

pub new_made_at : (ts : Things) (c : ℕ) → IsMadeAt (ts ++ Some (record { place = c; parent = None }) ∷ []) c (length ts)
new_made_at ts c = record {
  made = let l = length-append ts (Some (record { place = c; parent = None }) ∷ []) in omega arith;
  place = λ u at. sym (ap (λ z. z.place) (same_Some (record { place = c; parent = None }) u (same_Some (Some (record { place = c; parent = None })) (Some u) (sym (get_last ts (Some (record { place = c; parent = None }))) ∙ at))));
}

pub kept_set : (ts : Things) (m : ℕ) (t u : Thing) → IsAt ts m t → u.place ≡ t.place → KeepMade ts (slice_set ts m (Some u))
kept_set ts m t u at same c n made = record { made = rw (length-set ts m (Some u)) (made.made); place = λ v at_n. by v at_n (equal_or_not n m) }
  where
    by : (v : Thing) → slice_get (slice_set ts m (Some u)) n ≡ Some (Some v) → (n ≡ m) ⊎ (n ≢ m) → v.place ≡ c
    by v at_n (inl e) =
        let is_u : u ≡ v = same_Some u v (same_Some (Some u) (Some v) (sym (get_same ts m (Some u) (slice_get_within ts m (Some t) at)) ∙ ap (slice_get (slice_set ts m (Some u))) (sym e) ∙ at_n)) in
        ap (λ z. z.place) (sym is_u) ∙ same ∙ made.place t (ap (slice_get ts) e ∙ at)
    by v at_n (inr k) = made.place v (sym (get_other ts m n (Some u) k) ∙ at_n)

pub kept_released : (ts : Things) (m : ℕ) (new : Places) (r : AreReleased ts m new) → KeepMade ts r.things
kept_released ts m new r c n made = record { made = rw (r.long) (made.made); place = λ v at. by v at (slice_get ts n) refl }
  where
    by : (v : Thing) → slice_get r.things n ≡ Some (Some v) → (x : Option (Option Thing)) → slice_get ts n ≡ x → v.place ≡ c
    by v at None e = absurd (let l = slice_get_none ts n e in let k = made.made in omega arith)
    by v at (Some x) e = here x e (is_at_or_below (parents_of ts) (m ∷ []) n) (same_Some _ (Some v) (sym (r.each n x e) ∙ at))
      where
        here : (x : Option Thing) → slice_get ts n ≡ Some x → (b : Bool) → (if b then None else x) ≡ Some v → v.place ≡ c
        here x e true is = absurd (none-some v is)
        here None e false is = absurd (none-some v is)
        here (Some t) e false is = ap (λ z. z.place) (sym (same_Some t v is)) ∙ made.place t e

-- a parent is there, and it is at its place
pub parent_is_made : (h : Places) (ts : Things) (n : ℕ) (t : Thing) (what : Place) → IsSettled h → Holds h ts → IsAt ts n t → slice_get h.places.items t.place ≡ Some what
    → (q : ℕ) (p : Place) → what.parent ≡ Some q → slice_get h.places.items q ≡ Some p → IsParentOf ts t (Some (q, p.number))
parent_is_made h ts n t what settled holds at at_t q p is at_q = by t.parent (subst (λ x. ParentIs h.places.items x t.parent) (ap (λ z. z.parent) (same_Some s.what what (sym s.at ∙ at_t)) ∙ is) s.parent) refl
  where
    s : IsShown h.places.items ts n t
    s = holds.hold.shown n t at

    by : (y : Option ℕ) → ParentIs h.places.items (Some q) y → t.parent ≡ y → IsParentOf ts t (Some (q, p.number))
    by None parent e = absurd parent
    by (Some m) parent e =
        let same : parent.0 ≡ p = same_Some parent.0 p (sym parent.1 ∙ at_q) in
        let live : p.mark ≡ Live = live_left p.mark (λ f. parent.3 (ap (λ z. z.mark) same ∙ f)) (λ d. settled.quiet q p at_q (ap (λ z. home_by z p.parent) d)) in
        let known = holds.hold.known q p at_q live in
        record {
          number = e ∙ ap (λ z. Some z) (sym parent.2 ∙ ap (λ z. z.number) same);
          made = record {
            made = slice_get_within ts p.number (Some known.thing) known.at;
            place = λ u at_u. ap (λ z. z.place) (same_Some u known.thing (same_Some (Some u) (Some known.thing) (sym at_u ∙ known.at))) ∙ known.place;
          };
        }

pub no_parent : (h : Places) (ts : Things) (n : ℕ) (t : Thing) (what : Place) → Holds h ts → IsAt ts n t → slice_get h.places.items t.place ≡ Some what → what.parent ≡ None → IsParentOf ts t None
no_parent h ts n t what holds at at_t is = by t.parent (subst (λ x. ParentIs h.places.items x t.parent) (ap (λ z. z.parent) (same_Some s.what what (sym s.at ∙ at_t)) ∙ is) s.parent)
  where
    s : IsShown h.places.items ts n t
    s = holds.hold.shown n t at

    by : (y : Option ℕ) → ParentIs h.places.items None y → y ≡ None
    by None parent = refl
    by (Some m) parent = absurd parent

-- a place that has the thing or not
pub there_or_gone : (h : Places) (ts : Things) (c n : ℕ) (p : Place) (b : Bool) → slice_get h.places.items c ≡ Some p → (b ≡ true → (p.mark ≡ Live) × (p.number ≡ n)) → (b ≡ false → p.mark ≡ Live → p.number ≢ n)
    → Holds h ts → IsMadeAt ts c n → IsThereOrGone b ts n c
there_or_gone h ts c n p true at y not holds made = let k = y refl in subst (IsKnown ts c) k.1 (holds.hold.known c p at k.0)
there_or_gone h ts c n p false at y not holds made = gone_where h ts c n holds made (λ q at_q live number.
    let same : q ≡ p = same_Some q p (sym at_q ∙ at) in
    not refl (ap (λ z. z.mark) (sym same) ∙ live) (ap (λ z. z.number) (sym same) ∙ number))

-- what is in the place has the number
pub has_number : (h : Places) (c number : ℕ) (p : Place) → slice_get h.places.items c ≡ Some p → p.number ≡ number → (ts : Things) (n : ℕ) (t : Thing) → Holds h ts → IsAt ts n t → t.place ≡ c → n ≡ number
has_number h c number p at is ts n t holds at_n place =
    let s = holds.hold.shown n t at_n in
    sym s.number ∙ ap (λ q. q.number) (same_Some s.what p (sym s.at ∙ ap (slice_get h.places.items) place ∙ at)) ∙ is

pub gone_beyond : (h : Places) (ts : Things) (c n : ℕ) → slice_get h.places.items c ≡ None → Holds h ts → IsMadeAt ts c n → slice_get ts n ≡ Some None
gone_beyond h ts c n none holds made = gone_where h ts c n holds made (λ q at live number. none-some q (sym none ∙ at))

pub record ItemAt {A : Type 0} (xs : List A) (i : ℕ) : Type 0 where
  pub item : A
  pub at : slice_get xs i ≡ Some item

pub item_at : {A : Type 0} (xs : List A) (i : ℕ) → i < length xs → ItemAt xs i
item_at [] i l = absurd (omega arith)
item_at (x ∷ xs) zero l = record { item = x; at = refl }
item_at (x ∷ xs) (suc i) l = let k = item_at xs i (omega arith) in record { item = k.item; at = k.at }
