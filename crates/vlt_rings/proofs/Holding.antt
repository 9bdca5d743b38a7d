-- What the places hold when one of them changes.
use Rattle.std.proofs.Common.{◌≡◌, ◌≢◌, ◌⊎◌, inl, inr, ℕ, zero, suc, ◌+◌, ◌<◌, Bool, true, false, List, [], ◌∷◌, ◌++◌, length, Option, Some, None, refl, sym, ap, ◌∙◌, subst, arith, slice_get, slice_set}
use Rattle.std.proofs.lemmas.Bool.{false≢true}
use Rattle.std.proofs.lemmas.Option.{none-some, same_Some, slice_get_within}
use Rattle.vlt_rings.proofs.Lists.{equal_or_not, get_same, get_other}
use Rattle.vlt_rings.specs.declared.places.Mark.{Mark}
use Rattle.vlt_rings.specs.declared.places.Mark.TheVariants.{Free, Doomed, Live}
use Rattle.vlt_rings.specs.declared.places.Place.{Place}
use Rattle.vlt_rings.specs.Places.{is_live, count_of}
use Rattle.vlt_rings.specs.Things.{Thing, Things, IsAt, ParentIs, IsShown, IsKnown, Hold, count_things, is_there, Leads, IsBelow, Releasing}
use Rattle.std.proofs.lemmas.List.{length-set}
use Rattle.vlt_rings.proofs.Counts.{one_if, count_set, count_push}
use Rattle.vlt_rings.proofs.Sorting.{OneChanged}

is_free : Mark → Bool
is_free Free = true
is_free Doomed = false
is_free Live = false

pub free_not_live : Free ≢ Live
free_not_live e = false≢true (ap is_live e)

pub doomed_not_live : Doomed ≢ Live
doomed_not_live e = false≢true (ap is_live e)

pub doomed_not_free : Doomed ≢ Free
unfolding is_free
doomed_not_free e = false≢true (ap is_free e)

-- ---- how many there are

count_places : (ps qs : List Place) (c : ℕ) (p q : Place) → OneChanged ps qs c p q → count_of qs + one_if (is_live p.mark) ≡ count_of ps + one_if (is_live q.mark)
count_places ps qs c p q change = ap (λ l. count_of l + one_if (is_live p.mark)) change.set ∙ count_set (λ r. is_live r.mark) ps c p q change.was

-- one thing of a number stays there, or not
pub count_there : (ts : Things) (n : ℕ) (t u : Thing) → IsAt ts n t → count_things (slice_set ts n (Some u)) ≡ count_things ts
count_there ts n t u at = let e = count_set is_there ts n (Some t) (Some u) at in omega arith

count_gone : (ts : Things) (n : ℕ) (t : Thing) → IsAt ts n t → count_things (slice_set ts n None) + 1 ≡ count_things ts
count_gone ts n t at = let e = count_set is_there ts n (Some t) None at in omega arith

pub count_new : (ts : Things) (u : Thing) → count_things (ts ++ Some u ∷ []) ≡ count_things ts + 1
count_new ts u = count_push is_there ts (Some u)

one_of : (m k : Mark) → m ≡ k → one_if (is_live m) ≡ one_if (is_live k)
one_of m k e = ap (λ x. one_if (is_live x)) e

pub count_same : (ps qs : List Place) (c : ℕ) (p q : Place) → OneChanged ps qs c p q → is_live q.mark ≡ is_live p.mark → count_of qs ≡ count_of ps
count_same ps qs c p q change e = let k = count_places ps qs c p q change in let l = ap one_if e in omega arith

pub count_less : (ps qs : List Place) (c : ℕ) (p q : Place) → OneChanged ps qs c p q → p.mark ≡ Live → is_live q.mark ≡ false → count_of qs + 1 ≡ count_of ps
count_less ps qs c p q change live gone =
    let k = count_places ps qs c p q change in
    let l : one_if (is_live p.mark) ≡ 1 = one_of p.mark Live live in
    let m : one_if (is_live q.mark) ≡ 0 = ap one_if gone in
    omega arith

pub count_more : (ps qs : List Place) (c : ℕ) (p q : Place) → OneChanged ps qs c p q → is_live p.mark ≡ false → q.mark ≡ Live → count_of qs ≡ count_of ps + 1
count_more ps qs c p q change gone live =
    let k = count_places ps qs c p q change in
    let l : one_if (is_live q.mark) ≡ 1 = one_of q.mark Live live in
    let m : one_if (is_live p.mark) ≡ 0 = ap one_if gone in
    omega arith

module _ (ps qs : List Place) (ts : Things) (c : ℕ) (p q : Place) (hold : Hold ps ts) (change : OneChanged ps qs c p q) where
  -- a parent stays one, where the changed place keeps its number and isn't freed
  pub parent_stays : q.number ≡ p.number → q.mark ≢ Free → (x y : Option ℕ) → ParentIs ps x y → ParentIs qs x y
  parent_stays number mark None None h = tt
  parent_stays number mark None (Some m) h = h
  parent_stays number mark (Some a) None h = h
  parent_stays number mark (Some a) (Some m) h = by (equal_or_not a c)
    where
      by : (a ≡ c) ⊎ (a ≢ c) → ParentIs qs (Some a) (Some m)
      by (inl e) =
          let what : h.0 ≡ p = same_Some h.0 p (sym h.1 ∙ ap (slice_get ps) e ∙ change.was) in
          (q, ap (slice_get qs) e ∙ change.is, number ∙ ap (λ x. x.number) (sym what) ∙ h.2, mark)
      by (inr n) = (h.0, change.others a n ∙ h.1, h.2, h.3)

  -- the thing of the changed place is the one of its number
  place_is : (n : ℕ) (t u : Thing) (k : ℕ) → p.number ≡ n → IsAt ts n t → t.place ≡ c → IsAt ts k u → k ≢ n → u.place ≢ c
  place_is n t u k number at place other k_not same =
      let s = hold.shown k u other in
      let what : s.what ≡ p = same_Some s.what p (sym s.at ∙ ap (slice_get ps) same ∙ change.was) in
      k_not (sym s.number ∙ ap (λ x. x.number) what ∙ number)

  -- the thing of another place has another number
  number_is : (n : ℕ) (t : Thing) (d : ℕ) (r : Place) → IsAt ts n t → t.place ≡ c → slice_get ps d ≡ Some r → r.mark ≡ Live → d ≢ c → r.number ≢ n
  number_is n t d r at place at_d live d_not same =
      let k = hold.known d r at_d live in
      let thing : k.thing ≡ t = same_Some k.thing t (same_Some (Some k.thing) (Some t) (sym k.at ∙ ap (slice_get ts) same ∙ at)) in
      d_not (sym k.place ∙ ap (λ x. x.place) thing ∙ place)

  -- it gets another parent, or none
  pub parent_set : (n : ℕ) (t : Thing) (x y : Option ℕ) → q ≡ record p { parent = x } → p.mark ≡ Live → p.number ≡ n → IsAt ts n t → t.place ≡ c → ParentIs qs x y
      → Hold qs (slice_set ts n (Some (record t { parent = y })))
  parent_set n t x y is live number at place parent = record { shown = shown; known = known; count = count }
    where
      new : Things
      new = slice_set ts n (Some (record t { parent = y }))

      count : count_of qs ≡ count_things (slice_set ts n (Some (record t { parent = y })))
      count = count_same ps qs c p q change (ap (λ z. is_live z.mark) is) ∙ hold.count ∙ sym (count_there ts n t (record t { parent = y }) at)

      within : n < length ts
      within = slice_get_within ts n (Some t) at

      shown : (k : ℕ) (u : Thing) → IsAt (slice_set ts n (Some (record t { parent = y }))) k u → IsShown qs (slice_set ts n (Some (record t { parent = y }))) k u
      shown k u at_u = by (equal_or_not k n)
        where
          by : (k ≡ n) ⊎ (k ≢ n) → IsShown qs (slice_set ts n (Some (record t { parent = y }))) k u
          by (inl e) =
              let thing : record t { parent = y } ≡ u = same_Some (record t { parent = y }) u (same_Some (Some (record t { parent = y })) (Some u) (sym (get_same ts n (Some (record t { parent = y })) within) ∙ ap (slice_get (slice_set ts n (Some (record t { parent = y })))) (sym e) ∙ at_u)) in
              record {
                what = q;
                at = ap (λ z. slice_get qs z.place) (sym thing) ∙ ap (slice_get qs) place ∙ change.is;
                number = ap (λ z. z.number) is ∙ number ∙ sym e;
                live = ap (λ z. z.mark) is ∙ live;
                parent = subst (λ z. ParentIs qs z u.parent) (sym (ap (λ z. z.parent) is)) (subst (λ z. ParentIs qs x z) (ap (λ z. z.parent) thing) parent);
              }
          by (inr m) =
              let old : IsAt ts k u = sym (get_other ts n k (Some (record t { parent = y })) m) ∙ at_u in
              let s = hold.shown k u old in
              record {
                what = s.what;
                at = change.others u.place (place_is n t u k number at place old m) ∙ s.at;
                number = s.number;
                live = s.live;
                parent = parent_stays (ap (λ z. z.number) is) (λ f. free_not_live (sym f ∙ ap (λ z. z.mark) is ∙ live)) s.what.parent u.parent s.parent;
              }

      known : (d : ℕ) (r : Place) → slice_get qs d ≡ Some r → r.mark ≡ Live → IsKnown (slice_set ts n (Some (record t { parent = y }))) d r.number
      known d r at_d live_r = by (equal_or_not d c)
        where
          by : (d ≡ c) ⊎ (d ≢ c) → IsKnown (slice_set ts n (Some (record t { parent = y }))) d r.number
          by (inl e) =
              let same : q ≡ r = same_Some q r (sym change.is ∙ ap (slice_get qs) (sym e) ∙ at_d) in
              let nr : r.number ≡ n = ap (λ z. z.number) (sym same ∙ is) ∙ number in
              record { thing = record t { parent = y }; at = ap (slice_get (slice_set ts n (Some (record t { parent = y })))) nr ∙ get_same ts n (Some (record t { parent = y })) within; place = place ∙ sym e }
          by (inr m) =
              let old = sym (change.others d m) ∙ at_d in
              let k = hold.known d r old live_r in
              record { thing = k.thing; at = get_other ts n r.number (Some (record t { parent = y })) (number_is n t d r at place old live_r m) ∙ k.at; place = k.place }

  -- it is doomed, so its thing is gone
  pub doomed_holds : (n : ℕ) (t : Thing) → q ≡ record p { mark = Doomed } → p.mark ≡ Live → p.number ≡ n → IsAt ts n t → t.place ≡ c → Hold qs (slice_set ts n None)
  doomed_holds n t is live number at place = record { shown = shown; known = known; count = count }
    where
      count : count_of qs ≡ count_things (slice_set ts n None)
      count =
          let a = count_less ps qs c p q change live (ap (λ z. is_live z.mark) is) in
          let b = count_gone ts n t at in
          let e = hold.count in
          omega arith

      within : n < length ts
      within = slice_get_within ts n (Some t) at

      shown : (k : ℕ) (u : Thing) → IsAt (slice_set ts n None) k u → IsShown qs (slice_set ts n None) k u
      shown k u at_u = by (equal_or_not k n)
        where
          by : (k ≡ n) ⊎ (k ≢ n) → IsShown qs (slice_set ts n None) k u
          by (inl e) = absurd (none-some u (same_Some None (Some u) (sym (get_same ts n None within) ∙ ap (slice_get (slice_set ts n None)) (sym e) ∙ at_u)))
          by (inr m) =
              let old : IsAt ts k u = sym (get_other ts n k None m) ∙ at_u in
              let s = hold.shown k u old in
              record {
                what = s.what;
                at = change.others u.place (place_is n t u k number at place old m) ∙ s.at;
                number = s.number;
                live = s.live;
                parent = parent_stays (ap (λ z. z.number) is) (λ f. doomed_not_free (sym (ap (λ z. z.mark) is) ∙ f)) s.what.parent u.parent s.parent;
              }

      known : (d : ℕ) (r : Place) → slice_get qs d ≡ Some r → r.mark ≡ Live → IsKnown (slice_set ts n None) d r.number
      known d r at_d live_r = by (equal_or_not d c)
        where
          by : (d ≡ c) ⊎ (d ≢ c) → IsKnown (slice_set ts n None) d r.number
          by (inl e) =
              let same : q ≡ r = same_Some q r (sym change.is ∙ ap (slice_get qs) (sym e) ∙ at_d) in
              absurd (doomed_not_live (ap (λ z. z.mark) (sym is ∙ same) ∙ live_r))
          by (inr m) =
              let old = sym (change.others d m) ∙ at_d in
              let k = hold.known d r old live_r in
              record { thing = k.thing; at = get_other ts n r.number None (number_is n t d r at place old live_r m) ∙ k.at; place = k.place }

  -- it is freed, where no place has it as its parent
  pub freed_holds : q ≡ record p { mark = Free } → p.mark ≡ Doomed → ((d : ℕ) (r : Place) → slice_get ps d ≡ Some r → r.mark ≡ Live → r.parent ≢ Some c) → Hold qs ts
  freed_holds is doomed childless = record { shown = shown; known = known; count = count_same ps qs c p q change (ap (λ z. is_live z.mark) is ∙ sym (ap is_live doomed)) ∙ hold.count }
    where
      parent_kept : (x y : Option ℕ) → x ≢ Some c → ParentIs ps x y → ParentIs qs x y
      parent_kept None None n h = tt
      parent_kept None (Some m) n h = h
      parent_kept (Some a) None n h = h
      parent_kept (Some a) (Some m) n h = (h.0, change.others a (λ e. n (ap (λ z. Some z) e)) ∙ h.1, h.2, h.3)

      shown : (k : ℕ) (u : Thing) → IsAt ts k u → IsShown qs ts k u
      shown k u at_u =
          let s = hold.shown k u at_u in
          let other : u.place ≢ c = (λ e.
          let what : s.what ≡ p = same_Some s.what p (sym s.at ∙ ap (slice_get ps) e ∙ change.was) in
          doomed_not_live (sym doomed ∙ ap (λ z. z.mark) (sym what) ∙ s.live)) in
          record {
            what = s.what;
            at = change.others u.place other ∙ s.at;
            number = s.number;
            live = s.live;
            parent = parent_kept s.what.parent u.parent (childless u.place s.what s.at s.live) s.parent;
          }

      known : (d : ℕ) (r : Place) → slice_get qs d ≡ Some r → r.mark ≡ Live → IsKnown ts d r.number
      known d r at_d live_r = by (equal_or_not d c)
        where
          by : (d ≡ c) ⊎ (d ≢ c) → IsKnown ts d r.number
          by (inl e) =
              let same : q ≡ r = same_Some q r (sym change.is ∙ ap (slice_get qs) (sym e) ∙ at_d) in
              absurd (free_not_live (ap (λ z. z.mark) (sym is ∙ same) ∙ live_r))
          by (inr m) = hold.known d r (sym (change.others d m) ∙ at_d) live_r

-- ---- a release

parent_is : (ps : List Place) (a : ℕ) (y : Option ℕ) (parent : Place) → ParentIs ps (Some a) y → slice_get ps a ≡ Some parent → y ≡ Some parent.number
parent_is ps a None parent h at = absurd h
parent_is ps a (Some m) parent h at = ap (λ z. Some z) (sym h.2 ∙ ap (λ z. z.number) (same_Some h.0 parent (sym h.1 ∙ at)))

pub live_left : (m : Mark) → m ≢ Free → m ≢ Doomed → m ≡ Live
live_left Free f d = absurd (f refl)
live_left Doomed f d = absurd (d refl)
live_left Live f d = refl

module _ (ps qs : List Place) (old ts : Things) (start c : ℕ) (p q : Place) (going : Releasing old start ps ts) (change : OneChanged ps qs c p q) where
  -- a child of a doomed place is doomed too
  pub child_doomed : (a : ℕ) (parent : Place) → slice_get ps a ≡ Some parent → parent.mark ≡ Doomed → p.parent ≡ Some a → q ≡ record p { mark = Doomed } → p.mark ≡ Live
      → Releasing old start qs (slice_set ts p.number None)
  child_doomed a parent at_a parent_doomed is_child is live = record {
    hold = doomed_holds ps qs ts c p q going.hold change p.number k.thing is live refl k.at k.place;
    long = length-set ts p.number None ∙ going.long;
    kept = λ m. kept m (equal_or_not m p.number);
    doomed = λ d r at mark. doomed d r at mark (equal_or_not d c);
    root = by_root (equal_or_not start p.number);
  }
    where
      k : IsKnown ts c p.number
      k = going.hold.known c p change.was live

      within : p.number < length ts
      within = slice_get_within ts p.number (Some k.thing) k.at

      was_at : IsAt old p.number k.thing
      was_at = by (going.kept p.number)
        where
          by : (slice_get ts p.number ≡ slice_get old p.number) ⊎ ((slice_get ts p.number ≡ Some None) × IsBelow old start p.number) → IsAt old p.number k.thing
          by (inl e) = sym e ∙ k.at
          by (inr e) = absurd (none-some k.thing (same_Some None (Some k.thing) (sym e.0 ∙ k.at)))

      -- the number of the parent
      parent_number : k.thing.parent ≡ Some parent.number
      parent_number =
          let w = going.hold.shown p.number k.thing k.at in
          let what : w.what ≡ p = same_Some w.what p (sym w.at ∙ ap (slice_get ps) k.place ∙ change.was) in
          parent_is ps a k.thing.parent parent (subst (λ x. ParentIs ps x k.thing.parent) (ap (λ z. z.parent) what ∙ is_child) w.parent) at_a

      below : IsBelow old start p.number
      below =
          let up = going.doomed a parent at_a parent_doomed in
          record { steps = suc up.steps; chain = (k.thing, parent.number, was_at, parent_number, up.chain) }

      kept : (m : ℕ) → (m ≡ p.number) ⊎ (m ≢ p.number) → (slice_get (slice_set ts p.number None) m ≡ slice_get old m) ⊎ ((slice_get (slice_set ts p.number None) m ≡ Some None) × IsBelow old start m)
      kept m (inl e) = inr (ap (slice_get (slice_set ts p.number None)) e ∙ get_same ts p.number None within, subst (IsBelow old start) (sym e) below)
      kept m (inr n) = by (going.kept m)
        where
          by : (slice_get ts m ≡ slice_get old m) ⊎ ((slice_get ts m ≡ Some None) × IsBelow old start m) → (slice_get (slice_set ts p.number None) m ≡ slice_get old m) ⊎ ((slice_get (slice_set ts p.number None) m ≡ Some None) × IsBelow old start m)
          by (inl e) = inl (get_other ts p.number m None n ∙ e)
          by (inr e) = inr (get_other ts p.number m None n ∙ e.0, e.1)

      doomed : (d : ℕ) (r : Place) → slice_get qs d ≡ Some r → r.mark ≡ Doomed → (d ≡ c) ⊎ (d ≢ c) → IsBelow old start r.number
      doomed d r at mark (inl e) =
          let same : q ≡ r = same_Some q r (sym change.is ∙ ap (slice_get qs) (sym e) ∙ at) in
          subst (IsBelow old start) (sym (ap (λ z. z.number) (sym same ∙ is))) below
      doomed d r at mark (inr n) = going.doomed d r (sym (change.others d n) ∙ at) mark

      by_root : (start ≡ p.number) ⊎ (start ≢ p.number) → slice_get (slice_set ts p.number None) start ≡ Some None
      by_root (inl e) = ap (slice_get (slice_set ts p.number None)) e ∙ get_same ts p.number None within
      by_root (inr n) = get_other ts p.number start None n ∙ going.root

  -- a doomed place without children is freed
  pub childless_freed : q ≡ record p { mark = Free } → p.mark ≡ Doomed → ((d : ℕ) (r : Place) → slice_get ps d ≡ Some r → r.mark ≡ Live → r.parent ≢ Some c) → Releasing old start qs ts
  childless_freed is doomed childless = record {
    hold = freed_holds ps qs ts c p q going.hold change is doomed childless;
    long = going.long;
    kept = going.kept;
    doomed = λ d r at mark. by d r at mark (equal_or_not d c);
    root = going.root;
  }
    where
      by : (d : ℕ) (r : Place) → slice_get qs d ≡ Some r → r.mark ≡ Doomed → (d ≡ c) ⊎ (d ≢ c) → IsBelow old start r.number
      by d r at mark (inl e) =
          let same : q ≡ r = same_Some q r (sym change.is ∙ ap (slice_get qs) (sym e) ∙ at) in
          absurd (doomed_not_free (sym mark ∙ ap (λ z. z.mark) (sym same ∙ is)))
      by d r at mark (inr n) = going.doomed d r (sym (change.others d n) ∙ at) mark

-- when no place is doomed any more, all below is gone
module _ (old ts : Things) (start : ℕ) (ps : List Place) (going : Releasing old start ps ts) (none : (c : ℕ) (p : Place) → slice_get ps c ≡ Some p → p.mark ≢ Doomed) where
  gone_along : (s k : ℕ) → Leads old start s k → slice_get ts k ≡ Some None
  gone_along zero k chain = ap (slice_get ts) chain ∙ going.root
  gone_along (suc s) k chain = by (going.kept k) (gone_along s chain.1 chain.4)
    where
      parent_live : (x y : Option ℕ) → ParentIs ps x y → y ≡ Some chain.1 → slice_get ts chain.1 ≡ Some None → ⊥
      parent_live None None h is gone = none-some chain.1 is
      parent_live None (Some m) h is gone = h
      parent_live (Some a) None h is gone = h
      parent_live (Some a) (Some m) h is gone =
          let known = going.hold.known a h.0 h.1 (live_left h.0.mark h.3 (none a h.0 h.1)) in
          let same : h.0.number ≡ chain.1 = h.2 ∙ same_Some m chain.1 is in
          none-some known.thing (same_Some None (Some known.thing) (sym gone ∙ ap (slice_get ts) (sym same) ∙ known.at))

      by : (slice_get ts k ≡ slice_get old k) ⊎ ((slice_get ts k ≡ Some None) × IsBelow old start k) → slice_get ts chain.1 ≡ Some None → slice_get ts k ≡ Some None
      by (inr e) gone = e.0
      by (inl e) gone =
          let w = going.hold.shown k chain.0 (e ∙ chain.2) in
          absurd (parent_live w.what.parent chain.0.parent w.parent chain.3 gone)

  pub all_gone : (k : ℕ) → IsBelow old start k → slice_get ts k ≡ Some None
  all_gone k b = gone_along b.steps k b.chain

  pub none_else : (k : ℕ) → (slice_get ts k ≡ slice_get old k) ⊎ (IsBelow old start k)
  none_else k = by (going.kept k)
    where
      by : (slice_get ts k ≡ slice_get old k) ⊎ ((slice_get ts k ≡ Some None) × IsBelow old start k) → (slice_get ts k ≡ slice_get old k) ⊎ (IsBelow old start k)
      by (inl e) = inl e
      by (inr e) = inr e.1
