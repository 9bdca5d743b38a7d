-- A place moves from ring to ring.
use Rattle.std.proofs.Common.{◌≡◌, ◌≢◌, ◌⊎◌, inl, inr, ℕ, zero, suc, ◌+◌, ◌*◌, ◌<◌, ◌≤◌, List, [], ◌∷◌, ◌++◌, length, Option, Some, None, refl, sym, ap, ◌∙◌, subst, arith, slice_get, slice_set}
use Rattle.std.proofs.lemmas.Option.{none-some, same_Some, slice_get_within}
use Rattle.std.proofs.lemmas.List.{length-set, length-append}
use Rattle.vlt_rings.specs.Rings.{IsOff, AreApart, IsRing, IsUnlinked, IsInserted}
use Rattle.vlt_rings.proofs.Lists.{equal_or_not, get_same, get_other, get_last, get_push, get_kept, ring_grown, ring_of_one}
use Rattle.vlt_rings.specs.declared.places.Mark.{Mark}
use Rattle.vlt_rings.specs.declared.places.Mark.TheVariants.{Free, Doomed, Live}
use Rattle.vlt_rings.specs.declared.places.Place.{Place}
use Rattle.vlt_rings.specs.Places.{head, member, home_by, home, IsIn, IsMember, HasMembers, IsHead, AreSorted, HaveParents}

-- ---- lists of nodes

record Split (i : ℕ) (xs : List ℕ) : Type 0 where
  before : List ℕ
  after : List ℕ
  is : xs ≡ before ++ i ∷ after

split : (i : ℕ) (xs : List ℕ) → IsIn i xs → Split i xs
split i [] h = absurd h
split i (x ∷ xs) (inl e) = record { before = []; after = xs; is = ap (λ y. y ∷ xs) e }
split i (x ∷ xs) (inr h) = let s = split i xs h in record { before = x ∷ s.before; after = s.after; is = ap (λ l. x ∷ l) s.is }

off_or_in : (i : ℕ) (xs : List ℕ) → IsOff i xs ⊎ IsIn i xs
off_or_in i [] = inl tt
off_or_in i (x ∷ xs) = by (equal_or_not x i) (off_or_in i xs)
  where
    by : (x ≡ i) ⊎ (x ≢ i) → IsOff i xs ⊎ IsIn i xs → IsOff i (x ∷ xs) ⊎ IsIn i (x ∷ xs)
    by (inl e) r = inr (inl e)
    by (inr n) (inl off) = inl (n, off)
    by (inr n) (inr h) = inr (inr h)

off_in : (i x : ℕ) (xs : List ℕ) → IsOff i xs → IsIn x xs → x ≢ i
off_in i x [] off h = absurd h
off_in i x (y ∷ ys) off (inl e) = λ s. off.0 (e ∙ s)
off_in i x (y ∷ ys) off (inr h) = off_in i x ys off.1 h

off_from : (h : ℕ) (xs : List ℕ) → ((x : ℕ) → IsIn x xs → x ≢ h) → IsOff h xs
off_from h [] n = tt
off_from h (x ∷ xs) n = (n x (inl refl), off_from h xs (λ y i. n y (inr i)))

in_parts : (x i : ℕ) (xs ys : List ℕ) → IsIn x (xs ++ i ∷ ys) → x ≢ i → IsIn x (xs ++ ys)
in_parts x i [] ys (inl e) n = absurd (n (sym e))
in_parts x i [] ys (inr h) n = h
in_parts x i (a ∷ xs) ys (inl e) n = inl e
in_parts x i (a ∷ xs) ys (inr h) n = inr (in_parts x i xs ys h n)

in_whole : (x i : ℕ) (xs ys : List ℕ) → IsIn x (xs ++ ys) → IsIn x (xs ++ i ∷ ys)
in_whole x i [] ys h = inr h
in_whole x i (a ∷ xs) ys (inl e) = inl e
in_whole x i (a ∷ xs) ys (inr h) = inr (in_whole x i xs ys h)

off_at : (a i : ℕ) (xs ys : List ℕ) → IsOff a (xs ++ i ∷ ys) → i ≢ a
off_at a i [] ys h = h.0
off_at a i (x ∷ xs) ys h = off_at a i xs ys h.1

apart_rest : (x i : ℕ) (xs ys : List ℕ) → AreApart (xs ++ i ∷ ys) → IsIn x (xs ++ ys) → x ≢ i
apart_rest x i [] ys apart h = off_in i x ys apart.0 h
apart_rest x i (a ∷ xs) ys apart (inl e) = λ s. off_at a i xs ys apart.0 (sym s ∙ sym e)
apart_rest x i (a ∷ xs) ys apart (inr h) = apart_rest x i xs ys apart.1 h

member_same : (c d : ℕ) → member c ≡ member d → c ≡ d
member_same c d e = omega arith

-- ---- one place changes

pub record OneChanged (ps qs : List Place) (c : ℕ) (p q : Place) : Type 0 where
  pub was : slice_get ps c ≡ Some p
  pub is : slice_get qs c ≡ Some q
  pub others : (d : ℕ) → d ≢ c → slice_get qs d ≡ slice_get ps d
  pub long : length qs ≡ length ps
  pub set : qs ≡ slice_set ps c q

pub set_changes : (ps : List Place) (c : ℕ) (p q : Place) → slice_get ps c ≡ Some p → c < length ps → OneChanged ps (slice_set ps c q) c p q
set_changes ps c p q at l = record { was = at; is = get_same ps c q l; others = λ d n. get_other ps c d q n; long = length-set ps c q; set = refl }

module _ (ps qs : List Place) (next new : List ℕ) (c : ℕ) (p q : Place) (sorted : AreSorted ps next) (change : OneChanged ps qs c p q) where
  -- a member of a ring that isn't the changed place
  moved : (h x : ℕ) (m : IsMember ps h x) → x ≢ member c → IsMember qs h x
  moved h x m n = record { place = m.place; what = m.what; is = m.is; at = change.others m.place (λ e. n (m.is ∙ ap member e)) ∙ m.at; home = m.home }

  -- it is taken out
  pub unlinked : home q ≡ None → IsUnlinked (member c) next new → AreSorted qs new
  unlinked none u = record { heads = heads; alone = alone }
    where
      not_changed : (d : ℕ) (r : Place) (h : ℕ) → slice_get qs d ≡ Some r → home r ≡ Some h → d ≢ c
      not_changed d r h at is = λ e.
          let same : q ≡ r = same_Some q r (sym change.is ∙ ap (slice_get qs) (sym e) ∙ at) in
          none-some h (sym none ∙ ap home same ∙ is)

      heads : (h : ℕ) → IsHead h → h ≤ 2 * length qs + 1 → HasMembers qs new h
      heads h is_head l = by (sorted.heads h is_head (let k = change.long in omega arith))
        where
          by : HasMembers ps next h → HasMembers qs new h
          by m = cases (off_or_in (member c) m.nodes)
            where
              cases : IsOff (member c) m.nodes ⊎ IsIn (member c) m.nodes → HasMembers qs new h
              cases (inl off) = record {
                nodes = m.nodes;
                ring = u.others h m.nodes m.ring (is_head c, off);
                are = λ x i. moved h x (m.are x i) (off_in (member c) x m.nodes off i);
                all = λ d r at is. m.all d r (sym (change.others d (not_changed d r h at is)) ∙ at) is;
              }
              cases (inr in_) =
                  let s = split (member c) m.nodes in_ in
                  let ring = subst (λ l. IsRing next h l) s.is m.ring in
                  record {
                    nodes = s.before ++ s.after;
                    ring = u.out h s.before s.after ring;
                    are = λ x i. moved h x (m.are x (subst (IsIn x) (sym s.is) (in_whole x (member c) s.before s.after i))) (apart_rest x (member c) s.before s.after ring.apart.1 i);
                    all = λ d r at is.
                        let n = not_changed d r h at is in
                        in_parts (member d) (member c) s.before s.after (subst (IsIn (member d)) s.is (m.all d r (sym (change.others d n) ∙ at) is)) (λ e. n (member_same d c e));
                  }

      alone : (d : ℕ) (r : Place) → slice_get qs d ≡ Some r → home r ≡ None → IsRing new (member d) []
      alone d r at is = by (equal_or_not d c)
        where
          by : (d ≡ c) ⊎ (d ≢ c) → IsRing new (member d) []
          by (inl e) = subst (λ x. IsRing new (member x) []) (sym e) u.alone
          by (inr n) = u.others (member d) [] (sorted.alone d r (sym (change.others d n) ∙ at) is) ((λ e. n (member_same d c e)), tt)

  -- it stands after h
  pub inserted : (h : ℕ) → home p ≡ None → home q ≡ Some h → IsHead h → IsInserted h (member c) next new → AreSorted qs new
  inserted h none is is_head i = record { heads = heads; alone = alone }
    where
      off_nodes : (k : ℕ) (m : HasMembers ps next k) → IsOff (member c) m.nodes
      off_nodes k m = off_from (member c) m.nodes (λ x in_ e.
          let w = m.are x in_ in
          let same : w.place ≡ c = member_same w.place c (sym w.is ∙ e) in
          let what : w.what ≡ p = same_Some w.what p (sym w.at ∙ ap (slice_get ps) same ∙ change.was) in
          none-some k (sym none ∙ ap home (sym what) ∙ w.home))

      heads : (k : ℕ) → IsHead k → k ≤ 2 * length qs + 1 → HasMembers qs new k
      heads k k_head l = by (equal_or_not k h) (sorted.heads k k_head (let n = change.long in omega arith))
        where
          by : (k ≡ h) ⊎ (k ≢ h) → HasMembers ps next k → HasMembers qs new k
          by (inl e) m = subst (HasMembers qs new) (sym e) (here (subst (HasMembers ps next) e m))
            where
              here : HasMembers ps next h → HasMembers qs new h
              here m = record {
                nodes = member c ∷ m.nodes;
                ring = i.following m.nodes m.ring (is_head c, off_nodes h m);
                are = are;
                all = λ d r at at_h. all d r at at_h (equal_or_not d c);
              }
                where
                  are : (x : ℕ) → IsIn x (member c ∷ m.nodes) → IsMember qs h x
                  are x (inl e) = record { place = c; what = q; is = sym e; at = change.is; home = is }
                  are x (inr in_) = moved h x (m.are x in_) (off_in (member c) x m.nodes (off_nodes h m) in_)

                  all : (d : ℕ) (r : Place) → slice_get qs d ≡ Some r → home r ≡ Some h → (d ≡ c) ⊎ (d ≢ c) → IsIn (member d) (member c ∷ m.nodes)
                  all d r at at_h (inl e) = inl (ap member (sym e))
                  all d r at at_h (inr n) = inr (m.all d r (sym (change.others d n) ∙ at) at_h)
          by (inr n) m = record {
            nodes = m.nodes;
            ring = i.others k m.nodes m.ring (k_head c, off_nodes k m) (n, off_from h m.nodes (λ x in_ e. is_head (m.are x in_).place (sym e ∙ (m.are x in_).is)));
            are = λ x in_. moved k x (m.are x in_) (off_in (member c) x m.nodes (off_nodes k m) in_);
            all = λ d r at at_k.
                let other : d ≢ c = (λ e.
                let same : q ≡ r = same_Some q r (sym change.is ∙ ap (slice_get qs) (sym e) ∙ at) in
                n (same_Some k h (sym at_k ∙ ap home (sym same) ∙ is))) in
                m.all d r (sym (change.others d other) ∙ at) at_k;
          }

      alone : (d : ℕ) (r : Place) → slice_get qs d ≡ Some r → home r ≡ None → IsRing new (member d) []
      alone d r at no_home = by (equal_or_not d c)
        where
          by : (d ≡ c) ⊎ (d ≢ c) → IsRing new (member d) []
          by (inl e) =
              let same : q ≡ r = same_Some q r (sym change.is ∙ ap (slice_get qs) (sym e) ∙ at) in
              absurd (none-some h (sym no_home ∙ ap home (sym same) ∙ is))
          by (inr n) = i.others (member d) [] (sorted.alone d r (sym (change.others d n) ∙ at) no_home) ((λ e. n (member_same d c e)), tt) ((λ e. is_head d (sym e)), tt)

-- ---- a place that is set

set_set : {A : Type 0} (xs : List A) (c : ℕ) (y z : A) → slice_set (slice_set xs c y) c z ≡ slice_set xs c z
set_set [] c y z = refl
set_set (x ∷ xs) zero y z = refl
set_set (x ∷ xs) (suc c) y z = ap (λ l. x ∷ l) (set_set xs c y z)

pub lone : (ps : List Place) (next new : List ℕ) (c : ℕ) (p q : Place) → AreSorted ps next → slice_get ps c ≡ Some p → home q ≡ None → IsUnlinked (member c) next new → AreSorted (slice_set ps c q) new
lone ps next new c p q sorted at none u = unlinked ps (slice_set ps c q) next new c p q sorted (set_changes ps c p q at (slice_get_within ps c p at)) none u

pub rehomed : (ps : List Place) (next between new : List ℕ) (c h : ℕ) (p q : Place) → AreSorted ps next → slice_get ps c ≡ Some p → home q ≡ Some h → IsHead h
    → IsUnlinked (member c) next between → IsInserted h (member c) between new → AreSorted (slice_set ps c q) new
rehomed ps next between new c h p q sorted at is is_head u i =
    let within = slice_get_within ps c p at in
    let free : Place = record { number = 0; mark = Live; parent = None } in
    let mid : AreSorted (slice_set ps c free) between = lone ps next between c p free sorted at refl u in
    let change : OneChanged (slice_set ps c free) (slice_set ps c q) c free q = record {
      was = get_same ps c free within;
      is = get_same ps c q within;
      others = λ d n. get_other ps c d q n ∙ sym (get_other ps c d free n);
      long = length-set ps c q ∙ sym (length-set ps c free);
      set = sym (set_set ps c free q);
    } in
    inserted (slice_set ps c free) (slice_set ps c q) between new c free q mid change h refl is is_head i

-- ---- one place more

-- a place that stands alone
pub lone_place : Place
lone_place = record { number = 0; mark = Live; parent = None }

other_push : {A : Type 0} (xs : List A) (y z : A) (d : ℕ) → d ≢ length xs → slice_get (xs ++ y ∷ []) d ≡ slice_get (xs ++ z ∷ []) d
other_push [] y z zero n = absurd (n refl)
other_push [] y z (suc d) n = refl
other_push (x ∷ xs) y z zero n = refl
other_push (x ∷ xs) y z (suc d) n = other_push xs y z d (λ e. n (ap suc e))

set_last : {A : Type 0} (xs : List A) (y z : A) → slice_set (xs ++ y ∷ []) (length xs) z ≡ xs ++ z ∷ []
set_last [] y z = refl
set_last (x ∷ xs) y z = ap (λ l. x ∷ l) (set_last xs y z)

-- two nodes more, each alone
abbrev pub most : List ℕ → List ℕ
most next = (next ++ length next ∷ []) ++ length (next ++ length next ∷ []) ∷ []

module _ (ps : List Place) (next : List ℕ) (sorted : AreSorted ps next) (parents : HaveParents ps) (long : length next ≡ 2 * length ps + 2) where
  long_more : length (next ++ length next ∷ []) ≡ length next + 1
  long_more = length-append next (length next ∷ [])

  member_grown : (h x : ℕ) → IsMember ps h x → IsMember (ps ++ lone_place ∷ []) h x
  member_grown h x m = record { place = m.place; what = m.what; is = m.is; at = get_kept ps lone_place m.place m.what m.at; home = m.home }

  ring_most : (h : ℕ) (xs : List ℕ) → IsRing next h xs → IsRing (most next) h xs
  ring_most h xs ring = ring_grown (next ++ length next ∷ []) (length (next ++ length next ∷ [])) h xs (ring_grown next (length next) h xs ring)

  -- no place has the new one as its parent
  none_below : (d : ℕ) (r : Place) → slice_get ps d ≡ Some r → home r ≢ Some (head (length ps))
  none_below d r at is = by r.mark r.parent refl is
    where
      by : (m : Mark) (x : Option ℕ) → r.parent ≡ x → home_by m x ≡ Some (head (length ps)) → ⊥
      by Free x e h = let k = same_Some 0 (head (length ps)) h in omega arith
      by Doomed x e h = let k = same_Some 1 (head (length ps)) h in omega arith
      by Live None e h = none-some (head (length ps)) h
      by Live (Some q) e h = let k = same_Some (head q) (head (length ps)) h in let l = parents d q r at e in omega arith

  pub lone_sorted : AreSorted (ps ++ lone_place ∷ []) (most next)
  unfolding lone_place
  lone_sorted = record { heads = heads; alone = alone }
    where
      heads : (h : ℕ) → IsHead h → h ≤ 2 * length (ps ++ lone_place ∷ []) + 1 → HasMembers (ps ++ lone_place ∷ []) (most next) h
      heads h is_head l = by (equal_or_not h (head (length ps)))
        where
          new_ring : IsRing (most next) (head (length ps)) []
          new_ring =
              let e : head (length ps) ≡ length next = omega (arith, long) in
              rw e (ring_grown (next ++ length next ∷ []) (length (next ++ length next ∷ [])) (length next) [] (ring_of_one next (length next) refl))

          by : (h ≡ head (length ps)) ⊎ (h ≢ head (length ps)) → HasMembers (ps ++ lone_place ∷ []) (most next) h
          by (inl e) = subst (HasMembers (ps ++ lone_place ∷ []) (most next)) (sym e) (record {
            nodes = [];
            ring = new_ring;
            are = λ x i. absurd i;
            all = λ d r at is. all d r is (get_push ps lone_place d r at).is;
          })
            where
              all : (d : ℕ) (r : Place) → home r ≡ Some (head (length ps)) → (slice_get ps d ≡ Some r) ⊎ ((d ≡ length ps) × (lone_place ≡ r)) → ⊥
              all d r is (inl old) = none_below d r old is
              all d r is (inr new) = none-some (head (length ps)) (ap home new.1 ∙ is)
          by (inr n) =
              let k : length (ps ++ lone_place ∷ []) ≡ length ps + 1 = length-append ps (lone_place ∷ []) in
              let not_member : h ≢ member (length ps) = is_head (length ps) in
              let m = sorted.heads h is_head (omega arith) in
              record {
                nodes = m.nodes;
                ring = ring_most h m.nodes m.ring;
                are = λ x i. member_grown h x (m.are x i);
                all = λ d r at is. all m d r is (get_push ps lone_place d r at).is;
              }
            where
              all : (m : HasMembers ps next h) (d : ℕ) (r : Place) → home r ≡ Some h → (slice_get ps d ≡ Some r) ⊎ ((d ≡ length ps) × (lone_place ≡ r)) → IsIn (member d) m.nodes
              all m d r is (inl old) = m.all d r old is
              all m d r is (inr new) = absurd (none-some h (ap home new.1 ∙ is))

      alone : (d : ℕ) (r : Place) → slice_get (ps ++ lone_place ∷ []) d ≡ Some r → home r ≡ None → IsRing (most next) (member d) []
      alone d r at none = by (get_push ps lone_place d r at).is
        where
          by : (slice_get ps d ≡ Some r) ⊎ ((d ≡ length ps) × (lone_place ≡ r)) → IsRing (most next) (member d) []
          by (inl old) = ring_most (member d) [] (sorted.alone d r old none)
          by (inr new) =
              let e : member d ≡ length (next ++ length next ∷ []) = omega (arith, long, new.0, long_more) in
              rw e (ring_of_one (next ++ length next ∷ []) (length (next ++ length next ∷ [])) refl)

  -- the new place is free
  pub free_sorted : (new : List ℕ) (q : Place) → home q ≡ Some 0 → IsInserted 0 (member (length ps)) (most next) new → AreSorted (ps ++ q ∷ []) new
  unfolding lone_place
  free_sorted new q is i = inserted (ps ++ lone_place ∷ []) (ps ++ q ∷ []) (most next) new (length ps) lone_place q lone_sorted change 0 refl is free_ring i
    where
      free_ring : IsHead 0
      free_ring c e = omega arith

      others : (d : ℕ) → d ≢ length ps → slice_get (ps ++ q ∷ []) d ≡ slice_get (ps ++ lone_place ∷ []) d
      others d n = other_push ps q lone_place d n

      change : OneChanged (ps ++ lone_place ∷ []) (ps ++ q ∷ []) (length ps) lone_place q
      change = record {
        was = get_last ps lone_place;
        is = get_last ps q;
        others = others;
        long = length-append ps (q ∷ []) ∙ sym (length-append ps (lone_place ∷ []));
        set = sym (set_last ps lone_place q);
      }
