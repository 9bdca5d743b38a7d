-- Each change of places keeps each owned object at one.
use Rattle.std.proofs.Common.{◌≡◌, ◌⊎◌, inl, inr, ⊎_elim, ℕ, Bool, false, List, ◌++◌, refl, sym, ap, ◌∙◌, subst}
use Rattle.vlt_meaning.specs.World.{Owner}
use Rattle.vlt_sound_worlds.specs.Members.{In, IsOnce}
use Rattle.vlt_sound_worlds.specs.Placed.{IsOwned, IsPlaced, OwnsThese, Shifts, Takes, LetsGo}
use Rattle.vlt_sound_worlds.proofs.Members.{in_or_not, in_left, in_right, in_either, once_left, once_right, once_apart, once_both}

module _ {A : Type 0} (home : A → Owner) (eq : (P Q : A) → (P ≡ Q) ⊎ (P ≡ Q → ⊥)) where
  -- the place of what is in the list, and of other objects
  pick : {X : Type 0} → A → A → X ⊎ (X → ⊥) → A
  pick Q P (inl i) = Q
  pick Q P (inr off) = P

  new_place : List ℕ → A → (ℕ → A) → ℕ → A
  new_place xs Q place n = pick Q (place n) (in_or_not n xs)

  placed_in : (xs : List ℕ) (Q : A) (place : ℕ → A) (n : ℕ) → In n xs → new_place xs Q place n ≡ Q
  unfolding pick new_place
  placed_in xs Q place n i = by (in_or_not n xs)
    where
      by : (d : In n xs ⊎ (In n xs → ⊥)) → pick Q (place n) d ≡ Q
      by (inl j) = refl
      by (inr off) = absurd (off i)

  placed_out : (xs : List ℕ) (Q : A) (place : ℕ → A) (n : ℕ) → (In n xs → ⊥) → new_place xs Q place n ≡ place n
  unfolding pick new_place
  placed_out xs Q place n off = by (in_or_not n xs)
    where
      by : (d : In n xs ⊎ (In n xs → ⊥)) → pick Q (place n) d ≡ place n
      by (inl j) = absurd (off j)
      by (inr k) = refl

  -- an object is at one place
  pub one_place : {old : A → List ℕ} {owner : ℕ → Owner} → IsPlaced old home owner → (P Q : A) (n : ℕ) →
      In n (old P) → In n (old Q) → P ≡ Q
  one_place was P Q n i j = sym (was.here P n i).0 ∙ (was.here Q n j).0

  module _ {old new : A → List ℕ} {owner owner' : ℕ → Owner} (was : IsPlaced old home owner) where
    pub shifted : (R Q : A) (xs ys zs : List ℕ) → Shifts R Q xs ys zs old new →
        OwnsThese xs (home Q) owner owner' → IsPlaced new home owner'
    shifted R Q xs ys zs s o = record {
      place = new_place xs Q was.place;
      there = λ n owned. ⊎_elim
          (λ i. record {
            has =
                subst (λ P. In n (new P)) (sym (placed_in xs Q was.place n i))
                (subst (In n) (sym s.now) (in_right n zs xs i));
            lies = ap home (placed_in xs Q was.place n i) ∙ sym (o.those n i);
          })
          (λ off.
          let t = was.there n (subst IsOwned (o.others n off) owned) in
          record {
            has = subst (λ P. In n (new P)) (sym (placed_out xs Q was.place n off)) (stays (was.place n) n off t.has);
            lies = ap home (placed_out xs Q was.place n off) ∙ (t.lies ∙ sym (o.others n off));
          })
          (in_or_not n xs);
      here = λ P n i. ⊎_elim
          (λ (j : In n xs). (placed_in xs Q was.place n j ∙ to_is P n i j, o.those n j ∙ ap home (to_is P n i j)))
          (λ off.
          let h = was.here P n (stayed P n off i) in
          (placed_out xs Q was.place n off ∙ h.0, o.others n off ∙ h.1))
          (in_or_not n xs);
      once = once;
    }
      where
        whole : IsOnce (xs ++ ys)
        whole = subst IsOnce s.was (was.once R)

        in_from : (n : ℕ) → In n xs → In n (old R)
        in_from n i = subst (In n) (sym s.was) (in_left n xs ys i)

        stays : (P : A) (n : ℕ) → (In n xs → ⊥) → In n (old P) → In n (new P)
        stays P n off i = ⊎_elim
            (λ (e : P ≡ R). ⊎_elim (λ x. absurd (off x)) (λ y. subst (λ P. In n (new P)) (sym e) (subst (In n) (sym s.left) y))
            (in_either n xs ys (subst (In n) (ap old e ∙ s.was) i)))
            (λ (r : P ≡ R → ⊥). ⊎_elim
            (λ (e : P ≡ Q). subst (λ P. In n (new P)) (sym e) (subst (In n) (sym s.now) (in_left n zs xs (subst (In n) (ap old e ∙ s.before) i))))
            (λ (q : P ≡ Q → ⊥). subst (In n) (sym (s.others P r q)) i)
            (eq P Q))
            (eq P R)

        stayed : (P : A) (n : ℕ) → (In n xs → ⊥) → In n (new P) → In n (old P)
        stayed P n off i = ⊎_elim
            (λ (e : P ≡ R). subst (λ P. In n (old P)) (sym e) (subst (In n) (sym s.was) (in_right n xs ys (subst (In n) (ap new e ∙ s.left) i))))
            (λ (r : P ≡ R → ⊥). ⊎_elim
            (λ (e : P ≡ Q). ⊎_elim (λ z. subst (λ P. In n (old P)) (sym e) (subst (In n) (sym s.before) z)) (λ x. absurd (off x))
            (in_either n zs xs (subst (In n) (ap new e ∙ s.now) i)))
            (λ (q : P ≡ Q → ⊥). subst (In n) (s.others P r q) i)
            (eq P Q))
            (eq P R)

        -- what was shifted is where it was shifted to
        to_is : (P : A) (n : ℕ) → In n (new P) → In n xs → Q ≡ P
        to_is P n i j = ⊎_elim
            (λ (e : P ≡ R). absurd (once_apart xs ys whole n j (subst (In n) (ap new e ∙ s.left) i)))
            (λ (r : P ≡ R → ⊥). ⊎_elim
            (λ (e : P ≡ Q). sym e)
            (λ (q : P ≡ Q → ⊥). absurd (r (one_place was P R n (subst (In n) (s.others P r q) i) (in_from n j))))
            (eq P Q))
            (eq P R)

        once : (P : A) → IsOnce (new P)
        once P = ⊎_elim
            (λ (e : P ≡ R). subst IsOnce (sym (ap new e ∙ s.left)) (once_right xs ys whole))
            (λ (r : P ≡ R → ⊥). ⊎_elim
            (λ (e : P ≡ Q). subst IsOnce (sym (ap new e ∙ s.now))
            (once_both zs xs (subst IsOnce s.before (was.once Q)) (once_left xs ys whole)
            (λ n z x. s.apart (one_place was R Q n (in_from n x) (subst (In n) (sym s.before) z)))))
            (λ (q : P ≡ Q → ⊥). subst IsOnce (sym (s.others P r q)) (was.once P))
            (eq P Q))
            (eq P R)

    -- objects that were at no place come to one
    pub taken : (Q : A) (xs zs : List ℕ) → Takes Q xs zs old new → IsOnce xs →
        ((n : ℕ) → In n xs → (P : A) → In n (old P) → ⊥) →
        OwnsThese xs (home Q) owner owner' → IsPlaced new home owner'
    taken Q xs zs s apart out o = record {
      place = new_place xs Q was.place;
      there = λ n owned. ⊎_elim
          (λ i. record {
            has =
                subst (λ P. In n (new P)) (sym (placed_in xs Q was.place n i))
                (subst (In n) (sym s.now) (in_right n zs xs i));
            lies = ap home (placed_in xs Q was.place n i) ∙ sym (o.those n i);
          })
          (λ off.
          let t = was.there n (subst IsOwned (o.others n off) owned) in
          record {
            has = subst (λ P. In n (new P)) (sym (placed_out xs Q was.place n off)) (stays (was.place n) n t.has);
            lies = ap home (placed_out xs Q was.place n off) ∙ (t.lies ∙ sym (o.others n off));
          })
          (in_or_not n xs);
      here = λ P n i. ⊎_elim
          (λ (j : In n xs). (placed_in xs Q was.place n j ∙ to_is P n i j, o.those n j ∙ ap home (to_is P n i j)))
          (λ off.
          let h = was.here P n (stayed P n off i) in
          (placed_out xs Q was.place n off ∙ h.0, o.others n off ∙ h.1))
          (in_or_not n xs);
      once = λ P. ⊎_elim
          (λ (e : P ≡ Q). subst IsOnce (sym (ap new e ∙ s.now))
          (once_both zs xs (subst IsOnce s.before (was.once Q)) apart (λ n z x. out n x Q (subst (In n) (sym s.before) z))))
          (λ (q : P ≡ Q → ⊥). subst IsOnce (sym (s.others P q)) (was.once P))
          (eq P Q);
    }
      where
        stays : (P : A) (n : ℕ) → In n (old P) → In n (new P)
        stays P n i = ⊎_elim
            (λ (e : P ≡ Q). subst (λ P. In n (new P)) (sym e) (subst (In n) (sym s.now) (in_left n zs xs (subst (In n) (ap old e ∙ s.before) i))))
            (λ (q : P ≡ Q → ⊥). subst (In n) (sym (s.others P q)) i)
            (eq P Q)

        stayed : (P : A) (n : ℕ) → (In n xs → ⊥) → In n (new P) → In n (old P)
        stayed P n off i = ⊎_elim
            (λ (e : P ≡ Q). ⊎_elim (λ z. subst (λ P. In n (old P)) (sym e) (subst (In n) (sym s.before) z)) (λ x. absurd (off x))
            (in_either n zs xs (subst (In n) (ap new e ∙ s.now) i)))
            (λ (q : P ≡ Q → ⊥). subst (In n) (s.others P q) i)
            (eq P Q)

        to_is : (P : A) (n : ℕ) → In n (new P) → In n xs → Q ≡ P
        to_is P n i j = ⊎_elim
            (λ (e : P ≡ Q). sym e)
            (λ (q : P ≡ Q → ⊥). absurd (out n j P (subst (In n) (s.others P q) i)))
            (eq P Q)

    -- objects of a place get an owner that is no place
    pub let_go : (R : A) (xs ys : List ℕ) (q : Owner) → (IsOwned q → ⊥) → LetsGo R xs ys old new →
        OwnsThese xs q owner owner' → IsPlaced new home owner'
    let_go R xs ys q unowned s o = record {
      place = was.place;
      there = λ n owned. ⊎_elim
          (λ i. absurd (unowned (subst IsOwned (o.those n i) owned)))
          (λ off.
          let t = was.there n (subst IsOwned (o.others n off) owned) in
          record { has = stays (was.place n) n off t.has; lies = t.lies ∙ sym (o.others n off) })
          (in_or_not n xs);
      here = λ P n i.
          let j = stayed P n i in
          let h = was.here P n j.0 in
          (h.0, o.others n j.1 ∙ h.1);
      once = λ P. ⊎_elim
          (λ (e : P ≡ R). subst IsOnce (sym (ap new e ∙ s.left)) (once_right xs ys whole))
          (λ (r : P ≡ R → ⊥). subst IsOnce (sym (s.others P r)) (was.once P))
          (eq P R);
    }
      where
        whole : IsOnce (xs ++ ys)
        whole = subst IsOnce s.was (was.once R)

        stays : (P : A) (n : ℕ) → (In n xs → ⊥) → In n (old P) → In n (new P)
        stays P n off i = ⊎_elim
            (λ (e : P ≡ R). ⊎_elim (λ x. absurd (off x)) (λ y. subst (λ P. In n (new P)) (sym e) (subst (In n) (sym s.left) y))
            (in_either n xs ys (subst (In n) (ap old e ∙ s.was) i)))
            (λ (r : P ≡ R → ⊥). subst (In n) (sym (s.others P r)) i)
            (eq P R)

        stayed : (P : A) (n : ℕ) → In n (new P) → In n (old P) × (In n xs → ⊥)
        stayed P n i = ⊎_elim
            (λ (e : P ≡ R).
            let y = subst (In n) (ap new e ∙ s.left) i in
            (subst (λ P. In n (old P)) (sym e) (subst (In n) (sym s.was) (in_right n xs ys y)), λ x. once_apart xs ys whole n x y))
            (λ (r : P ≡ R → ⊥).
            let j = subst (In n) (s.others P r) i in
            (j, λ x. r (one_place was P R n j (subst (In n) (sym s.was) (in_left n xs ys x)))))
            (eq P R)

    -- nothing that a place has changes
    pub kept : ((P : A) → new P ≡ old P) → ((n : ℕ) → IsOwned (owner n) → owner' n ≡ owner n) →
        ((n : ℕ) → IsOwned (owner' n) → owner' n ≡ owner n) →
        ((P : A) → IsOwned (home P)) → IsPlaced new home owner'
    kept same to back homes = record {
      place = was.place;
      there = λ n owned.
          let e = back n owned in
          let t = was.there n (subst IsOwned e owned) in
          record { has = subst (In n) (sym (same (was.place n))) t.has; lies = t.lies ∙ sym e };
      here = λ P n i.
          let h = was.here P n (subst (In n) (same P) i) in
          (h.0, to n (subst IsOwned (sym h.1) (homes P)) ∙ h.1);
      once = λ P. subst IsOnce (sym (same P)) (was.once P);
    }

    -- what passes the test is at no place any more, and what doesn't stays
    pub vanished : (test : ℕ → Bool) → ((P : A) (n : ℕ) → In n (new P) → In n (old P) × (test n ≡ false)) →
        ((P : A) (n : ℕ) → In n (old P) → test n ≡ false → In n (new P)) → ((P : A) → IsOnce (new P)) →
        ((n : ℕ) → IsOwned (owner' n) → test n ≡ false) → ((n : ℕ) → test n ≡ false → owner' n ≡ owner n) →
        IsPlaced new home owner'
    vanished test back to once out others = record {
      place = was.place;
      there = λ n owned.
          let f = out n owned in
          let t = was.there n (subst IsOwned (others n f) owned) in
          record { has = to (was.place n) n t.has f; lies = t.lies ∙ sym (others n f) };
      here = λ P n i.
          let b = back P n i in
          let h = was.here P n b.0 in
          (h.0, others n b.1 ∙ h.1);
      once = once;
    }

    -- places are named anew
    pub renamed : (r : A → A) → ((P : A) (n : ℕ) → In n (old P) → In n (new (r P)) × (home (r P) ≡ home P)) →
        ((P : A) (n : ℕ) → In n (new P) → (Q : A) × (r Q ≡ P) × In n (old Q)) → ((P : A) → IsOnce (new P)) →
        ((n : ℕ) → owner' n ≡ owner n) → IsPlaced new home owner'
    renamed r to back once same = record {
      place = λ n. r (was.place n);
      there = λ n owned.
          let t = was.there n (subst IsOwned (same n) owned) in
          let u = to (was.place n) n t.has in
          record { has = u.0; lies = u.1 ∙ (t.lies ∙ sym (same n)) };
      here = λ P n i.
          let b = back P n i in
          let h = was.here b.0 n b.2 in
          let u = to b.0 n b.2 in
          (ap r h.0 ∙ b.1, same n ∙ (h.1 ∙ (sym u.1 ∙ ap home b.1)));
      once = once;
    }
