-- Places exchange what they have, or one place's objects go to several.
use Rattle.std.proofs.Common.{◌≡◌, ◌⊎◌, inl, inr, ⊎_elim, ℕ, List, refl, sym, ap, ◌∙◌, subst}
use Rattle.vlt_meaning.specs.World.{Owner}
use Rattle.vlt_sound_worlds.specs.Members.{In, IsOnce}
use Rattle.vlt_sound_worlds.specs.Placed.{IsOwned, IsPlaced}
use Rattle.vlt_sound_worlds.proofs.Members.{in_or_not}
use Rattle.vlt_sound_worlds.proofs.Placed.{one_place}

module _ {A : Type 0} (home : A → Owner) where
  -- one of two places, where it is decided which
  either : {X : Type 0} → A → A → X ⊎ (X → ⊥) → A
  either P Q (inl i) = P
  either P Q (inr off) = Q

  either_so : {X : Type 0} (P Q : A) (d : X ⊎ (X → ⊥)) → X → either P Q d ≡ P
  unfolding either
  either_so P Q (inl i) x = refl
  either_so P Q (inr off) x = absurd (off x)

  either_not : {X : Type 0} (P Q : A) (d : X ⊎ (X → ⊥)) → (X → ⊥) → either P Q d ≡ Q
  unfolding either
  either_not P Q (inl i) off = absurd (off i)
  either_not P Q (inr off') off = refl

  -- the objects of one place go to those of others that `to` says
  pub record Spreads (R : A) (to : ℕ → A) (old new : A → List ℕ) (owner owner' : ℕ → Owner) : Type 0 where
    pub came : (n : ℕ) → In n (old R) → In n (new (to n)) × (owner' n ≡ home (to n))
    pub from : (P : A) (n : ℕ) → In n (new P) → (In n (old R) × (to n ≡ P)) ⊎ ((In n (old R) → ⊥) × In n (old P))
    pub stays : (P : A) (n : ℕ) → (In n (old R) → ⊥) → In n (old P) → In n (new P)
    pub keeps : (n : ℕ) → (In n (old R) → ⊥) → IsOwned (owner n) ⊎ IsOwned (owner' n) → owner' n ≡ owner n
    pub once : (P : A) → IsOnce (new P)

  module _ (homes : (P : A) → IsOwned (home P)) {old new : A → List ℕ} {owner owner' : ℕ → Owner}
      (was : IsPlaced old home owner) where
    pub spread : (R : A) (to : ℕ → A) → Spreads R to old new owner owner' → IsPlaced new home owner'
    spread R to s = record {
      place = place;
      there = λ n owned. ⊎_elim
          (λ i.
          let c = s.came n i in
          record {
            has = subst (λ P. In n (new P)) (sym (either_so (to n) (was.place n) (in_or_not n (old R)) i)) c.0;
            lies = ap home (either_so (to n) (was.place n) (in_or_not n (old R)) i) ∙ sym c.1;
          })
          (λ off.
          let same = s.keeps n off (inr owned) in
          let t = was.there n (subst IsOwned same owned) in
          record {
            has =
                subst (λ P. In n (new P)) (sym (either_not (to n) (was.place n) (in_or_not n (old R)) off))
                (s.stays (was.place n) n off t.has);
            lies =
                ap home (either_not (to n) (was.place n) (in_or_not n (old R)) off) ∙ (t.lies ∙ sym same);
          })
          (in_or_not n (old R));
      here = λ P n i. ⊎_elim
          (λ c. (
            either_so (to n) (was.place n) (in_or_not n (old R)) c.0 ∙ c.1,
            (s.came n c.0).1 ∙ ap home c.1,
          ))
          (λ c.
          let h = was.here P n c.1 in
          let owned : IsOwned (owner n) = subst IsOwned (sym h.1) (homes P) in (
            either_not (to n) (was.place n) (in_or_not n (old R)) c.0 ∙ h.0,
            s.keeps n c.0 (inl owned) ∙ h.1,
          ))
          (s.from P n i);
      once = s.once;
    }
      where
        place : ℕ → A
        place n = either (to n) (was.place n) (in_or_not n (old R))

  -- two places exchange what they have
  pub record Exchanges (P Q : A) (old new : A → List ℕ) (owner owner' : ℕ → Owner) : Type 0 where
    pub apart : P ≡ Q → ⊥
    pub first : new P ≡ old Q
    pub second : new Q ≡ old P
    pub others : (R : A) → (R ≡ P → ⊥) → (R ≡ Q → ⊥) → new R ≡ old R
    pub to_first : (n : ℕ) → In n (old Q) → owner' n ≡ home P
    pub to_second : (n : ℕ) → In n (old P) → owner' n ≡ home Q
    pub stays : (n : ℕ) → (In n (old P) → ⊥) → (In n (old Q) → ⊥) → owner' n ≡ owner n

  module _ (eq : (P Q : A) → (P ≡ Q) ⊎ (P ≡ Q → ⊥)) {old new : A → List ℕ} {owner owner' : ℕ → Owner}
      (was : IsPlaced old home owner) where
    pub exchanged : (P Q : A) → Exchanges P Q old new owner owner' → IsPlaced new home owner'
    exchanged P Q s = record {
      place = place;
      there = λ n owned. ⊎_elim
          (λ i. record {
            has = subst (λ R. In n (new R)) (sym (in_first n i)) (subst (In n) (sym s.second) i);
            lies = ap home (in_first n i) ∙ sym (s.to_second n i);
          })
          (λ off. ⊎_elim
          (λ i. record {
            has = subst (λ R. In n (new R)) (sym (in_second n off i)) (subst (In n) (sym s.first) i);
            lies = ap home (in_second n off i) ∙ sym (s.to_first n i);
          })
          (λ off'.
          let same = s.stays n off off' in
          let t = was.there n (subst IsOwned same owned) in
          let not_first : was.place n ≡ P → ⊥ = λ e. off (subst (λ R. In n (old R)) e t.has) in
          let not_second : was.place n ≡ Q → ⊥ = λ e. off' (subst (λ R. In n (old R)) e t.has) in
          record {
            has =
                subst (λ R. In n (new R)) (sym (in_neither n off off'))
                (subst (In n) (sym (s.others (was.place n) not_first not_second)) t.has);
            lies = ap home (in_neither n off off') ∙ (t.lies ∙ sym same);
          })
          (in_or_not n (old Q)))
          (in_or_not n (old P));
      here = λ R n i. ⊎_elim
          (λ (e : R ≡ P).
          let j : In n (old Q) = subst (In n) (ap new e ∙ s.first) i in
          (in_second n (λ k. s.apart (one_place home eq was P Q n k j)) j ∙ sym e, s.to_first n j ∙ ap home (sym e)))
          (λ (a : R ≡ P → ⊥). ⊎_elim
          (λ (e : R ≡ Q).
          let j : In n (old P) = subst (In n) (ap new e ∙ s.second) i in
          (in_first n j ∙ sym e, s.to_second n j ∙ ap home (sym e)))
          (λ (b : R ≡ Q → ⊥).
          let j : In n (old R) = subst (In n) (s.others R a b) i in
          let h = was.here R n j in
          let off : In n (old P) → ⊥ = λ k. a (one_place home eq was R P n j k) in
          let off' : In n (old Q) → ⊥ = λ k. b (one_place home eq was R Q n j k) in
          (in_neither n off off' ∙ h.0, s.stays n off off' ∙ h.1))
          (eq R Q))
          (eq R P);
      once = λ R. ⊎_elim
          (λ (e : R ≡ P). subst IsOnce (sym (ap new e ∙ s.first)) (was.once Q))
          (λ (a : R ≡ P → ⊥). ⊎_elim
          (λ (e : R ≡ Q). subst IsOnce (sym (ap new e ∙ s.second)) (was.once P))
          (λ (b : R ≡ Q → ⊥). subst IsOnce (sym (s.others R a b)) (was.once R))
          (eq R Q))
          (eq R P);
    }
      where
        place : ℕ → A
        place n = either Q (either P (was.place n) (in_or_not n (old Q))) (in_or_not n (old P))

        in_first : (n : ℕ) → In n (old P) → place n ≡ Q
        in_first n i = either_so Q (either P (was.place n) (in_or_not n (old Q))) (in_or_not n (old P)) i

        in_second : (n : ℕ) → (In n (old P) → ⊥) → In n (old Q) → place n ≡ P
        in_second n off i =
            either_not Q (either P (was.place n) (in_or_not n (old Q))) (in_or_not n (old P)) off ∙
            either_so P (was.place n) (in_or_not n (old Q)) i

        in_neither : (n : ℕ) → (In n (old P) → ⊥) → (In n (old Q) → ⊥) → place n ≡ was.place n
        in_neither n off off' =
            either_not Q (either P (was.place n) (in_or_not n (old Q))) (in_or_not n (old P)) off ∙
            either_not P (was.place n) (in_or_not n (old Q)) off'
