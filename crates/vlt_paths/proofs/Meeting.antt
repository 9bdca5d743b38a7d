-- Whether two paths meet one join of a part, put together from its parts.
use Rattle.std.proofs.Common.{◌≡◌, ◌∙◌, ◌↔◌, ◌⊎◌, ◌≤◌, ◌<◌, ℕ, Bool, true, false, IsTrue, List, refl, sym, ap, subst, inl, inr, ⊎_elim, rules, arith}
use Rattle.vlt_core.specs.Found.{One, one_absent}
use Rattle.vlt_core.specs.Faults.{Spot, IsPresent}
use Rattle.vlt_core.specs.Witness.{Choice, IsJoin}
use Rattle.vlt_paths.specs.Along.{State}
use Rattle.vlt_paths.specs.Legs.{Leg, Led}
use Rattle.vlt_paths.specs.Pairs.{Two, AreLed, AreAt, Sight, Sees, IsGone, MeetIn, Meet, Then, Either, AtJoin}

no_true : IsTrue false → ⊥
no_true h = search rules

-- both see the same joins
pub record IsSame (M N : Sight) : Type 1 where
  pub same : (s : Spot) (is : One → Type 0) (o : One) (cs : List Choice) → M (IsJoin s is) o cs ↔ N (IsJoin s is) o cs

-- the joins that are seen have numbers from the one on, and below the other
pub record IsWithin (M : Sight) (low high : ℕ) : Type 1 where
  pub within : (s : Spot) (is : One → Type 0) (o : One) (cs : List Choice) → M (IsJoin s is) o cs → (low ≤ s.number) × (s.number < high)

pub record IsBlind (M : Sight) : Type 1 where
  pub blind : (s : Spot) (is : One → Type 0) (o : One) (cs : List Choice) → M (IsJoin s is) o cs → ⊥

-- ---- what one path sees

to_same : (M N : Sight) → IsSame M N → (v : State) (is : One → Type 0) (s : Spot) → Sees v is M s → Sees v is N s
to_same M N e v is s h = (h.0, h.1, (e.same s is h.0 v.left).0 h.2)

from_same : (M N : Sight) → IsSame M N → (v : State) (is : One → Type 0) (s : Spot) → Sees v is N s → Sees v is M s
from_same M N e v is s h = (h.0, h.1, (e.same s is h.0 v.left).1 h.2)

to_led : (leg : Leg) (M : Sight) (v u : State) → Led leg v u → (is : One → Type 0) (s : Spot) → Sees v is (Then leg M) s → Sees u is M s
to_led leg M v u l is s h =
    let a = (l.there h.2.0 h.2.1.0).0 (h.0, h.1, h.2.1.1) in
    (h.2.0, a.0, subst (λ c. M (IsJoin s is) h.2.0 c) a.1 h.2.1.2)

from_led : (leg : Leg) (M : Sight) (v u : State) → Led leg v u → (is : One → Type 0) (s : Spot) → Sees u is M s → Sees v is (Then leg M) s
from_led leg M v u l is s h = let a = (l.there h.0 u.left).1 (h.1, refl) in (a.0, a.1, (h.0, (u.left, a.2, h.2)))

-- ---- what both see

pub meet_unseen : (M N : Sight) (x : Two) → ((s : Spot) → Sees x.first IsGone M s → Sees x.second IsPresent N s → ⊥) → MeetIn M N x false
meet_unseen M N x f = record { same = (λ h. absurd (no_true h), λ c. absurd (f c.0 c.2 c.3)) }

pub meet_blind : (M : Sight) (x : Two) → IsBlind M → Meet M x false
meet_blind M x f = meet_unseen M M x (λ s a b. f.blind s IsGone a.0 x.first.left a.2)

pub meet_same : (M N : Sight) (x : Two) (b : Bool) → IsSame M N → Meet M x b → Meet N x b
meet_same M N x b e m = record {
  same = (
    λ h. let c = m.same.0 h in (c.0, c.1, to_same M N e x.first IsGone c.0 c.2, to_same M N e x.second IsPresent c.0 c.3),
    λ c. m.same.1 (c.0, c.1, from_same M N e x.first IsGone c.0 c.2, from_same M N e x.second IsPresent c.0 c.3),
  );
}

pub meet_led : (leg : Leg) (M : Sight) (x y : Two) (b : Bool) → AreLed leg x y → Meet M y b → Meet (Then leg M) x b
meet_led leg M x y b l m = record {
  same = (
    λ h. let c = m.same.0 h in (c.0, c.1 ∙ l.place, from_led leg M x.first y.first l.first IsGone c.0 c.2, from_led leg M x.second y.second l.second IsPresent c.0 c.3),
    λ c. m.same.1 (c.0, c.1 ∙ sym l.place, to_led leg M x.first y.first l.first IsGone c.0 c.2, to_led leg M x.second y.second l.second IsPresent c.0 c.3),
  );
}

pub meet_join : (p : Spot) (x : Two) (b : Bool) → (IsTrue b ↔ AreAt p.at x) → Meet (AtJoin p) x b
meet_join p x b e = record {
  same = (
    λ h. let a = e.0 h in (p, a.place, (one_absent, a.gone, (a.first_made, (refl, refl))), (a.present.0, a.present.1, (a.second_made, (refl, a.present.2)))),
    λ c. e.1 (record {
      place = ap (λ s. s.at) c.2.2.1.0 ∙ c.1;
      first_made = c.2.2.0;
      second_made = c.3.2.0;
      gone = subst x.first.brings c.2.2.1.1 c.2.1;
      present = (c.3.0, c.3.1, c.3.2.1.1);
    }),
  );
}

-- ---- one of two parts

module _ (M N : Sight) (x : Two) where
  pub meet_first : Meet M x true → Meet (Either M N) x true
  meet_first m = record {
    same = (
      λ h. let c = m.same.0 h in (c.0, c.1, (c.2.0, c.2.1, inl c.2.2), (c.3.0, c.3.1, inl c.3.2)),
      λ c. search rules,
    );
  }

  pub meet_second : (low mid high : ℕ) (b : Bool) → IsWithin M low mid → IsWithin N mid high → Meet M x false → Meet N x b → Meet (Either M N) x b
  meet_second low mid high b wm wn m n = record {
    same = (
      λ h. let c = n.same.0 h in (c.0, c.1, (c.2.0, c.2.1, inr c.2.2), (c.3.0, c.3.1, inr c.3.2)),
      λ c. by c.0 c.1 c.2.0 c.2.1 c.2.2 c.3.0 c.3.1 c.3.2,
    );
  }
    where
      clash : (n : ℕ) → n < mid → mid ≤ n → ⊥
      clash n l r = omega (arith, l, r)

      by : (s : Spot) → s.at ≡ x.place → (o : One) → x.first.brings o → Either M N (IsJoin s IsGone) o x.first.left → (q : One) → x.second.brings q → Either M N (IsJoin s IsPresent) q x.second.left → IsTrue b
      by s e o c (inl f) q d (inl g) = absurd (no_true (m.same.1 (s, e, (o, c, f), (q, d, g))))
      by s e o c (inr f) q d (inr g) = n.same.1 (s, e, (o, c, f), (q, d, g))
      by s e o c (inl f) q d (inr g) =
          let l = (wm.within s IsGone o x.first.left f).1 in
          let r = (wn.within s IsPresent q x.second.left g).0 in
          absurd (clash s.number l r)
      by s e o c (inr f) q d (inl g) =
          let l = (wm.within s IsPresent q x.second.left g).1 in
          let r = (wn.within s IsGone o x.first.left f).0 in
          absurd (clash s.number l r)

-- ---- turns of one of the paths

abbrev pub with_first : Two → State → Two
with_first x v = record { place = x.place; first = v; second = x.second }

abbrev pub with_second : Two → State → Two
with_second x v = record { place = x.place; first = x.first; second = v }

-- A loop's sight is that of a turn, or by a leg the loop's again.
module _ (A L : Sight) (leg : Leg) (e : IsSame L (Either A (Then leg L))) (M : Sight) (x : Two) where
  here : (v : State) (is : One → Type 0) (s : Spot) → Sees v is A s → Sees v is L s
  here v is s h = from_same L (Either A (Then leg L)) e v is s (h.0, h.1, inl h.2)

  later : (v u : State) → Led leg v u → (is : One → Type 0) (s : Spot) → Sees u is L s → Sees v is L s
  later v u l is s h = let c = from_led leg L v u l is s h in from_same L (Either A (Then leg L)) e v is s (c.0, c.1, inr c.2)

  here_or_later : (v : State) (is : One → Type 0) (s : Spot) → Sees v is L s → Sees v is A s ⊎ Sees v is (Then leg L) s
  here_or_later v is s h = ⊎_elim (λ a. inl (h.0, h.1, a)) (λ a. inr (h.0, h.1, a)) ((e.same s is h.0 v.left).0 h.2)

  pub second_here : MeetIn M A x true → MeetIn M L x true
  second_here m = record {
    same = (λ h. let c = m.same.0 h in (c.0, c.1, c.2, here x.second IsPresent c.0 c.3), λ c. search rules);
  }

  pub second_more : (u : State) (b : Bool) → MeetIn M A x false → Led leg x.second u → MeetIn M L (with_second x u) b → MeetIn M L x b
  second_more u b m l n = record {
    same = (
      λ h. let c = n.same.0 h in (c.0, c.1, c.2, later x.second u l IsPresent c.0 c.3),
      λ c. ⊎_elim
          (λ a. absurd (no_true (m.same.1 (c.0, c.1, c.2, a))))
          (λ a. n.same.1 (c.0, c.1, c.2, to_led leg L x.second u l IsPresent c.0 a))
          (here_or_later x.second IsPresent c.0 c.3),
    );
  }

  pub second_last : ((o q : One) (ds : List Choice) → x.second.brings o → leg o x.second.left q ds → ⊥) → MeetIn M A x false → MeetIn M L x false
  second_last off m = record {
    same = (
      λ h. absurd (no_true h),
      λ c. ⊎_elim
          (λ h. m.same.1 (c.0, c.1, c.2, h))
          (λ h. absurd (off h.0 h.2.0 h.2.1.0 h.1 h.2.1.1))
          (here_or_later x.second IsPresent c.0 c.3),
    );
  }

  pub first_here : MeetIn A M x true → MeetIn L M x true
  first_here m = record {
    same = (λ h. let c = m.same.0 h in (c.0, c.1, here x.first IsGone c.0 c.2, c.3), λ c. search rules);
  }

  pub first_more : (u : State) (b : Bool) → MeetIn A M x false → Led leg x.first u → MeetIn L M (with_first x u) b → MeetIn L M x b
  first_more u b m l n = record {
    same = (
      λ h. let c = n.same.0 h in (c.0, c.1, later x.first u l IsGone c.0 c.2, c.3),
      λ c. ⊎_elim
          (λ a. absurd (no_true (m.same.1 (c.0, c.1, a, c.3))))
          (λ a. n.same.1 (c.0, c.1, to_led leg L x.first u l IsGone c.0 a, c.3))
          (here_or_later x.first IsGone c.0 c.2),
    );
  }

  pub first_last : ((o q : One) (ds : List Choice) → x.first.brings o → leg o x.first.left q ds → ⊥) → MeetIn A M x false → MeetIn L M x false
  first_last off m = record {
    same = (
      λ h. absurd (no_true h),
      λ c. ⊎_elim
          (λ h. m.same.1 (c.0, c.1, h, c.3))
          (λ h. absurd (off h.0 h.2.0 h.2.1.0 h.1 h.2.1.1))
          (here_or_later x.first IsGone c.0 c.2),
    );
  }
