-- What is below objects that are released one after another.
use Rattle.std.proofs.Common.{◌≡◌, inl, inr, ⊎_elim, ℕ, zero, suc, ◌+◌, ◌<◌, ◌≤◌, Bool, true, false, ◌||◌, ◌&&◌, not, IsTrue, List, [], ◌∷◌, length, Some, refl, sym, ap, ◌∙◌, subst, arith, slice_get}
use Rattle.std.proofs.lemmas.Bool.{cases_eq, cases_Bool}
use Rattle.std.proofs.lemmas.List.{length-map}
use Rattle.std.proofs.lemmas.List.FromFn.{length-enumerate_from}
use Rattle.std.specs.List.{list_all, enumerate_from}
use Rattle.vlt_core.specs.Core.{Program}
use Rattle.vlt_core.specs.Lookups.{release_set}
use Rattle.vlt_meaning.specs.World.{Object, above, gone}
use Rattle.vlt_meaning.specs.Objects.{is_under, is_releasable, objects_after_release, with_owner}
use Rattle.vlt_sound_worlds.specs.Look.{look, EndsThose}
use Rattle.vlt_sound_worlds.specs.Ranks.{IsRanked}
use Rattle.vlt_sound_worlds.specs.Below.{HasUpper, IsBelowTest}
use Rattle.vlt_sound_worlds.proofs.Look.{look_is, ends_those}
use Rattle.vlt_sound_worlds.proofs.Below.{below_test, ranked_released}
use Rattle.vlt_sound_worlds.specs.Members.{In}
use Rattle.vlt_sound_worlds.proofs.Plain.{neither}
use Rattle.vlt_sound_statements.specs.Ended.{AreEnded}

-- what holds of an object, and goes from each to what is in or was adopted by it, holds of all below
module _ (os : List Object) (n : ℕ) (within : n < length os) (ranked : IsRanked (look os)) (P : ℕ → Type 0) (top : P n)
    (step : (m p : ℕ) → above (look os m).owner ≡ Some p → P p → P m) where
  by_rank : (fuel m : ℕ) → ranked.top ≤ ranked.rank m + fuel → is_under os (n ∷ []) m ≡ true → P m
  by_rank zero m le t = let lt = ranked.under m in absurd (omega arith)
  by_rank (suc fuel) m le t = ⊎_elim
      (λ same. subst P (sym same) top)
      (λ other.
      let up = (below_test os n within).down m t other in
      let lt = (ranked.linked m up.upper up.is).lower in
      step m up.upper up.is (by_rank fuel up.upper (omega arith) up.passes))
      (cases_eq m n)

  pub all_below : (m : ℕ) → is_under os (n ∷ []) m ≡ true → P m
  all_below m t = by_rank ranked.top m (omega arith) t

-- a test that each element of a list passes with its number
all_numbered : {A : Type 0} (test : ℕ × A → Bool) (i : ℕ) (xs : List A) →
    ((m : ℕ) (x : A) → slice_get xs m ≡ Some x → test (i + m, x) ≡ true) → list_all test (enumerate_from i xs) ≡ true
all_numbered test i [] all = refl
all_numbered test i (x ∷ xs) all =
    both (test (i, x)) (list_all test (enumerate_from (i + 1) xs)) (ap (λ j. test (j, x)) (omega arith) ∙ all 0 x refl)
    (all_numbered test (i + 1) xs (λ m y at. ap (λ j. test (j, y)) (omega arith) ∙ all (suc m) y at))
  where
    both : (a b : Bool) → a ≡ true → b ≡ true → (a && b) ≡ true
    both true b e q = q
    both false b e q = e

pub releasable : (p : Program) (os : List Object) (n : ℕ) →
    ((m : ℕ) → is_under os (n ∷ []) m ≡ true → IsTrue (release_set p (look os m).type (look os m).state)) →
    is_releasable p os n ≡ true
releasable p os n all =
    all_numbered (λ q. not (is_under os (n ∷ []) q.0) || release_set p q.1.type q.1.state) 0 os (λ m o at.
    ap (λ j. not (is_under os (n ∷ []) j) || release_set p o.type o.state) (plus_none m) ∙
    by (is_under os (n ∷ []) m) (release_set p o.type o.state)
    (λ t. subst (λ o. release_set p o.type o.state ≡ true) (look_is os m o at) (all m t)) refl)
  where
    plus_none : (m : ℕ) → 0 + m ≡ m
    plus_none m = omega arith

    by : (b c : Bool) → (b ≡ true → c ≡ true) → b ≡ b → (not b || c) ≡ true
    by true c to e = to refl
    by false c to e = refl

pub length_released : (n : ℕ) (os : List Object) → length (objects_after_release n os) ≡ length os
length_released n os = length-map (enumerate_from 0 os) _ ∙ length-enumerate_from 0 os

or_left : (a b : Bool) → a ≡ true → (a || b) ≡ true
or_left true b e = refl
or_left false b e = cc

or_right : (a b : Bool) → b ≡ true → (a || b) ≡ true
or_right true b e = refl
or_right false b e = e

or_other : (a b : Bool) → a ≡ false → (a || b) ≡ true → b ≡ true
or_other true b e q = cc
or_other false b e q = q

pub ended_none : (os : List Object) → IsRanked (look os) → AreEnded [] os os
ended_none os ranked = record {
  test = λ m. false;
  ends = record { those = λ m t. absurd (clash t); others = λ m f. refl };
  below =
      record { itself = λ m i. absurd i; up = λ m p e t. t; down = λ m t off. absurd (clash t) };
  ranked = ranked;
  long = refl;
}
  where
    clash : false ≡ true → ⊥
    clash e = cc

-- one more is released, which wasn't yet
pub ended_more : (xs : List ℕ) (os os1 : List Object) (a : AreEnded xs os os1) (n : ℕ) → n < length os →
    AreEnded (n ∷ xs) os (objects_after_release n os1)
ended_more xs os os1 a n within = record {
  test = test;
  ends = record { those = those; others = others };
  below = record {
    itself = λ m i. ⊎_elim
        (λ e. ap test e ∙ or_right (a.test n) (under n) b.itself)
        (λ rest. or_left (a.test m) (under m) (a.below.itself m rest))
        i;
    up = up;
    down = down;
  };
  ranked = ranked_released os1 n within1 a.ranked;
  long = length_released n os1 ∙ a.long;
}
  where
    under : ℕ → Bool
    under = is_under os1 (n ∷ [])

    test : ℕ → Bool
    test m = a.test m || under m

    within1 : n < length os1
    within1 = subst (λ l. n < l) (sym a.long) within

    b : IsBelowTest (look os1) n under
    b = below_test os1 n within1

    e1 : EndsThose under (look os1) (look (objects_after_release n os1))
    e1 = ends_those os1 n

    those : (m : ℕ) → test m ≡ true → look (objects_after_release n os1) m ≡ with_owner gone (look os m)
    those m t = ⊎_elim
        (λ was. ⊎_elim
        (λ now. e1.those m now ∙ ap (with_owner gone) (a.ends.those m was))
        (λ still. e1.others m still ∙ a.ends.those m was)
        (cases_Bool (under m)))
        (λ off. e1.those m (or_other (a.test m) (under m) off t) ∙ ap (with_owner gone) (a.ends.others m off))
        (cases_Bool (a.test m))

    others : (m : ℕ) → test m ≡ false → look (objects_after_release n os1) m ≡ look os m
    others m f =
        let both = neither (a.test m) (under m) f in
        e1.others m both.1 ∙ a.ends.others m both.0

    up : (m p : ℕ) → above (look os m).owner ≡ Some p → test p ≡ true → test m ≡ true
    up m p e t = ⊎_elim
        (λ was. or_left (a.test m) (under m) (a.below.up m p e was))
        (λ off. ⊎_elim
        (λ mine. or_left (a.test m) (under m) mine)
        (λ free. or_right (a.test m) (under m)
        (b.up m p (ap (λ o. above o.owner) (a.ends.others m free) ∙ e) (or_other (a.test p) (under p) off t)))
        (cases_Bool (a.test m)))
        (cases_Bool (a.test p))

    down : (m : ℕ) → test m ≡ true → (In m (n ∷ xs) → ⊥) → HasUpper (look os) test m
    down m t off = ⊎_elim
        (λ was.
        let u = a.below.down m was (λ i. off (inr i)) in
        record { upper = u.upper; is = u.is; passes = or_left (a.test u.upper) (under u.upper) u.passes })
        (λ free.
        let u = b.down m (or_other (a.test m) (under m) free t) (λ e. off (inl e)) in
        record {
          upper = u.upper;
          is = ap (λ o. above o.owner) (sym (a.ends.others m free)) ∙ u.is;
          passes = or_right (a.test u.upper) (under u.upper) u.passes;
        })
        (cases_Bool (a.test m))
