-- The origins of a function's instances: those that are listed are its origins, and ascend.
use Rattle.std.proofs.Common.{◌≡◌, ◌≤◌, ◌<◌, ◌+◌, refl, sym, ap, ◌∙◌, subst, ℕ, zero, suc, nat_lt, ◌==◌, ◌&&◌, Bool, true, false, true≢false, if◌then◌else◌, List, [], ◌∷◌, map, filter, length, get_or, Option, Some, None, option_map, slice_get, arith}
use Rattle.std.specs.List.{range_with_len}
use Rattle.std.proofs.lemmas.Bool.Decides.{nat_tests}
use Rattle.std.proofs.lemmas.Option.{slice_get-map, slice_get-get_or}
use Rattle.vlt_core.specs.Core.{Func, Program}
use Rattle.vlt_core.specs.Lookups.{state_count, every_state, all_states, links_of_type, leads_up, key_type, key_states_up_to, up_to_in}
use Rattle.vlt_core.specs.Instances.{Bound, bound_in, IsOriginOf, IsOrigin, origins}
use Rattle.vlt_core.specs.Faults.{IsNoLaterOrigin}

-- ---- numbers that pass a test

same_or : (m n : ℕ) → m ≤ n → (n == m) ≡ false → m + 1 ≤ n
same_or m n h is = grind (arith, nat_tests)

same_so : (m n : ℕ) → (n == m) ≡ true → n ≡ m
same_so m n is = grind (arith, nat_tests)

some_same : {X : Type 0} {x y : X} → Some x ≡ Some y → x ≡ y
some_same e = cc

none_there : {X : Type 0} {x : X} → (let o : Option X = None in o ≡ Some x) → ⊥
none_there e = cc

module _ (P : ℕ → Bool) where
  -- the position of such a number
  found : (a n o : ℕ) → a ≤ o → o < a + n → P o ≡ true → (i : ℕ) × (slice_get (filter P (range_with_len a n)) i ≡ Some o)
  found a zero o low high is = absurd (omega (arith, low, high))
  found a (suc n) o low high is = by (λ l. found (a + 1) n o l (omega (arith, high)) is) (o == a) refl
    where
      first : o ≡ a → (i : ℕ) × (slice_get (filter P (a ∷ range_with_len (a + 1) n)) i ≡ Some o)
      first e = (0, ap (λ b. slice_get (if b then a ∷ filter P (range_with_len (a + 1) n) else filter P (range_with_len (a + 1) n)) 0) (sym (ap P e) ∙ is) ∙ ap Some (sym e))

      later : (i : ℕ) × (slice_get (filter P (range_with_len (a + 1) n)) i ≡ Some o) → (b : Bool) → P a ≡ b → (i : ℕ) × (slice_get (filter P (a ∷ range_with_len (a + 1) n)) i ≡ Some o)
      later x true e = (suc x.0, ap (λ b. slice_get (if b then a ∷ filter P (range_with_len (a + 1) n) else filter P (range_with_len (a + 1) n)) (suc x.0)) e ∙ x.1)
      later x false e = (x.0, ap (λ b. slice_get (if b then a ∷ filter P (range_with_len (a + 1) n) else filter P (range_with_len (a + 1) n)) x.0) e ∙ x.1)

      by : (a + 1 ≤ o → (i : ℕ) × (slice_get (filter P (range_with_len (a + 1) n)) i ≡ Some o)) → (b : Bool) → (o == a) ≡ b → (i : ℕ) × (slice_get (filter P (a ∷ range_with_len (a + 1) n)) i ≡ Some o)
      by go true e = first (same_so a o e)
      by go false e = later (go (same_or a o low e)) (P a) refl

  -- what is at a position passes the test, and is no less than the first number
  passing : (a n i o : ℕ) → slice_get (filter P (range_with_len a n)) i ≡ Some o → (P o ≡ true) × (a ≤ o)
  passing a zero i o there = absurd (none_there there)
  passing a (suc n) i o there = by (λ j at. passing (a + 1) n j o at) (P a) refl
    where
      in_rest : (P o ≡ true) × (a + 1 ≤ o) → (P o ≡ true) × (a ≤ o)
      in_rest r = (r.0, (let l = r.1 in omega (arith, l)))

      at_first : ((j : ℕ) → slice_get (filter P (range_with_len (a + 1) n)) j ≡ Some o → (P o ≡ true) × (a + 1 ≤ o)) → P a ≡ true →
          (i : ℕ) → slice_get (a ∷ filter P (range_with_len (a + 1) n)) i ≡ Some o → (P o ≡ true) × (a ≤ o)
      at_first more is zero at = let e = some_same at in (ap P (sym e) ∙ is, (omega (arith, e)))
      at_first more is (suc i) at = in_rest (more i at)

      by : ((j : ℕ) → slice_get (filter P (range_with_len (a + 1) n)) j ≡ Some o → (P o ≡ true) × (a + 1 ≤ o)) → (b : Bool) → P a ≡ b → (P o ≡ true) × (a ≤ o)
      by more true is = at_first more is i (ap (λ b. slice_get (if b then a ∷ filter P (range_with_len (a + 1) n) else filter P (range_with_len (a + 1) n)) i) (sym is) ∙ there)
      by more false is = in_rest (more i (ap (λ b. slice_get (if b then a ∷ filter P (range_with_len (a + 1) n) else filter P (range_with_len (a + 1) n)) i) (sym is) ∙ there))

  abbrev Ascends : (a n o q : ℕ) → Type 0
  Ascends a n o q = (i j : ℕ) → i ≤ j → slice_get (filter P (range_with_len a n)) i ≡ Some o → slice_get (filter P (range_with_len a n)) j ≡ Some q → o ≤ q

  -- they ascend
  ascending : (a n i j o q : ℕ) → i ≤ j → slice_get (filter P (range_with_len a n)) i ≡ Some o → slice_get (filter P (range_with_len a n)) j ≡ Some q → o ≤ q
  ascending a zero i j o q l at there = absurd (none_there at)
  ascending a (suc n) i j o q l at there = by (λ i j l at there. ascending (a + 1) n i j o q l at there) (P a) refl
    where
      at_first : Ascends (a + 1) n o q → (i j : ℕ) → i ≤ j → slice_get (a ∷ filter P (range_with_len (a + 1) n)) i ≡ Some o → slice_get (a ∷ filter P (range_with_len (a + 1) n)) j ≡ Some q → o ≤ q
      at_first more zero zero l at there = let e = some_same (sym at ∙ there) in omega (arith, e)
      at_first more zero (suc j) l at there = let e = some_same at in let r = passing (a + 1) n j q there in let m = r.1 in omega (arith, e, m)
      at_first more (suc i) zero l at there = absurd (omega (arith, l))
      at_first more (suc i) (suc j) l at there = more i j (omega (arith, l)) at there

      by : Ascends (a + 1) n o q → (b : Bool) → P a ≡ b → o ≤ q
      by more true is =
          at_first more i j l (ap (λ b. slice_get (if b then a ∷ filter P (range_with_len (a + 1) n) else filter P (range_with_len (a + 1) n)) i) (sym is) ∙ at)
          (ap (λ b. slice_get (if b then a ∷ filter P (range_with_len (a + 1) n) else filter P (range_with_len (a + 1) n)) j) (sym is) ∙ there)
      by more false is =
          more i j l (ap (λ b. slice_get (if b then a ∷ filter P (range_with_len (a + 1) n) else filter P (range_with_len (a + 1) n)) i) (sym is) ∙ at)
          (ap (λ b. slice_get (if b then a ∷ filter P (range_with_len (a + 1) n) else filter P (range_with_len (a + 1) n)) j) (sym is) ∙ there)

-- ---- origins, by the bound entry

abbrev states_in : (p : Program) (f : Func) (k b : ℕ) → Option ℕ → List ℕ
states_in p f k b None = []
states_in p f k b (Some t) = filter (key_states_up_to p f k b) (range_with_len 0 (state_count p t))

abbrev origins_of : Program → Func → Option Bound → List (Option ℕ)
origins_of p f None = None ∷ []
origins_of p f (Some b) = map Some (states_in p f b.key b.state (key_type f b.key))

both_so : (a b : Bool) → (a && b) ≡ true → a ≡ true
both_so true b e = refl
both_so false b e = e

then_so : (a b : Bool) → (a && b) ≡ true → b ≡ true
then_so true b e = e
then_so false b e = absurd (true≢false (sym e))

below : (m n : ℕ) → nat_lt m n ≡ true → m < 0 + n
below m n is = grind (arith, nat_tests)

module _ (p : Program) (f : Func) where
  at_type : (k b o : ℕ) (kt : Option ℕ) → key_type f k ≡ kt → key_states_up_to p f k b o ≡ true → (i : ℕ) × (slice_get (map Some (states_in p f k b kt)) i ≡ Some (Some o))
  at_type k b o None e h = absurd (true≢false (sym (ap (λ t. up_to_in p t b o) (sym e) ∙ h)))
  at_type k b o (Some t) e h =
      let x = found (key_states_up_to p f k b) 0 (state_count p t) o (omega arith) (below o (state_count p t) (both_so (all_states p t o) (leads_up (links_of_type p t) 31 o b) (then_so (every_state o) (all_states p t o && leads_up (links_of_type p t) 31 o b) (ap (λ u. up_to_in p u b o) (sym e) ∙ h)))) h in
      (x.0, slice_get-map Some (states_in p f k b (Some t)) x.0 ∙ ap (option_map Some) x.1)

  origin_in : (b : Option Bound) (o : Option ℕ) → IsOriginOf p f b o → (i : ℕ) × (slice_get (origins_of p f b) i ≡ Some o)
  origin_in None None h = (0, refl)
  origin_in None (Some o) h = absurd h
  origin_in (Some b) None h = absurd h
  origin_in (Some b) (Some o) h = at_type b.key b.state o (key_type f b.key) refl h

  -- each origin is listed
  pub origin_at : (o : Option ℕ) → IsOrigin p f o → (i : ℕ) × (slice_get (origins p f) i ≡ Some o)
  origin_at o is = origin_in (bound_in f.clause) o is

  of_state : (xs : List ℕ) (i : ℕ) (o : Option ℕ) → slice_get (map Some xs) i ≡ Some o → (s : ℕ) × ((slice_get xs i ≡ Some s) × (o ≡ Some s))
  of_state xs i o there = by (slice_get xs i) refl (sym (slice_get-map Some xs i) ∙ there)
    where
      by : (x : Option ℕ) → slice_get xs i ≡ x → option_map Some x ≡ Some o → (s : ℕ) × ((slice_get xs i ≡ Some s) × (o ≡ Some s))
      by None at e = absurd (none_there e)
      by (Some s) at e = (s, (at, sym (some_same e)))

  is_in : (b : Option Bound) (i : ℕ) (o : Option ℕ) → slice_get (origins_of p f b) i ≡ Some o → IsOriginOf p f b o
  is_in None zero o there = subst (IsOriginOf p f None) (some_same there) tt
  is_in None (suc i) o there = absurd (none_there there)
  is_in (Some b) i o there = typed (key_type f b.key) refl there
    where
      typed : (kt : Option ℕ) → key_type f b.key ≡ kt → slice_get (map Some (states_in p f b.key b.state kt)) i ≡ Some o → IsOriginOf p f (Some b) o
      typed None e at = absurd (none_there at)
      typed (Some t) e at =
          let s = of_state (states_in p f b.key b.state (Some t)) i o at in
          subst (IsOriginOf p f (Some b)) (sym s.1.1) (passing (key_states_up_to p f b.key b.state) 0 (state_count p t) i s.0 s.1.0).0

  -- what is listed is an origin
  pub origin_is : (i : ℕ) (o : Option ℕ) → slice_get (origins p f) i ≡ Some o → IsOrigin p f o
  origin_is i o there = is_in (bound_in f.clause) i o there

  later_in : (b : Option Bound) (i j : ℕ) (o q : Option ℕ) → i ≤ j → slice_get (origins_of p f b) i ≡ Some o → slice_get (origins_of p f b) j ≡ Some q → IsNoLaterOrigin o q
  later_in None zero j o q l at there = subst (λ o. IsNoLaterOrigin o q) (some_same at) tt
  later_in None (suc i) j o q l at there = absurd (none_there at)
  later_in (Some b) i j o q l at there = typed (key_type f b.key) at there
    where
      typed : (kt : Option ℕ) → slice_get (map Some (states_in p f b.key b.state kt)) i ≡ Some o → slice_get (map Some (states_in p f b.key b.state kt)) j ≡ Some q → IsNoLaterOrigin o q
      typed None at there = absurd (none_there at)
      typed (Some t) at there =
          let x = of_state (states_in p f b.key b.state (Some t)) i o at in
          let y = of_state (states_in p f b.key b.state (Some t)) j q there in
          subst (λ o. IsNoLaterOrigin o q) (sym x.1.1) (subst (IsNoLaterOrigin (Some x.0)) (sym y.1.1)
          (ascending (key_states_up_to p f b.key b.state) 0 (state_count p t) i j x.0 y.0 l x.1.0 y.1.0))

  -- they ascend
  pub origin_later : (i j : ℕ) (o q : Option ℕ) → i ≤ j → slice_get (origins p f) i ≡ Some o → slice_get (origins p f) j ≡ Some q → IsNoLaterOrigin o q
  origin_later i j o q l at there = later_in (bound_in f.clause) i j o q l at there

  -- what a list of them has at a position
  pub listed_at : (os : List (Option ℕ)) (i : ℕ) (o : Option ℕ) → os ≡ origins p f → i < length os → o ≡ get_or os i o → slice_get (origins p f) i ≡ Some o
  listed_at os i o is lt read = ap (λ l. slice_get l i) (sym is) ∙ slice_get-get_or os i o lt ∙ ap Some (sym read)
