-- Rings after a change of two places.
use Rattle.std.proofs.Common.{◌≡◌, ◌≢◌, ◌⊎◌, inl, inr, ℕ, zero, suc, ◌+◌, ◌<◌, ◌==◌, Bool, true, false, List, [], ◌∷◌, ◌++◌, length, Some, refl, sym, ap, ◌∙◌, arith, slice_get, slice_set}
use Rattle.std.proofs.lemmas.Bool.Decides.{nat_tests}
use Rattle.std.proofs.lemmas.Option.{none-some, same_Some, slice_get_within}
use Rattle.std.proofs.lemmas.List.{length-set, length-append}
use Rattle.vlt_rings.specs.Rings.{Path, IsOff, AreApart, IsRing, AreInverse, IsUnlinked, IsInserted}

pub get_same : {A : Type 0} (xs : List A) (n : ℕ) (y : A) → n < length xs → slice_get (slice_set xs n y) n ≡ Some y
get_same [] n y l = absurd (omega arith)
get_same (x ∷ xs) zero y l = refl
get_same (x ∷ xs) (suc n) y l = get_same xs n y (omega arith)

pub get_other : {A : Type 0} (xs : List A) (n m : ℕ) (y : A) → m ≢ n → slice_get (slice_set xs n y) m ≡ slice_get xs m
get_other [] n m y apart = refl
get_other (x ∷ xs) zero zero y apart = absurd (apart refl)
get_other (x ∷ xs) zero (suc m) y apart = refl
get_other (x ∷ xs) (suc n) zero y apart = refl
get_other (x ∷ xs) (suc n) (suc m) y apart = get_other xs n m y (λ e. apart (ap suc e))

pub equal_or_not : (a b : ℕ) → (a ≡ b) ⊎ (a ≢ b)
equal_or_not a b = by (a == b) refl
  where
    by : (t : Bool) → (a == b) ≡ t → (a ≡ b) ⊎ (a ≢ b)
    by true e = inl (grind (arith, nat_tests))
    by false e = inr (λ q. grind (arith, nat_tests))

-- ---- a list with two places set, in this order

module _ (xs : List ℕ) (a b c d : ℕ) (within_a : a < length xs) (within_c : c < length xs) where
  pub second : slice_get (slice_set (slice_set xs a b) c d) c ≡ Some d
  second = get_same (slice_set xs a b) c d (rw (length-set xs a b) within_c)

  pub first : a ≢ c → slice_get (slice_set (slice_set xs a b) c d) a ≡ Some b
  first apart = get_other (slice_set xs a b) c a d apart ∙ get_same xs a b within_a

  pub neither : (j : ℕ) → j ≢ a → j ≢ c → slice_get (slice_set (slice_set xs a b) c d) j ≡ slice_get xs j
  neither j na nc = get_other (slice_set xs a b) c j d nc ∙ get_other xs a j b na

off_cut : (a i : ℕ) (xs ys : List ℕ) → IsOff a (xs ++ i ∷ ys) → IsOff a (xs ++ ys)
off_cut a i [] ys h = h.1
off_cut a i (x ∷ xs) ys h = (h.0, off_cut a i xs ys h.1)

off_at : (a i : ℕ) (xs ys : List ℕ) → IsOff a (xs ++ i ∷ ys) → i ≢ a
off_at a i [] ys h = h.0
off_at a i (x ∷ xs) ys h = off_at a i xs ys h.1

apart_cut : (i : ℕ) (xs ys : List ℕ) → AreApart (xs ++ i ∷ ys) → AreApart (xs ++ ys)
apart_cut i [] ys h = h.1
apart_cut i (x ∷ xs) ys h = (off_cut x i xs ys h.0, apart_cut i xs ys h.1)

-- ---- a node is taken out

module _ (next prev : List ℕ) (whole : AreInverse next prev) (i p q : ℕ) (at_p : slice_get prev i ≡ Some p) (at_q : slice_get next i ≡ Some q) where
  pub within_i : i < length next
  within_i = slice_get_within next i q at_q

  pub before : slice_get next p ≡ Some i
  before = whole.back i p at_p

  pub within_p : p < length next
  within_p = slice_get_within next p i before

  pub after : slice_get prev q ≡ Some i
  after = whole.forth i q at_q

  pub within_q : q < length prev
  within_q = slice_get_within prev q i after

  pub within_i_prev : i < length prev
  within_i_prev = slice_get_within prev i p at_p

  pub next_out : List ℕ
  next_out = slice_set (slice_set next p q) i i

  pub prev_out : List ℕ
  prev_out = slice_set (slice_set prev q p) i i

  -- if one of both is i, so is the other
  both_alone : q ≡ i → p ≡ i
  both_alone e = same_Some p i (sym at_p ∙ whole.forth i i (at_q ∙ ap (λ x. Some x) e))

  pub forth_out : (j k : ℕ) → slice_get (slice_set (slice_set next p q) i i) j ≡ Some k → slice_get (slice_set (slice_set prev q p) i i) k ≡ Some j
  forth_out j k at = by (equal_or_not j i) (equal_or_not j p)
    where
      at_last : slice_get (slice_set (slice_set next p q) i i) i ≡ Some i
      at_last = second next p q i i within_p within_i

      by : (j ≡ i) ⊎ (j ≢ i) → (j ≡ p) ⊎ (j ≢ p) → slice_get (slice_set (slice_set prev q p) i i) k ≡ Some j
      by (inl e) r =
          let k_is : i ≡ k = same_Some i k (sym at_last ∙ ap (slice_get (slice_set (slice_set next p q) i i)) (sym e) ∙ at) in
          rw (← k_is, e) (second prev q p i i within_q within_i_prev)
      by (inr n) (inl e) =
          let p_not : p ≢ i = λ s. n (e ∙ s) in
          let k_is : q ≡ k = same_Some q k (sym (first next p q i i within_p within_i p_not) ∙ ap (slice_get (slice_set (slice_set next p q) i i)) (sym e) ∙ at) in
          rw (← k_is, e) (first prev q p i i within_q within_i_prev (λ s. p_not (both_alone s)))
      by (inr n) (inr m) =
          let was : slice_get next j ≡ Some k = sym (neither next p q i i within_p within_i j m n) ∙ at in
          let led : slice_get prev k ≡ Some j = whole.forth j k was in
          let k_not_i : k ≢ i = λ s. m (same_Some j p (sym led ∙ ap (slice_get prev) s ∙ at_p)) in
          let k_not_q : k ≢ q = λ s. n (same_Some j i (sym led ∙ ap (slice_get prev) s ∙ after)) in
          neither prev q p i i within_q within_i_prev k k_not_q k_not_i ∙ led

  -- a step that doesn't lead to i
  kept : (a c : ℕ) → slice_get next a ≡ Some c → a ≢ i → c ≢ i → slice_get (slice_set (slice_set next p q) i i) a ≡ Some c
  kept a c at na nc = neither next p q i i within_p within_i a (λ s. nc (same_Some c i (sym at ∙ ap (slice_get next) s ∙ before))) na ∙ at

  kept_path : (a : ℕ) (cs : List ℕ) (b : ℕ) → Path next a cs b → a ≢ i → IsOff i cs → b ≢ i → Path (slice_set (slice_set next p q) i i) a cs b
  kept_path a [] b path na off nb = kept a b path na nb
  kept_path a (c ∷ cs) b path na off nb = (kept a c path.0 na off.0, kept_path c cs b path.1 off.0 off.1 nb)

  cut_path : (a : ℕ) (xs ys : List ℕ) (b : ℕ) → Path next a (xs ++ i ∷ ys) b → AreApart (a ∷ (xs ++ i ∷ ys)) → b ≢ i → Path (slice_set (slice_set next p q) i i) a (xs ++ ys) b
  cut_path a [] ys b path apart nb = by ys path.1 apart.1.0
    where
      a_is : a ≡ p
      a_is = same_Some a p (sym (whole.forth a i path.0) ∙ at_p)

      a_not : a ≢ i
      a_not = λ s. apart.0.0 (sym s)

      step : slice_get (slice_set (slice_set next p q) i i) a ≡ Some q
      step = rw a_is (first next p q i i within_p within_i (λ s. a_not (a_is ∙ s)))

      by : (ys : List ℕ) → Path next i ys b → IsOff i ys → Path (slice_set (slice_set next p q) i i) a ys b
      by [] path off = step ∙ sym at_q ∙ path
      by (y ∷ ys) path off = (step ∙ sym at_q ∙ path.0, kept_path y ys b path.1 off.0 off.1 nb)
  cut_path a (x ∷ xs) ys b path apart nb =
      let x_not : x ≢ i = λ s. off_at x i xs ys apart.1.0 (sym s) in
      let a_not : a ≢ i = λ s. off_at a i xs ys apart.0.1 (sym s) in
      (kept a x path.0 a_not x_not, cut_path x xs ys b path.1 apart.1 nb)

  pub is_unlinked : IsUnlinked i next (slice_set (slice_set next p q) i i)
  is_unlinked = record {
    alone = record { path = second next p q i i within_p within_i; apart = (tt, tt) };
    out = λ h xs ys ring. record {
      path = cut_path h xs ys h ring.path ring.apart (λ s. off_at h i xs ys ring.apart.0 (sym s));
      apart = apart_cut i (h ∷ xs) ys ring.apart;
    };
    others = λ h xs ring off. record { path = kept_path h xs h ring.path off.0 off.1 off.0; apart = ring.apart };
  }

pub swapped : (next prev : List ℕ) → AreInverse next prev → AreInverse prev next
swapped next prev w = record { long = sym w.long; forth = w.back; back = w.forth }

pub whole_out : (next prev : List ℕ) (w : AreInverse next prev) (i p q : ℕ) → slice_get prev i ≡ Some p → slice_get next i ≡ Some q → AreInverse (slice_set (slice_set next p q) i i) (slice_set (slice_set prev q p) i i)
whole_out next prev w i p q at_p at_q = record {
  long = length-set (slice_set prev q p) i i ∙ length-set prev q p ∙ w.long ∙ sym (length-set next p q) ∙ sym (length-set (slice_set next p q) i i);
  forth = forth_out next prev w i p q at_p at_q;
  back = forth_out prev next (swapped next prev w) i q p at_q at_p;
}

-- ---- a node is put in

module _ (next prev : List ℕ) (whole : AreInverse next prev) (h i q : ℕ) (at_q : slice_get next h ≡ Some q) (alone : slice_get next i ≡ Some i) (other : h ≢ i) where
  wi : i < length next
  wi = slice_get_within next i i alone

  wh : h < length next
  wh = slice_get_within next h q at_q

  alone_back : slice_get prev i ≡ Some i
  alone_back = whole.forth i i alone

  at_h : slice_get prev q ≡ Some h
  at_h = whole.forth h q at_q

  pub wq : q < length prev
  wq = slice_get_within prev q h at_h

  wip : i < length prev
  wip = slice_get_within prev i i alone_back

  q_not : q ≢ i
  q_not = λ s. other (same_Some h i (sym at_h ∙ ap (slice_get prev) s ∙ alone_back))

  forth_in : (j k : ℕ) → slice_get (slice_set (slice_set next h i) i q) j ≡ Some k → slice_get (slice_set (slice_set prev i h) q i) k ≡ Some j
  forth_in j k at = by (equal_or_not j i) (equal_or_not j h)
    where
      by : (j ≡ i) ⊎ (j ≢ i) → (j ≡ h) ⊎ (j ≢ h) → slice_get (slice_set (slice_set prev i h) q i) k ≡ Some j
      by (inl e) r =
          let k_is : q ≡ k = same_Some q k (sym (second next h i i q wh wi) ∙ ap (slice_get (slice_set (slice_set next h i) i q)) (sym e) ∙ at) in
          rw (← k_is, e) (second prev i h q i wip wq)
      by (inr n) (inl e) =
          let k_is : i ≡ k = same_Some i k (sym (first next h i i q wh wi other) ∙ ap (slice_get (slice_set (slice_set next h i) i q)) (sym e) ∙ at) in
          rw (← k_is, e) (first prev i h q i wip wq (λ s. q_not (sym s)))
      by (inr n) (inr m) =
          let was : slice_get next j ≡ Some k = sym (neither next h i i q wh wi j m n) ∙ at in
          let led : slice_get prev k ≡ Some j = whole.forth j k was in
          neither prev i h q i wip wq k (λ s. n (same_Some j i (sym led ∙ ap (slice_get prev) s ∙ alone_back))) (λ s. m (same_Some j h (sym led ∙ ap (slice_get prev) s ∙ at_h))) ∙ led

  back_in : (j k : ℕ) → slice_get (slice_set (slice_set prev i h) q i) j ≡ Some k → slice_get (slice_set (slice_set next h i) i q) k ≡ Some j
  back_in j k at = by (equal_or_not j q) (equal_or_not j i)
    where
      by : (j ≡ q) ⊎ (j ≢ q) → (j ≡ i) ⊎ (j ≢ i) → slice_get (slice_set (slice_set next h i) i q) k ≡ Some j
      by (inl e) r =
          let k_is : i ≡ k = same_Some i k (sym (second prev i h q i wip wq) ∙ ap (slice_get (slice_set (slice_set prev i h) q i)) (sym e) ∙ at) in
          rw (← k_is, e) (second next h i i q wh wi)
      by (inr n) (inl e) =
          let k_is : h ≡ k = same_Some h k (sym (first prev i h q i wip wq (λ s. q_not (sym s))) ∙ ap (slice_get (slice_set (slice_set prev i h) q i)) (sym e) ∙ at) in
          rw (← k_is, e) (first next h i i q wh wi other)
      by (inr n) (inr m) =
          let was : slice_get prev j ≡ Some k = sym (neither prev i h q i wip wq j m n) ∙ at in
          let led : slice_get next k ≡ Some j = whole.back j k was in
          neither next h i i q wh wi k (λ s. n (same_Some j q (sym led ∙ ap (slice_get next) s ∙ at_q))) (λ s. m (same_Some j i (sym led ∙ ap (slice_get next) s ∙ alone))) ∙ led

  pub whole_in : AreInverse (slice_set (slice_set next h i) i q) (slice_set (slice_set prev i h) q i)
  whole_in = record {
    long = length-set (slice_set prev i h) q i ∙ length-set prev i h ∙ whole.long ∙ sym (length-set next h i) ∙ sym (length-set (slice_set next h i) i q);
    forth = forth_in;
    back = back_in;
  }

  kept_in : (a : ℕ) (cs : List ℕ) (b : ℕ) → Path next a cs b → a ≢ i → IsOff i cs → a ≢ h → IsOff h cs → Path (slice_set (slice_set next h i) i q) a cs b
  kept_in a [] b path na ni ma mi = neither next h i i q wh wi a ma na ∙ path
  kept_in a (c ∷ cs) b path na ni ma mi = (neither next h i i q wh wi a ma na ∙ path.0, kept_in c cs b path.1 ni.0 ni.1 mi.0 mi.1)

  after_in : (xs : List ℕ) → IsRing next h xs → IsOff i (h ∷ xs) → IsRing (slice_set (slice_set next h i) i q) h (i ∷ xs)
  after_in xs ring off = record { path = (first next h i i q wh wi other, by xs ring.path off.1 ring.apart.0); apart = ((λ s. other (sym s), ring.apart.0), (off.1, ring.apart.1)) }
    where
      step : slice_get (slice_set (slice_set next h i) i q) i ≡ Some q
      step = second next h i i q wh wi

      by : (xs : List ℕ) → Path next h xs h → IsOff i xs → IsOff h xs → Path (slice_set (slice_set next h i) i q) i xs h
      by [] path oi oh = step ∙ sym at_q ∙ path
      by (x ∷ xs) path oi oh = (step ∙ sym at_q ∙ path.0, kept_in x xs h path.1 oi.0 oi.1 oh.0 oh.1)

  pub is_inserted : IsInserted h i next (slice_set (slice_set next h i) i q)
  is_inserted = record {
    following = after_in;
    others = λ k xs ring oi oh. record { path = kept_in k xs k ring.path oi.0 oi.1 oh.0 oh.1; apart = ring.apart };
  }

-- ---- one item more

pub get_last : {A : Type 0} (xs : List A) (y : A) → slice_get (xs ++ y ∷ []) (length xs) ≡ Some y
get_last [] y = refl
get_last (x ∷ xs) y = get_last xs y

pub record Cases {A : Type 0} (xs : List A) (y : A) (k : ℕ) (z : A) : Type 0 where
  pub is : (slice_get xs k ≡ Some z) ⊎ ((k ≡ length xs) × (y ≡ z))

pub get_push : {A : Type 0} (xs : List A) (y : A) (k : ℕ) (z : A) → slice_get (xs ++ y ∷ []) k ≡ Some z → Cases xs y k z
get_push [] y zero z e = record { is = inr (refl, same_Some y z e) }
get_push [] y (suc k) z e = absurd (none-some z e)
get_push (x ∷ xs) y zero z e = record { is = inl e }
get_push (x ∷ xs) y (suc k) z e = by (get_push xs y k z e).is
  where
    by : (slice_get xs k ≡ Some z) ⊎ ((k ≡ length xs) × (y ≡ z)) → Cases (x ∷ xs) y (suc k) z
    by (inl i) = record { is = inl i }
    by (inr i) = record { is = inr (ap suc i.0, i.1) }

pub get_kept : {A : Type 0} (xs : List A) (y : A) (k : ℕ) (z : A) → slice_get xs k ≡ Some z → slice_get (xs ++ y ∷ []) k ≡ Some z
get_kept [] y k z e = absurd (none-some z e)
get_kept (x ∷ xs) y zero z e = e
get_kept (x ∷ xs) y (suc k) z e = get_kept xs y k z e

-- a node that is alone leads to itself, and back
grown_forth : (next prev : List ℕ) (n : ℕ) → AreInverse next prev → n ≡ length next → (i j : ℕ) → slice_get (next ++ n ∷ []) i ≡ Some j → slice_get (prev ++ n ∷ []) j ≡ Some i
grown_forth next prev n w is i j at = by (get_push next n i j at).is
  where
    by : (slice_get next i ≡ Some j) ⊎ ((i ≡ length next) × (n ≡ j)) → slice_get (prev ++ n ∷ []) j ≡ Some i
    by (inl e) = get_kept prev n j i (w.forth i j e)
    by (inr e) =
        let at_j : j ≡ length prev = sym e.1 ∙ is ∙ sym w.long in
        ap (slice_get (prev ++ n ∷ [])) at_j ∙ get_last prev n ∙ ap (λ x. Some x) (is ∙ sym e.0)

pub whole_grown : (next prev : List ℕ) (n : ℕ) → AreInverse next prev → n ≡ length next → AreInverse (next ++ n ∷ []) (prev ++ n ∷ [])
whole_grown next prev n w is = record {
  long = length-append prev (n ∷ []) ∙ ap (λ k. k + 1) w.long ∙ sym (length-append next (n ∷ []));
  forth = grown_forth next prev n w is;
  back = grown_forth prev next n (swapped next prev w) (is ∙ sym w.long);
}

path_grown : (next : List ℕ) (n a : ℕ) (cs : List ℕ) (b : ℕ) → Path next a cs b → Path (next ++ n ∷ []) a cs b
path_grown next n a [] b path = get_kept next n a b path
path_grown next n a (c ∷ cs) b path = (get_kept next n a c path.0, path_grown next n c cs b path.1)

-- the rings of the nodes before stay
pub ring_grown : (next : List ℕ) (n h : ℕ) (xs : List ℕ) → IsRing next h xs → IsRing (next ++ n ∷ []) h xs
ring_grown next n h xs ring = record { path = path_grown next n h xs h ring.path; apart = ring.apart }

pub ring_of_one : (next : List ℕ) (n : ℕ) → n ≡ length next → IsRing (next ++ n ∷ []) n []
ring_of_one next n is = record { path = ap (slice_get (next ++ n ∷ [])) is ∙ get_last next n; apart = (tt, tt) }
