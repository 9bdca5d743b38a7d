-- Joins into one slot.
use Rattle.std.proofs.Common.{◌≡◌, ◌≢◌, ◌↔◌, ◌<◌, ◌≤◌, ◌^◌, ℕ, Bool, true, false, IsTrue, List, [], ◌∷◌, ◌++◌, zero, suc, length, set, get_or, refl, sym, ap, ◌∙◌, subst, ◌⊎◌, inl, inr, ⊎_elim, arith, rules, sum_by}
use Rattle.std.proofs.lemmas.Bool.{cases_lt}
use Rattle.std.proofs.lemmas.Nat.{le_or_l}
use Rattle.vlt_base.specs.States.{is_bit}
use Rattle.vlt_base.proofs.Sets.{within_bits}
use Rattle.vlt_core.specs.Found.{One, one_absent, one_held, one_lent, one_full}
use Rattle.vlt_core_laws.specs.Sweep.{In}
use Rattle.vlt_faults.specs.declared.finding.ones.Ones.{Ones}
use Rattle.vlt_faults.specs.Finding.Ones.{many_of, gap_of, lacks}
use Rattle.std.proofs.lemmas.List.{get_or_read, get_or-set_same, get_or-set_other, length-set}
use Rattle.std.proofs.lemmas.List.Sums.{sum_by-set}
use Rattle.vlt_core_laws.specs.Sweep.{IntoHead, IntoExit, IsNothing}
use Rattle.vlt_faults.proofs.OfFinding.Bits.{no_bit}
use Rattle.vlt_faults.specs.Finding.Marks.{Marks, IsInto, IsSameParts, IsPut, slot, at, no_ones, stock_of, IsGrown, Went}

pub same_in : (a b : Ones) → IsSameParts a b → (o : One) → In (many_of a) o → In (many_of b) o
same_in a b e one_absent h = subst IsTrue e.0 h
same_in a b e (one_held i) h = subst (λ n. IsTrue (is_bit n i)) e.2 h
same_in a b e (one_lent i) h = subst (λ n. IsTrue (is_bit n i)) e.3 h
same_in a b e one_full h = subst IsTrue e.1 h

lacks_less : (a b : Bool) → (IsTrue a → IsTrue b) → lacks b ≤ lacks a
lacks_less true true f = omega arith
lacks_less false true f = omega arith
lacks_less false false f = omega arith
lacks_less true false f = absurd (never (f (search rules)))
  where
    never : IsTrue false → ⊥
    never h = search rules

lacks_same : (a b : Bool) → lacks b ≡ lacks a → b ≡ a
lacks_same true true e = refl
lacks_same false false e = refl
lacks_same true false e = absurd (never e)
  where
    never : (let a : ℕ = 1 in let b : ℕ = 0 in a ≡ b) → ⊥
    never e = omega arith
lacks_same false true e = absurd (never e)
  where
    never : (let a : ℕ = 0 in let b : ℕ = 1 in a ≡ b) → ⊥
    never e = omega arith

bits_less : (m n : ℕ) → ((i : ℕ) → IsTrue (is_bit m i) → IsTrue (is_bit n i)) → m ≤ n
bits_less m n f = subst (λ k. m ≤ k) (within_bits m n f) (le_or_l m n)

pub into_of : (old m u : Ones) → ((o : One) → In (many_of u) o ↔ (In (many_of old) o ⊎ In (many_of m) o)) → IsInto m old u
into_of old m u e = record { more = λ o h. (e o).1 (inl h); has = λ o h. (e o).1 (inr h); comes = λ o h. (e o).0 h }

pub into_same : (old m u : Ones) → ((o : One) → In (many_of u) o ↔ (In (many_of old) o ⊎ In (many_of m) o)) → IsSameParts u old → IsInto m old old
into_same old m u e s = record { more = λ o h. h; has = λ o h. same_in u old s o ((e o).1 (inr h)); comes = λ o h. inl h }

pub nearer_of : (old m u : Ones) → ((o : One) → In (many_of u) o ↔ (In (many_of old) o ⊎ In (many_of m) o)) → (IsSameParts u old → ⊥) → gap_of u < gap_of old
nearer_of old m u e never =
    let p0 : lacks u.absent ≤ lacks old.absent = lacks_less old.absent u.absent (λ h. (e one_absent).1 (inl h)) in
    let p1 : lacks u.full ≤ lacks old.full = lacks_less old.full u.full (λ h. (e one_full).1 (inl h)) in
    let p2 : old.held ≤ u.held = bits_less old.held u.held (λ i h. (e (one_held i)).1 (inl h)) in
    let p3 : old.lent ≤ u.lent = bits_less old.lent u.lent (λ i h. (e (one_lent i)).1 (inl h)) in
    let f0 : old.held < 2 ^ 32 = old.few_held in
    let f1 : old.lent < 2 ^ 32 = old.few_lent in
    let g0 : u.held < 2 ^ 32 = u.few_held in
    let g1 : u.lent < 2 ^ 32 = u.few_lent in
    ⊎_elim (λ p. p) (λ p. absurd (never (lacks_same old.absent u.absent (omega arith), lacks_same old.full u.full (omega arith), omega arith, omega arith))) (cases_lt (gap_of u) (gap_of old))

same_or : (i n : ℕ) → (i ≡ n) ⊎ (i ≢ n)
same_or i n = ⊎_elim (λ p. inr (omega arith)) (λ p. ⊎_elim (λ q. inr (omega arith)) (λ q. inl (omega arith)) (cases_lt n i)) (cases_lt i n)

pub not_true : IsTrue false → ⊥
not_true h = search rules

set_own : (xs : List Ones) (n : ℕ) (x : Ones) → n < length xs → x ≡ get_or xs n x → set xs n x ≡ xs
set_own [] n x lt e = absurd (omega arith)
set_own (y ∷ xs) zero x lt e = ap (λ z. z ∷ xs) e
set_own (y ∷ xs) (suc n) x lt e = ap (λ zs. y ∷ zs) (set_own xs n x (omega arith) e)

pub put_more : (n : ℕ) (m : Ones) (xs : List Ones) (g : Bool) (old new : Ones) → n < length xs → old ≡ get_or xs n old → IsInto m old new → gap_of new < gap_of old → IsPut n m xs (set xs n new) g true
put_more n m xs g old new lt read into near =
    let here = get_or_read xs n old lt read no_ones in
    record { value = new; is = refl; into = subst (λ o. IsInto m o new) here into; near = inr (search rules, subst (λ o. gap_of new < gap_of o) here near) }

pub put_none : (n : ℕ) (m : Ones) (xs : List Ones) (g : Bool) (old new : Ones) → n < length xs → old ≡ get_or xs n old → IsInto m old new → new ≡ old → IsPut n m xs (set xs n new) g g
put_none n m xs g old new lt read into same =
    let here = get_or_read xs n old lt read no_ones in
    record { value = new; is = refl; into = subst (λ o. IsInto m o new) here into; near = inl (ap (set xs n) same ∙ set_own xs n old lt read, refl) }

-- ---- one slot, and all of them

slot_comes : (xs ys : List Ones) (n : ℕ) (m x : Ones) → n < length xs → ys ≡ set xs n x → IsInto m (slot xs n) x → (i : ℕ) (o : One) → In (at ys i) o → In (at xs i) o ⊎ ((i ≡ n) × In (many_of m) o)
slot_comes xs ys n m x lt e into i o h = ⊎_elim
    (λ same. ⊎_elim (λ y. inl (subst (λ j. In (at xs j) o) (sym same) y)) (λ y. inr (same, y)) (into.comes o (subst (λ z. In (many_of z) o) (ap (λ l. slot l i) e ∙ ap (slot (set xs n x)) same ∙ get_or-set_same xs n x no_ones lt) h)))
    (λ other. inl (subst (λ z. In (many_of z) o) (ap (λ l. slot l i) e ∙ get_or-set_other xs n i x no_ones other) h)) (same_or i n)

slot_more : (xs ys : List Ones) (n : ℕ) (m x : Ones) → n < length xs → ys ≡ set xs n x → IsInto m (slot xs n) x → (i : ℕ) (o : One) → In (at xs i) o → In (at ys i) o
slot_more xs ys n m x lt e into i o h = ⊎_elim
    (λ same. subst (λ z. In (many_of z) o) (sym (ap (λ l. slot l i) e ∙ ap (slot (set xs n x)) same ∙ get_or-set_same xs n x no_ones lt)) (into.more o (subst (λ j. In (at xs j) o) same h)))
    (λ other. subst (λ z. In (many_of z) o) (sym (ap (λ l. slot l i) e ∙ get_or-set_other xs n i x no_ones other)) h) (same_or i n)

slot_has : (xs ys : List Ones) (n : ℕ) (m x : Ones) → n < length xs → ys ≡ set xs n x → IsInto m (slot xs n) x → (o : One) → In (many_of m) o → In (at ys n) o
slot_has xs ys n m x lt e into o h = subst (λ z. In (many_of z) o) (sym (ap (λ l. slot l n) e ∙ get_or-set_same xs n x no_ones lt)) (into.has o h)

put_gap : (xs : List Ones) (n : ℕ) (x : Ones) → n < length xs → gap_of x < gap_of (slot xs n) → sum_by gap_of (set xs n x) < sum_by gap_of xs
put_gap xs n x lt near = let e = sum_by-set gap_of xs n x no_ones lt in omega arith

pub head_put : (n : ℕ) (m : Ones) (old new : Marks) → n < length old.around → IsPut n m old.around new.around old.grew new.grew → new.following ≡ old.following → IntoHead n (many_of m) (stock_of old) (stock_of new)
head_put n m old new lt p e = record {
  more = record { around = slot_more old.around new.around n m p.value lt p.is p.into; following = λ i o h. subst (λ l. In (at l i) o) (sym e) h };
  has = slot_has old.around new.around n m p.value lt p.is p.into;
  comes = slot_comes old.around new.around n m p.value lt p.is p.into;
  others = λ i o h. subst (λ l. In (at l i) o) e h;
}

pub exit_put : (n : ℕ) (m : Ones) (old new : Marks) → n < length old.following → IsPut n m old.following new.following old.grew new.grew → new.around ≡ old.around → IntoExit n (many_of m) (stock_of old) (stock_of new)
exit_put n m old new lt p e = record {
  more = record { around = λ i o h. subst (λ l. In (at l i) o) (sym e) h; following = slot_more old.following new.following n m p.value lt p.is p.into };
  has = slot_has old.following new.following n m p.value lt p.is p.into;
  comes = slot_comes old.following new.following n m p.value lt p.is p.into;
  others = λ i o h. subst (λ l. In (at l i) o) e h;
}

same_marks : (old new : Marks) → new.around ≡ old.around → new.following ≡ old.following → new.grew ≡ old.grew → new ≡ old
same_marks old new p q r = λ i. record { around = p i; following = q i; grew = r i }

pub head_went : (n : ℕ) (m : Ones) (old new : Marks) → n < length old.around → IsPut n m old.around new.around old.grew new.grew → new.following ≡ old.following → Went old new
head_went n m old new lt p e = record {
  around = ap length p.is ∙ length-set old.around n p.value;
  following = ap length e;
  grown = ⊎_elim (λ x. inl (same_marks old new x.0 e x.1))
      (λ x. inr (x.0, let a = put_gap old.around n p.value lt x.1 in let b = ap (sum_by gap_of) p.is in let c = ap (sum_by gap_of) e in omega arith)) p.near;
}

pub exit_went : (n : ℕ) (m : Ones) (old new : Marks) → n < length old.following → IsPut n m old.following new.following old.grew new.grew → new.around ≡ old.around → Went old new
exit_went n m old new lt p e = record {
  around = ap length e;
  following = ap length p.is ∙ length-set old.following n p.value;
  grown = ⊎_elim (λ x. inl (same_marks old new e x.0 x.1))
      (λ x. inr (x.0, let a = put_gap old.following n p.value lt x.1 in let b = ap (sum_by gap_of) p.is in let c = ap (sum_by gap_of) e in omega arith)) p.near;
}

pub went_refl : (k : Marks) → Went k k
went_refl k = record { around = refl; following = refl; grown = inl refl }

grown_trans : (a b c : Marks) → IsGrown a b → IsGrown b c → IsGrown a c
grown_trans a b c (inl e) y = subst (λ k. IsGrown k c) e y
grown_trans a b c (inr x) (inl e) = subst (λ k. IsGrown a k) (sym e) (inr x)
grown_trans a b c (inr x) (inr y) = inr (y.0, let p = x.1 in let q = y.1 in omega arith)

pub went_trans : (a b c : Marks) → Went a b → Went b c → Went a c
went_trans a b c p q = record { around = q.around ∙ p.around; following = q.following ∙ p.following; grown = grown_trans a b c p.grown q.grown }

none_nothing : IsNothing (many_of no_ones)
none_nothing = record { none = none }
  where
    none : (o : One) → In (many_of no_ones) o → ⊥
    none one_absent h = not_true h
    none (one_held i) h = no_bit i h
    none (one_lent i) h = no_bit i h
    none one_full h = not_true h

pub none_first : (i : ℕ) → IsNothing (at [] i)
none_first i = none_nothing

pub none_more : (xs : List Ones) (x : Ones) → ((i : ℕ) → IsNothing (at xs i)) → ((o : One) → In (many_of x) o → ⊥) → (i : ℕ) → IsNothing (at (xs ++ x ∷ []) i)
none_more [] x f g zero = record { none = g }
none_more [] x f g (suc i) = none_nothing
none_more (y ∷ xs) x f g zero = f zero
none_more (y ∷ xs) x f g (suc i) = none_more xs x (λ i. f (suc i)) g i
