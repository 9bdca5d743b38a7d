-- What the code keeps of all tokens, by statement.
use Rattle.std.proofs.Common.{◌≡◌, ◌<◌, ◌≤◌, ◌+◌, ◌||◌, ℕ, zero, suc, Bool, true, false, IsTrue, List, [], ◌∷◌, ◌++◌, length, set, get_or, refl, sym, ap, ◌∙◌, subst, ◌⊎◌, inl, inr, ⊎_elim, arith, rules, sum_by, Option}
use Rattle.std.proofs.lemmas.List.{get_or_read, get_or-set_same, get_or-set_other, length-set}
use Rattle.std.proofs.lemmas.List.Sums.{sum_by-set}
use Rattle.vlt_core.specs.Core.{Tok}
use Rattle.vlt_core.specs.Found.{One}
use Rattle.vlt_core_laws.specs.Sweep.{In, IntoHead, IntoExit}
use Rattle.vlt_faults.specs.declared.finding.ones.Ones.{Ones}
use Rattle.vlt_faults.specs.Finding.Marks.{slot, IsInto}
use Rattle.vlt_points.specs.Founds.{place_of, found, gap_to, IsCloser, IsJoin}
use Rattle.vlt_points.specs.Keeps.{Marks, row, stock, IsRowJoined, IsStill, IsGrown, IsWithin, Went, HasRoom, ForLoop}
use Rattle.vlt_points.proofs.Founds.{same_or, many_same, gap_to_same}

-- ---- one row, and all of them

pub row_joined : (n : ℕ) (m : List Ones) (xs : List (List Ones)) (g : Bool) (old new : List Ones) → n < length xs → old ≡ get_or xs n old → IsJoin m old new → IsCloser g (length m) old new → IsRowJoined n m xs (set xs n new) g
row_joined n m xs g old new lt read join closer =
    let here = get_or_read xs n old lt read [] in
    record { value = new; is = refl; join = subst (λ o. IsJoin m o new) here join; closer = subst (λ o. IsCloser g (length m) o new) here closer }

module _ (n : ℕ) (m : List Ones) (xs ys : List (List Ones)) (g : Bool) (lt : n < length xs) (q : IsRowJoined n m xs ys g) where
  own : row ys n ≡ q.value
  own = ap (λ l. row l n) q.is ∙ get_or-set_same xs n q.value [] lt

  others : (i : ℕ) → (i ≡ n → ⊥) → row ys i ≡ row xs i
  others i p = ap (λ l. row l i) q.is ∙ get_or-set_other xs n i q.value [] p

  into : (t : Tok) → IsInto (slot m (place_of t)) (slot (row xs n) (place_of t)) (slot (row ys n) (place_of t))
  into t = subst (λ v. IsInto (slot m (place_of t)) (slot (row xs n) (place_of t)) (slot v (place_of t))) (sym own) (q.join.into (place_of t))

  rows_more : (t : Tok) (i : ℕ) (o : One) → In (found (row xs i) t) o → In (found (row ys i) t) o
  rows_more t i o h = ⊎_elim
      (λ p. subst (λ j. In (found (row xs j) t) o → In (found (row ys j) t) o) (sym p) (λ h. (into t).more o h) h)
      (λ p. subst (λ v. In (found v t) o) (sym (others i p)) h) (same_or i n)

  rows_has : (t : Tok) (o : One) → In (found m t) o → In (found (row ys n) t) o
  rows_has t o h = (into t).has o h

  rows_come : (t : Tok) (i : ℕ) (o : One) → In (found (row ys i) t) o → In (found (row xs i) t) o ⊎ ((i ≡ n) × In (found m t) o)
  rows_come t i o h = ⊎_elim
      (λ p. ⊎_elim (λ y. inl (subst (λ j. In (found (row xs j) t) o) (sym p) y)) (λ y. inr (p, y)) ((into t).comes o (subst (λ j. In (found (row ys j) t) o) p h)))
      (λ p. inl (subst (λ v. In (found v t) o) (others i p) h)) (same_or i n)

  rows_long : (w : ℕ) → ((i : ℕ) → length (row xs i) ≤ w) → length m ≤ w → (i : ℕ) → length (row ys i) ≤ w
  rows_long w all here i = ⊎_elim
      (λ p. subst (λ j. length (row ys j) ≤ w) (sym p) (subst (λ v. length v ≤ w) (sym own) (q.join.long w (all n) here)))
      (λ p. subst (λ v. length v ≤ w) (sym (others i p)) (all i)) (same_or i n)

  rows_length : length ys ≡ length xs
  rows_length = ap length q.is ∙ length-set xs n q.value

  rows_gap : (w : ℕ) → sum_by (gap_to w) ys + gap_to w (row xs n) ≡ sum_by (gap_to w) xs + gap_to w q.value
  rows_gap w = ap (λ l. sum_by (gap_to w) l + gap_to w (row xs n)) q.is ∙ sum_by-set (gap_to w) xs n q.value [] lt

less_rows : (n : ℕ) (m : List Ones) (xs ys : List (List Ones)) → n < length xs → IsRowJoined n m xs ys true → (w : ℕ) → length m ≤ w → sum_by (gap_to w) ys < sum_by (gap_to w) xs
less_rows n m xs ys lt q w le = let a = rows_gap n m xs ys true lt q w in let b = q.closer w le in omega (arith, a, b)

same_rows : (n : ℕ) (m : List Ones) (xs ys : List (List Ones)) → n < length xs → IsRowJoined n m xs ys false → (w : ℕ) → sum_by (gap_to w) ys ≡ sum_by (gap_to w) xs
same_rows n m xs ys lt q w = let a = rows_gap n m xs ys false lt q w in let b = gap_to_same w (row xs n) q.value q.closer in omega (arith, a, b)

still_rows : (n : ℕ) (m : List Ones) (xs ys : List (List Ones)) → n < length xs → IsRowJoined n m xs ys false → (t : Tok) (i : ℕ) → found (row ys i) t ≡ found (row xs i) t
still_rows n m xs ys lt q t i = ⊎_elim
    (λ p. subst (λ j. found (row ys j) t ≡ found (row xs j) t) (sym p) (ap (λ v. found v t) (own n m xs ys false lt q) ∙ many_same (slot q.value (place_of t)) (slot (row xs n) (place_of t)) (q.closer (place_of t))))
    (λ p. ap (λ v. found v t) (others n m xs ys false lt q i p)) (same_or i n)

pub none_more : (xs : List (List Ones)) (x : List Ones) → x ≡ [] → ((i : ℕ) → row xs i ≡ []) → (i : ℕ) → row (xs ++ x ∷ []) i ≡ []
none_more [] x e f zero = e
none_more [] x e f (suc i) = refl
none_more (y ∷ xs) x e f zero = f zero
none_more (y ∷ xs) x e f (suc i) = none_more xs x e (λ i. f (suc i)) i

-- ---- joins into heads and exits

pub head_into : (n : ℕ) (m : List Ones) (g : Bool) (old new : Marks) → n < length old.around → IsRowJoined n m old.around new.around g → new.following ≡ old.following → (t : Tok) → IntoHead n (found m t) (stock old t) (stock new t)
head_into n m g old new lt q e t = record {
  more = record { around = rows_more n m old.around new.around g lt q t; following = λ i o h. subst (λ l. In (found (row l i) t) o) (sym e) h };
  has = rows_has n m old.around new.around g lt q t;
  comes = rows_come n m old.around new.around g lt q t;
  others = λ i o h. subst (λ l. In (found (row l i) t) o) e h;
}

pub exit_into : (n : ℕ) (m : List Ones) (g : Bool) (old new : Marks) → n < length old.following → IsRowJoined n m old.following new.following g → new.around ≡ old.around → (t : Tok) → IntoExit n (found m t) (stock old t) (stock new t)
exit_into n m g old new lt q e t = record {
  more = record { around = λ i o h. subst (λ l. In (found (row l i) t) o) (sym e) h; following = rows_more n m old.following new.following g lt q t };
  has = rows_has n m old.following new.following g lt q t;
  comes = rows_come n m old.following new.following g lt q t;
  others = λ i o h. subst (λ l. In (found (row l i) t) o) e h;
}

-- the flag is set if something grew
abbrev pub IsFlag : Bool → (old new : Bool) → Type 0
IsFlag true old new = IsTrue new
IsFlag false old new = new ≡ old

pub flag_of : (g old new : Bool) → new ≡ (g || old) → IsFlag g old new
flag_of true old new e = subst IsTrue (sym e) (search rules)
flag_of false old new e = e

head_grown : (n : ℕ) (m : List Ones) (g : Bool) (old new : Marks) → n < length old.around → IsRowJoined n m old.around new.around g → new.following ≡ old.following → IsFlag g old.grew new.grew → (w : ℕ) → length m ≤ w → IsGrown w old new
head_grown n m true old new lt q e flag w le = inr (flag, let a = less_rows n m old.around new.around lt q w le in let b = ap (sum_by (gap_to w)) e in omega (arith, a, b))
head_grown n m false old new lt q e flag w le = inl (record {
  same = λ t i. record { around = λ j. still_rows n m old.around new.around lt q t j i; following = λ j. found (row (e i) j) t };
  gaps = let a = same_rows n m old.around new.around lt q w in let b = ap (sum_by (gap_to w)) e in omega (arith, a, b);
  grew = flag;
})

exit_grown : (n : ℕ) (m : List Ones) (g : Bool) (old new : Marks) → n < length old.following → IsRowJoined n m old.following new.following g → new.around ≡ old.around → IsFlag g old.grew new.grew → (w : ℕ) → length m ≤ w → IsGrown w old new
exit_grown n m true old new lt q e flag w le = inr (flag, let a = less_rows n m old.following new.following lt q w le in let b = ap (sum_by (gap_to w)) e in omega (arith, a, b))
exit_grown n m false old new lt q e flag w le = inl (record {
  same = λ t i. record { around = λ j. found (row (e i) j) t; following = λ j. still_rows n m old.following new.following lt q t j i };
  gaps = let a = same_rows n m old.following new.following lt q w in let b = ap (sum_by (gap_to w)) e in omega (arith, a, b);
  grew = flag;
})

pub head_went : (n : ℕ) (m : List Ones) (g : Bool) (old new : Marks) → n < length old.around → IsRowJoined n m old.around new.around g → new.following ≡ old.following → IsFlag g old.grew new.grew → Went old m new m
head_went n m g old new lt q e flag = record {
  around = rows_length n m old.around new.around g lt q;
  following = ap length e;
  within = λ w i. record { around = rows_long n m old.around new.around g lt q w i.around i.here; following = λ j. subst (λ l. length (row l j) ≤ w) (sym e) (i.following j); here = i.here };
  grown = λ w i. head_grown n m g old new lt q e flag w i.here;
}

pub exit_went : (n : ℕ) (m : List Ones) (g : Bool) (old new : Marks) → n < length old.following → IsRowJoined n m old.following new.following g → new.around ≡ old.around → IsFlag g old.grew new.grew → Went old m new m
exit_went n m g old new lt q e flag = record {
  around = ap length e;
  following = rows_length n m old.following new.following g lt q;
  within = λ w i. record { around = λ j. subst (λ l. length (row l j) ≤ w) (sym e) (i.around j); following = rows_long n m old.following new.following g lt q w i.following i.here; here = i.here };
  grown = λ w i. exit_grown n m g old new lt q e flag w i.here;
}

-- ---- one after another

still_trans : (w : ℕ) (a b c : Marks) → IsStill w a b → IsStill w b c → IsStill w a c
still_trans w a b c p q = record { same = λ t. q.same t ∙ p.same t; gaps = q.gaps ∙ p.gaps; grew = q.grew ∙ p.grew }

grown_trans : (w : ℕ) (a b c : Marks) → IsGrown w a b → IsGrown w b c → IsGrown w a c
grown_trans w a b c (inl x) (inl y) = inl (still_trans w a b c x y)
grown_trans w a b c (inl x) (inr y) = inr (y.0, let p = x.gaps in let q = y.1 in omega (arith, p, q))
grown_trans w a b c (inr x) (inl y) = inr (subst IsTrue (sym y.grew) x.0, let p = x.1 in let q = y.gaps in omega (arith, p, q))
grown_trans w a b c (inr x) (inr y) = inr (y.0, let p = x.1 in let q = y.1 in omega (arith, p, q))

still_refl : (w : ℕ) (k : Marks) → IsGrown w k k
still_refl w k = inl (record { same = λ t. refl; gaps = refl; grew = refl })

pub went_trans : (a b c : Marks) (m p q : List Ones) → Went a m b p → Went b p c q → Went a m c q
went_trans a b c m p q x y = record {
  around = y.around ∙ x.around;
  following = y.following ∙ x.following;
  within = λ w i. y.within w (x.within w i);
  grown = λ w i. grown_trans w a b c (x.grown w i) (y.grown w (x.within w i));
}

-- what comes to the point is another one, no longer than this one
pub went_here : (k : Marks) (m p : List Ones) → length p ≡ length m → Went k m k p
went_here k m p e = record {
  around = refl;
  following = refl;
  within = λ w i. record { around = i.around; following = i.following; here = let h = i.here in omega (arith, h, e) };
  grown = λ w i. still_refl w k;
}

pub went_refl : (k : Marks) (m : List Ones) → Went k m k m
went_refl k m = went_here k m m refl

-- nothing comes on
pub went_off : (k : Marks) (m : List Ones) → Went k m k []
went_off k m = record {
  around = refl;
  following = refl;
  within = λ w i. record { around = i.around; following = i.following; here = omega arith };
  grown = λ w i. still_refl w k;
}

pub went_exit : (k : Marks) (m : List Ones) (n : ℕ) → Went k m k (row k.following n)
went_exit k m n = record {
  around = refl;
  following = refl;
  within = λ w i. record { around = i.around; following = i.following; here = i.following n };
  grown = λ w i. still_refl w k;
}

pub went_head : (k : Marks) (m : List Ones) (n : ℕ) → Went k m k (row k.around n)
went_head k m n = record {
  around = refl;
  following = refl;
  within = λ w i. record { around = i.around; following = i.following; here = i.around n };
  grown = λ w i. still_refl w k;
}

-- a part that something else comes to, and then this goes on
pub went_aside : (a b : Marks) (m p q : List Ones) → Went a p b q → length p ≤ length m → Went a m b m
went_aside a b m p q x e = record {
  around = x.around;
  following = x.following;
  within = λ w i. let j = x.within w (there w i) in record { around = j.around; following = j.following; here = i.here };
  grown = λ w i. x.grown w (there w i);
}
  where
    there : (w : ℕ) → IsWithin w a m → IsWithin w a p
    there w i = record { around = i.around; following = i.following; here = let h = i.here in omega (arith, h, e) }

-- ---- room

pub room_went : (k k' : Marks) (m p : List Ones) (l : Option ℕ) (n : ℕ) → HasRoom k l n → Went k m k' p → HasRoom k' l n
room_went k k' m p l n r w = record { fits = omega (arith, r.fits, w.around); long = w.following ∙ r.long ∙ sym w.around; few = omega (arith, r.few, w.around); loop = subst (ForLoop l) (sym w.around) r.loop }

pub room_less : (k : Marks) (l : Option ℕ) (n n' : ℕ) → HasRoom k l n → n' ≤ n → HasRoom k l n'
room_less k l n n' r p = record { fits = omega (arith, r.fits, p); long = r.long; few = r.few; loop = r.loop }
