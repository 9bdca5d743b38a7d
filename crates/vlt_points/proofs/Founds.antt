-- What the code finds of all tokens at one point.
use Rattle.std.proofs.Common.{◌≡◌, ◌↔◌, ◌<◌, ◌≤◌, ◌+◌, ◌-◌, ◌*◌, ◌^◌, max, not, ℕ, zero, suc, Bool, true, false, IsTrue, List, [], ◌∷◌, ◌++◌, length, set, get_or, refl, sym, ap, ◌∙◌, subst, ◌||◌, ◌⊎◌, inl, inr, ⊎_elim, arith, rules}
use Rattle.std.proofs.lemmas.Bool.{cases_lt}
use Rattle.std.proofs.lemmas.List.{get_or_past, get_or_read, get_or-set_same, get_or-set_other, get_or_push, get_or_append_left, length-append}
use Rattle.vlt_base.specs.States.{is_bit}
use Rattle.vlt_core.specs.Core.{Tok, a_key, a_var, Func}
use Rattle.vlt_core.specs.Maps.{Row, is_tok}
use Rattle.vlt_core.specs.Found.{One, one_absent, one_held, one_lent, one_full, image_if}
use Rattle.vlt_core_laws.specs.Sweep.{Many, In}
use Rattle.vlt_core_laws.proofs.Listed.{tok_is}
use Rattle.vlt_faults.specs.declared.finding.ones.Ones.{Ones}
use Rattle.vlt_faults.specs.Finding.Ones.{many_of, gap_of, lacks}
use Rattle.vlt_faults.specs.Finding.Marks.{slot, at, no_ones, IsInto, IsSameParts}
use Rattle.vlt_faults.specs.Finding.Passes.{IsMoved}
use Rattle.vlt_faults.proofs.OfFinding.Into.{none_first, into_of, nearer_of}
use Rattle.vlt_faults.proofs.OfFinding.Passing.{moved_other}
use Rattle.vlt_points.specs.Founds.{place_of, IsTokenOf, found, gap_to, IsNear, IsCloser, IsJoin, IsPut}

-- ---- places

pub place_one : (t u : Tok) → place_of t ≡ place_of u → t ≡ u
place_one (a_key k) (a_key j) e = ap a_key (omega (arith, e))
place_one (a_var v) (a_var w) e = ap a_var (omega (arith, e))
place_one (a_key k) (a_var v) e = absurd (omega (arith, e))
place_one (a_var v) (a_key k) e = absurd (omega (arith, e))

pub other_tok : (t u : Tok) → (place_of t ≡ place_of u → ⊥) → is_tok t u ≡ false
other_tok t u never = by (is_tok t u) refl
  where
    by : (b : Bool) → is_tok t u ≡ b → is_tok t u ≡ false
    by false e = e
    by true e = absurd (never (ap place_of (tok_is t u e)))

pub same_or : (i n : ℕ) → (i ≡ n) ⊎ (i ≡ n → ⊥)
same_or i n = ⊎_elim (λ p. inr (λ e. omega (arith, p, e))) (λ p. ⊎_elim (λ q. inr (λ e. omega (arith, q, e))) (λ q. inl (omega (arith, p, q))) (cases_lt n i)) (cases_lt i n)

-- ---- tables with the same parts

pub parts_refl : (a : Ones) → IsSameParts a a
parts_refl a = (refl, refl, refl, refl)

pub parts_same : (a b : Ones) → a ≡ b → IsSameParts a b
parts_same a b e = subst (IsSameParts a) e (parts_refl a)

pub many_same : (a b : Ones) → IsSameParts a b → many_of a ≡ many_of b
many_same a b e = λ i o. each o i
  where
    each : (o : One) → many_of a o ≡ many_of b o
    each one_absent = e.0
    each (one_held s) = ap (λ n. is_bit n s) e.2
    each (one_lent s) = ap (λ n. is_bit n s) e.3
    each one_full = e.1

pub gap_same : (a b : Ones) → IsSameParts a b → gap_of a ≡ gap_of b
gap_same a b e = λ i. lacks (e.0 i) + (lacks (e.1 i) + ((2 ^ 32 - e.2 i) + (2 ^ 32 - e.3 i)))

-- ---- rows

none_image : (b : Bool) (r : Row) (m : Many) → ((o : One) → In m o → ⊥) → (o : One) → image_if b r (In m) o → ⊥
none_image true r m none o x = none x.0 x.1
none_image false r m none o x = none o x

moved_nothing : (t : Tok) (r : Row) (m : Many) → ((o : One) → In m o → ⊥) → IsMoved t r m m
moved_nothing t r m none = record { each = λ o. (λ x. absurd (none o x), λ x. absurd (none_image (is_tok t r.tok) r m none o x)) }

past_nothing : (xs : List Ones) (i : ℕ) → length xs ≤ i → (o : One) → In (at xs i) o → ⊥
past_nothing xs i past o x = (none_first 0).none o (subst (λ m. In (many_of m) o) (get_or_past xs i no_ones past) x)

-- a row passed a token that has a place
pub row_put : (xs : List Ones) (n : ℕ) (old v : Ones) (r : Row) → n < length xs → n ≡ place_of r.tok → old ≡ get_or xs n old → IsMoved r.tok r (many_of old) (many_of v) → (t : Tok) → IsMoved t r (found xs t) (found (set xs n v) t)
row_put xs n old v r lt e read moved t = ⊎_elim own other (same_or (place_of t) n)
  where
    own : place_of t ≡ n → IsMoved t r (found xs t) (found (set xs n v) t)
    own p =
        let same : r.tok ≡ t = sym (place_one t r.tok (p ∙ e)) in
        let before : many_of old ≡ found xs t = ap many_of (get_or_read xs n old lt read no_ones) ∙ ap (at xs) (sym p) in
        let after : many_of v ≡ found (set xs n v) t = sym (ap (at (set xs n v)) p ∙ ap many_of (get_or-set_same xs n v no_ones lt)) in
        subst (λ u. IsMoved u r (found xs t) (found (set xs n v) t)) same (subst (λ m. IsMoved r.tok r m (found (set xs n v) t)) before (subst (IsMoved r.tok r (many_of old)) after moved))

    other : (place_of t ≡ n → ⊥) → IsMoved t r (found xs t) (found (set xs n v) t)
    other p = subst (IsMoved t r (found xs t)) (sym (ap many_of (get_or-set_other xs n (place_of t) v no_ones p))) (moved_other t r (found xs t) (other_tok t r.tok (λ q. p (q ∙ sym e))))

-- and one that has none
pub row_past : (xs : List Ones) (n : ℕ) (r : Row) → length xs ≤ n → n ≡ place_of r.tok → (t : Tok) → IsMoved t r (found xs t) (found xs t)
row_past xs n r past e t = ⊎_elim
    (λ p. moved_nothing t r (found xs t) (past_nothing xs (place_of t) (omega (arith, p, past))))
    (λ p. moved_other t r (found xs t) (other_tok t r.tok (λ q. p (q ∙ sym e)))) (same_or (place_of t) n)

-- ---- gaps

pub gap_to_same : (n : ℕ) (xs ys : List Ones) → ((i : ℕ) → IsSameParts (slot ys i) (slot xs i)) → gap_to n ys ≡ gap_to n xs
gap_to_same zero xs ys e = refl
gap_to_same (suc n) xs ys e = let a = gap_same (slot ys n) (slot xs n) (e n) in let b = gap_to_same n xs ys e in omega (arith, a, b)

-- at one place less
pub gap_to_put : (n i : ℕ) (xs ys : List Ones) → i < n → gap_of (slot ys i) < gap_of (slot xs i) → ((j : ℕ) → (j ≡ i → ⊥) → slot ys j ≡ slot xs j) → gap_to n ys < gap_to n xs
gap_to_put zero i xs ys lt near others = absurd (omega (arith, lt))
gap_to_put (suc n) i xs ys lt near others = ⊎_elim
    (λ p. let a : gap_of (slot ys n) < gap_of (slot xs n) = subst (λ j. gap_of (slot ys j) < gap_of (slot xs j)) p near in let b = gap_to_others n i xs ys (omega (arith, p)) others in omega (arith, a, b))
    (λ p. let a : gap_of (slot ys n) ≡ gap_of (slot xs n) = ap gap_of (others n (λ q. p (sym q))) in let b = gap_to_put n i xs ys (below i n lt p) near others in omega (arith, a, b)) (same_or i n)
  where
    below : (i n : ℕ) → i < suc n → (i ≡ n → ⊥) → i < n
    below i n lt p = ⊎_elim (λ q. q) (λ q. absurd (p (omega (arith, lt, q)))) (cases_lt i n)

    gap_to_others : (n i : ℕ) (xs ys : List Ones) → n ≤ i → ((j : ℕ) → (j ≡ i → ⊥) → slot ys j ≡ slot xs j) → gap_to n ys ≡ gap_to n xs
    gap_to_others zero i xs ys le others = refl
    gap_to_others (suc n) i xs ys le others =
        let a : gap_of (slot ys n) ≡ gap_of (slot xs n) = ap gap_of (others n (λ e. omega (arith, le, e))) in
        let b = gap_to_others n i xs ys (omega (arith, le)) others in omega (arith, a, b)

-- ---- joins

pub into_nothing : (m x : Ones) → ((o : One) → In (many_of m) o → ⊥) → IsInto m x x
into_nothing m x none = record { more = λ o h. h; has = λ o h. absurd (none o h); comes = λ o h. inl h }

-- the first i places of m were joined
pub record Joining (m old : List Ones) (i : ℕ) (grew : Bool) (new : List Ones) : Type 0 where
  pub above : i ≤ length new
  pub long : (n : ℕ) → length old ≤ n → length m ≤ n → length new ≤ n
  pub past : (j : ℕ) → j < i → IsInto (slot m j) (slot old j) (slot new j)
  pub rest : (j : ℕ) → i ≤ j → slot new j ≡ slot old j
  pub closer : IsCloser grew (length m) old new

pub joining_first : (m old : List Ones) → Joining m old 0 false old
joining_first m old = record {
  above = omega arith;
  long = λ n p q. p;
  past = λ j p. absurd (omega (arith, p));
  rest = λ j p. refl;
  closer = λ j. parts_refl (slot old j);
}

closer_more : (w i : ℕ) (g b : Bool) (old cur new : List Ones) → i < w → IsCloser g w old cur → IsNear b (slot cur i) (slot new i) → ((j : ℕ) → (j ≡ i → ⊥) → slot new j ≡ slot cur j) → (h : Bool) → h ≡ (b || g) → IsCloser h w old new
closer_more w i false true old cur new lt c near others h e = subst (λ h. IsCloser h w old new) (sym e) (λ n le. let a = gap_to_put n i cur new (omega (arith, lt, le)) near others in let b = gap_to_same n old cur c in omega (arith, a, b))
closer_more w i true true old cur new lt c near others h e = subst (λ h. IsCloser h w old new) (sym e) (λ n le. let a = gap_to_put n i cur new (omega (arith, lt, le)) near others in let b = c n le in omega (arith, a, b))
closer_more w i false false old cur new lt c near others h e = subst (λ h. IsCloser h w old new) (sym e) (λ j. all j)
  where
    step : (j : ℕ) → IsSameParts (slot new j) (slot cur j)
    step j = ⊎_elim (λ p. subst (λ k. IsSameParts (slot new k) (slot cur k)) (sym p) near) (λ p. parts_same (slot new j) (slot cur j) (others j p)) (same_or j i)

    all : (j : ℕ) → IsSameParts (slot new j) (slot old j)
    all j = let a = step j in let b = c j in (a.0 ∙ b.0, a.1 ∙ b.1, a.2 ∙ b.2, a.3 ∙ b.3)
closer_more w i true false old cur new lt c near others h e = subst (λ h. IsCloser h w old new) (sym e) (λ n le. let a = gap_to_same n cur new step in let b = c n le in omega (arith, a, b))
  where
    step : (j : ℕ) → IsSameParts (slot new j) (slot cur j)
    step j = ⊎_elim (λ p. subst (λ k. IsSameParts (slot new k) (slot cur k)) (sym p) near) (λ p. parts_same (slot new j) (slot cur j) (others j p)) (same_or j i)

pub joining_more : (m old : List Ones) (i : ℕ) (g b : Bool) (cur new : List Ones) → i < length m → Joining m old i g cur →
    i < length new → ((n : ℕ) → length cur ≤ n → i < n → length new ≤ n) → IsInto (slot m i) (slot cur i) (slot new i) → ((j : ℕ) → (j ≡ i → ⊥) → slot new j ≡ slot cur j) → IsNear b (slot cur i) (slot new i) →
    (h : Bool) → h ≡ (b || g) → Joining m old (i + 1) h new
joining_more m old i g b cur new lt q some long into others near h e = record {
  above = omega (arith, some);
  long = λ n p r. long n (q.long n p r) (omega (arith, lt, r));
  past = λ j p. ⊎_elim
      (λ same. subst (λ k. IsInto (slot m k) (slot old k) (slot new k)) (sym same) (subst (λ x. IsInto (slot m i) x (slot new i)) (q.rest i (omega arith)) into))
      (λ apart. subst (IsInto (slot m j) (slot old j)) (sym (others j apart)) (q.past j (below j i p apart))) (same_or j i);
  rest = λ j p. others j (λ e. omega (arith, p, e)) ∙ q.rest j (omega (arith, p));
  closer = closer_more (length m) i g b old cur new lt q.closer near others h e;
}
  where
    below : (i n : ℕ) → i < n + 1 → (i ≡ n → ⊥) → i < n
    below i n lt p = ⊎_elim (λ q. q) (λ q. absurd (p (omega (arith, lt, q)))) (cases_lt i n)

pub joining_ends : (m old : List Ones) (i : ℕ) (g : Bool) (new : List Ones) → length m ≤ i → Joining m old i g new → IsJoin m old new
joining_ends m old i g new past q = record {
  into = λ j. ⊎_elim (λ p. q.past j p) (λ p. subst (IsInto (slot m j) (slot old j)) (sym (q.rest j p)) (into_nothing (slot m j) (slot old j) (past_nothing m j (omega (arith, past, p))))) (cases_lt j i);
  long = q.long;
}

-- ---- one place

pub put_set : (xs : List Ones) (n : ℕ) (v : Ones) → n < length xs → IsPut n v xs (set xs n v)
put_set xs n v lt = record { here = get_or-set_same xs n v no_ones lt; others = λ i p. get_or-set_other xs n i v no_ones p }

pub put_push : (xs : List Ones) (n : ℕ) (v : Ones) → n ≤ length xs → length xs ≤ n → IsPut n v xs (xs ++ v ∷ [])
put_push xs n v a b = record { here = get_or_push xs v no_ones n (omega (arith, a, b)); others = others }
  where
    others : (i : ℕ) → (i ≡ n → ⊥) → slot (xs ++ v ∷ []) i ≡ slot xs i
    others i p = ⊎_elim
        (λ q. get_or_append_left xs (v ∷ []) no_ones i q)
        (λ q. ⊎_elim
        (λ r. absurd (p (omega (arith, a, b, q, r))))
        (λ r. let long = length-append xs (v ∷ []) in get_or_past (xs ++ v ∷ []) i no_ones (omega (arith, long, r)) ∙ sym (get_or_past xs i no_ones q)) (cases_lt i (length xs + 1))) (cases_lt i (length xs))

into_parts : (m old x y : Ones) → IsSameParts old x → IsInto m old y → IsInto m x y
into_parts m old x y e i =
    let same : many_of old ≡ many_of x = many_same old x e in
    record { more = λ o h. i.more o (subst (λ k. In k o) (sym same) h); has = i.has; comes = λ o h. ⊎_elim (λ z. inl (subst (λ k. In k o) same z)) (λ z. inr z) (i.comes o h) }

pub join_into : (xs ys : List Ones) (i : ℕ) (old m both : Ones) → IsSameParts old (slot xs i) → ((o : One) → In (many_of both) o ↔ (In (many_of old) o ⊎ In (many_of m) o)) → IsPut i both xs ys → IsInto m (slot xs i) (slot ys i)
join_into xs ys i old m both e f p = subst (IsInto m (slot xs i)) (sym p.here) (into_parts m old (slot xs i) both e (into_of old m both f))

pub join_near : (xs ys : List Ones) (i : ℕ) (old m both : Ones) (b : Bool) → IsSameParts old (slot xs i) → ((o : One) → In (many_of both) o ↔ (In (many_of old) o ⊎ In (many_of m) o)) → IsPut i both xs ys → (IsTrue b ↔ IsSameParts both old) → IsNear (not b) (slot xs i) (slot ys i)
join_near xs ys i old m both true e f p s = let q = s.0 (search rules) in subst (λ y. IsSameParts y (slot xs i)) (sym p.here) (q.0 ∙ e.0, q.1 ∙ e.1, q.2 ∙ e.2, q.3 ∙ e.3)
join_near xs ys i old m both false e f p s =
    let near = nearer_of old m both f (λ q. no (s.1 q)) in
    let same = gap_same old (slot xs i) e in
    subst (λ y. gap_of y < gap_of (slot xs i)) (sym p.here) (omega (arith, near, same))
  where
    no : IsTrue false → ⊥
    no h = search rules

-- ---- the start

pub started_more : (F : Tok → One → Type 0) (xs : List Ones) (n : ℕ) (v : Ones) (u : Tok) → length xs ≡ n → place_of u ≡ n → ((o : One) → In (many_of v) o ↔ F u o) → ((t : Tok) → place_of t < n → (o : One) → In (found xs t) o ↔ F t o) → (t : Tok) → place_of t < n + 1 → (o : One) → In (found (xs ++ v ∷ []) t) o ↔ F t o
started_more F xs n v u long at own rest t lt o = ⊎_elim
    (λ p. subst (λ x. In (many_of x) o ↔ F t o) (sym (get_or_append_left xs (v ∷ []) no_ones (place_of t) (omega (arith, p, long)))) (rest t p o))
    (λ p. let here : place_of t ≡ n = omega (arith, p, lt) in
    subst (λ x. In (many_of x) o ↔ F t o) (sym (ap (slot (xs ++ v ∷ [])) here ∙ get_or_push xs v no_ones n long)) (subst (λ k. In (many_of v) o ↔ F k o) (place_one u t (at ∙ sym here)) (own o))) (cases_lt (place_of t) n)

pub token_place : (f : Func) (t : Tok) (count : ℕ) → count ≡ 2 * max (length f.keys) (length f.vars) → IsTokenOf f t → place_of t < count
token_place f (a_key k) count e lt = omega (arith, e, lt)
token_place f (a_var v) count e lt = omega (arith, e, lt)
