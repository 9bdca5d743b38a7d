-- The union of two tables, one place after another.
use Rattle.std.proofs.Common.{◌++◌, [], ◌∷◌, zero, suc, IsTrue, ◌||◌, rules, ◌≡◌, ◌≢◌, ◌<◌, ◌≤◌, ◌+◌, ◌↔◌, ℕ, List, Bool, true, false, MatchBool, length, set, refl, sym, ap, ◌∙◌, subst, arith, below_more, get_or, get_or-set_same, get_or-set_other, ⊎_elim, length-set}
use Rattle.std.proofs.lemmas.List.{get_or_past}
use Rattle.std.proofs.lemmas.Bool.{cases_lt}
use Rattle.std.proofs.lemmas.List.Sums.{sum_by-set}
use Rattle.vlt_core.specs.Core.{Tok, a_key, a_var}
use Rattle.vlt_core.specs.Maps.{HeldMap, IsBelow, IsStatusBelow, kind_of, absent}
use Rattle.vlt_core.specs.Maps as maps
use Rattle.vlt_core.proofs.Maps.{status_refl}
use Rattle.vlt_core.specs.declared.held.Status.{Status}
use Rattle.vlt_core.specs.declared.held.Status.TheVariants.{Absent}
use Rattle.vlt_core.specs.HeldView.{status_of}
use Rattle.vlt_keyset.specs.Pairs.{HasOnly}
use Rattle.vlt_keyset.specs.Held.{at, Statuses, map_of, gap, IsJoin}
use Rattle.vlt_keyset.specs.Statuses.{gap_of, IsUnion, table_gap}
use Rattle.vlt_keyset.specs.Tables.{IsAlike, IsJoined, IsAllAbsent}

pub union_same : (a : maps.Status) → IsUnion a a a
union_same a = record { left = status_refl a; right = status_refl a; least = λ d p q. p }

pub union_kept : (a b : maps.Status) → IsStatusBelow b a → IsUnion a b a
union_kept a b p = record { left = status_refl a; right = p; least = λ d x y. x }

pub record Joining (xs ys cur : List Status) (i : ℕ) (grew : Bool) : Type 0 where
  pub long : length cur ≡ length xs
  pub done : (k : ℕ) → k < i → IsUnion (at xs k) (at ys k) (at cur k)
  pub rest : (k : ℕ) → i ≤ k → at cur k ≡ at xs k
  pub grown : MatchBool grew (table_gap cur < table_gap xs) (cur ≡ xs)

grown_more : (xs cur : List Status) (i : ℕ) (c : Status) (g : Bool) → MatchBool g (table_gap cur < table_gap xs) (cur ≡ xs) → i < length cur → gap_of c < gap_of (get_or cur i Absent) → table_gap (set cur i c) < table_gap xs
grown_more xs cur i c true h lt near = omega (arith, sum_by-set gap_of cur i c Absent lt)
grown_more xs cur i c false h lt near = omega (arith, sum_by-set gap_of cur i c Absent lt, ap table_gap h)

pub joining_write : (xs ys cur : List Status) (i : ℕ) (g : Bool) (c : Status) → Joining xs ys cur i g → i < length cur → IsUnion (at xs i) (at ys i) (status_of c) → gap_of c < gap_of (get_or cur i Absent) → Joining xs ys (set cur i c) (i + 1) true
joining_write xs ys cur i g c j lt joined near = record {
  long = length-set cur i c ∙ j.long;
  done = below_more _ i
      (λ k h. let other : k ≢ i = omega arith in subst (λ s. IsUnion (at xs k) (at ys k) (status_of s)) (sym (get_or-set_other cur i k c Absent other)) (j.done k h))
      (subst (λ s. IsUnion (at xs i) (at ys i) (status_of s)) (sym (get_or-set_same cur i c Absent lt)) joined);
  rest = λ k h. let other : k ≢ i = omega arith in ap status_of (get_or-set_other cur i k c Absent other) ∙ j.rest k (omega arith);
  grown = grown_more xs cur i c g j.grown lt near;
}

pub joining_keep : (xs ys cur : List Status) (i : ℕ) (g : Bool) → Joining xs ys cur i g → IsStatusBelow (at ys i) (at cur i) → Joining xs ys cur (i + 1) g
joining_keep xs ys cur i g j below = record {
  long = j.long;
  done = below_more _ i j.done (subst (λ s. IsUnion s (at ys i) (at cur i)) (j.rest i (omega arith)) (union_kept (at cur i) (at ys i) below));
  rest = λ k h. j.rest k (omega arith);
  grown = j.grown;
}

-- what is of the kind of an absent status is absent
absent_alike : (s : maps.Status) → kind_of absent ≡ kind_of s → s ≡ absent
absent_alike maps.absent e = refl
absent_alike (maps.held s) e = absurd (never e)
  where
    never : kind_of absent ≡ kind_of (maps.held s) → ⊥
    never e = cc
absent_alike (maps.lent s) e = absurd (never e)
  where
    never : kind_of absent ≡ kind_of (maps.lent s) → ⊥
    never e = cc
absent_alike maps.full e = absurd (never e)
  where
    never : kind_of absent ≡ kind_of maps.full → ⊥
    never e = cc

pub joining_all : (xs ys cur : List Status) (i : ℕ) (g : Bool) → Joining xs ys cur i g → IsAlike xs ys → length xs ≤ i → IsJoined xs ys cur
joining_all xs ys cur i g j alike past = record {
  long = j.long;
  each = λ k. ⊎_elim (j.done k)
      (λ ge. let none : at xs k ≡ absent = ap status_of (get_or_past xs k Absent (omega (arith, ge, past))) in
      rw (none, absent_alike (at ys k) (subst (λ s. kind_of s ≡ kind_of (at ys k)) none (alike.each k)), ap status_of (get_or_past cur k Absent (omega (arith, j.long, ge, past)))) (union_same absent))
      (cases_lt k i);
}

pub tables_below : (h o : Statuses) → ((i : ℕ) → IsStatusBelow (at h.keys i) (at o.keys i)) → ((i : ℕ) → IsStatusBelow (at h.vars i) (at o.vars i)) → IsBelow (map_of h) (map_of o)
tables_below h o p q = record { each = one }
  where
    one : (t : Tok) → IsStatusBelow (map_of h t) (map_of o t)
    one (a_key k) = p k
    one (a_var v) = q v

-- the tests of both tables together
pub below_both : (h o : Statuses) (a b : Bool) → IsTrue a → IsTrue a ↔ ((i : ℕ) → IsStatusBelow (at h.keys i) (at o.keys i)) → IsTrue b ↔ ((i : ℕ) → IsStatusBelow (at h.vars i) (at o.vars i)) → IsTrue b ↔ IsBelow (map_of h) (map_of o)
below_both h o a b t p q = (λ x. tables_below h o (p.0 t) (q.0 x), λ m. q.1 (λ i. m.each (a_var i)))

pub below_not : (h o : Statuses) (a : Bool) → a ≡ false → IsTrue a ↔ ((i : ℕ) → IsStatusBelow (at h.keys i) (at o.keys i)) → IsTrue a ↔ IsBelow (map_of h) (map_of o)
below_not h o a f p = (λ x. absurd (false_true (subst IsTrue f x)), λ m. p.1 (λ i. m.each (a_key i)))
  where
    false_true : IsTrue false → ⊥
    false_true h = search rules

absent_put : (xs : List Status) (x : Status) (i : ℕ) → status_of x ≡ absent → ((i : ℕ) → at xs i ≡ absent) → at (xs ++ x ∷ []) i ≡ absent
absent_put [] x zero e p = e
absent_put [] x (suc i) e p = refl
absent_put (y ∷ xs) x zero e p = p zero
absent_put (y ∷ xs) x (suc i) e p = absent_put xs x i e (λ k. p (suc k))

pub absent_more : (xs : List Status) → IsAllAbsent xs → IsAllAbsent (xs ++ Absent ∷ [])
absent_more xs p = record { each = λ i. absent_put xs Absent i refl p.each }

-- a table that is longer by an absent place says the same
pub longer_same : (xs ys : List Status) → ys ≡ xs ++ Absent ∷ [] → (i : ℕ) → at ys i ≡ at xs i
longer_same xs ys e i = ap (λ l. at l i) e ∙ one xs i
  where
    one : (xs : List Status) (i : ℕ) → at (xs ++ Absent ∷ []) i ≡ at xs i
    one [] zero = refl
    one [] (suc i) = refl
    one (x ∷ xs) zero = refl
    one (x ∷ xs) (suc i) = one xs i

-- tables that say the same
pub same_maps : (h k : Statuses) → ((i : ℕ) → at k.keys i ≡ at h.keys i) → ((i : ℕ) → at k.vars i ≡ at h.vars i) → map_of k ≡ map_of h
same_maps h k p q = λ i t. each t i
  where
    each : (t : Tok) → map_of k t ≡ map_of h t
    each (a_key n) = p n
    each (a_var n) = q n

-- what is absent from a place on
pub absent_end : (xs : List Status) (n i : ℕ) → length xs ≤ i → ((k : ℕ) → n ≤ k → k < i → kind_of (at xs k) ≡ kind_of absent) → (k : ℕ) → n ≤ k → at xs k ≡ absent
absent_end xs n i past all k le = ⊎_elim (λ lt. absent_alike (at xs k) (sym (all k le lt))) (λ ge. ap status_of (get_or_past xs k Absent (omega (arith, past, ge)))) (cases_lt k i)

among_not : (m n : ℕ) (h : Statuses) → ((i : ℕ) → m ≤ i → at h.keys i ≡ absent) → ((i : ℕ) → n ≤ i → at h.vars i ≡ absent) → HasOnly m n (map_of h)
among_not m n h p q (a_key k) never = p k (⊎_elim (λ lt. absurd (never lt)) (λ le. le) (cases_lt k m))
among_not m n h p q (a_var v) never = q v (⊎_elim (λ lt. absurd (never lt)) (λ le. le) (cases_lt v n))

pub only_both : (m n : ℕ) (h : Statuses) (a b : Bool) → IsTrue a → IsTrue a ↔ ((i : ℕ) → m ≤ i → at h.keys i ≡ absent) → IsTrue b ↔ ((i : ℕ) → n ≤ i → at h.vars i ≡ absent) → IsTrue b ↔ HasOnly m n (map_of h)
only_both m n h a b t p q = (λ x. among_not m n h (p.0 t) (q.0 x), λ f. q.1 (λ i le. f (a_var i) (λ lt. omega (arith, le, lt))))

pub only_not : (m n : ℕ) (h : Statuses) (a : Bool) → a ≡ false → IsTrue a ↔ ((i : ℕ) → m ≤ i → at h.keys i ≡ absent) → IsTrue a ↔ HasOnly m n (map_of h)
only_not m n h a f p = (λ x. absurd (false_true (subst IsTrue f x)), λ g. p.1 (λ i le. g (a_key i) (λ lt. omega (arith, le, lt))))
  where
    false_true : IsTrue false → ⊥
    false_true h = search rules

pub joined_maps : (a b c : Statuses) → IsJoined a.keys b.keys c.keys → IsJoined a.vars b.vars c.vars → IsJoin (map_of a) (map_of b) (map_of c)
joined_maps a b c p q = record {
  left = tables_below a c (λ i. (p.each i).left) (λ i. (q.each i).left);
  right = tables_below b c (λ i. (p.each i).right) (λ i. (q.each i).right);
  least = λ m x y. record { each = one m x y };
}
  where
    one : (m : HeldMap) → IsBelow (map_of a) m → IsBelow (map_of b) m → (t : Tok) → IsStatusBelow (map_of c t) (m t)
    one m x y (a_key k) = (p.each k).least (m (a_key k)) (x.each (a_key k)) (y.each (a_key k))
    one m x y (a_var v) = (q.each v).least (m (a_var v)) (x.each (a_var v)) (y.each (a_var v))

-- each table grew or stayed
pub grew_either : (a c : Statuses) (k v : Bool) → MatchBool k (table_gap c.keys < table_gap a.keys) (c.keys ≡ a.keys) → MatchBool v (table_gap c.vars < table_gap a.vars) (c.vars ≡ a.vars) → MatchBool (k || v) (gap c < gap a) (c ≡ a)
grew_either a c true true p q = omega arith
grew_either a c true false p q = omega (arith, ap table_gap q)
grew_either a c false true p q = omega (arith, ap table_gap p)
grew_either a c false false p q = same a c p q
  where
    same : (a c : Statuses) → c.keys ≡ a.keys → c.vars ≡ a.vars → c ≡ a
    same a c p q = λ i. record { keys = p i; vars = q i }

pub same_both : (h o : Statuses) (a b : Bool) → IsTrue a → IsTrue a ↔ (h.keys ≡ o.keys) → IsTrue b ↔ (h.vars ≡ o.vars) → IsTrue b ↔ (h ≡ o)
same_both h o a b t p q = (λ x. let k = p.0 t in let v = q.0 x in λ i. record { keys = k i; vars = v i }, λ e. q.1 (ap (λ x. x.vars) e))

pub same_not : (h o : Statuses) (a : Bool) → a ≡ false → IsTrue a ↔ (h.keys ≡ o.keys) → IsTrue a ↔ (h ≡ o)
same_not h o a f p = (λ x. absurd (false_true (subst IsTrue f x)), λ e. p.1 (ap (λ x. x.keys) e))
  where
    false_true : IsTrue false → ⊥
    false_true h = search rules
