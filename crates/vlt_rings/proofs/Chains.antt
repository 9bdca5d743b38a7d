-- A chain of parents is found by the test that goes up as many steps as there are things.
use Rattle.std.proofs.Common.{◌≡◌, ◌≢◌, ◌⊎◌, inl, inr, ℕ, zero, suc, ◌+◌, ◌<◌, ◌≤◌, ◌==◌, Bool, true, false, ◌||◌, eqb, List, [], ◌∷◌, length, Option, Some, None, refl, sym, ap, ◌∙◌, subst, arith, slice_get}
use Rattle.std.specs.List.{IsDistinct, AllByRecursion, list_any}
use Rattle.std.proofs.lemmas.Bool.{false≢true, ne_eqb}
use Rattle.std.proofs.lemmas.Bool.Decides.{nat_tests}
use Rattle.std.proofs.lemmas.Option.{none-some, same_Some, slice_get_within}
use Rattle.std.proofs.lemmas.Map.Steps.{length-le_from_distinct_below}
use Rattle.vlt_base.specs.Parents.{Parents, parent_in, parent_of, is_so_above, reaches, is_at_or_below}
use Rattle.vlt_rings.proofs.Lists.{equal_or_not}

-- so many parents lead from n to m, which isn't met before
abbrev pub Climbs : Parents → (m steps n : ℕ) → Type 0
Climbs ps m zero n = n ≡ m
Climbs ps m (suc s) n = (q : ℕ) × (n ≢ m) × (parent_of ps n ≡ Some q) × Climbs ps m s q

-- so many parents lead from n to m
abbrev pub LeadsUp : Parents → (m steps n : ℕ) → Type 0
LeadsUp ps m zero n = n ≡ m
LeadsUp ps m (suc s) n = (q : ℕ) × (parent_of ps n ≡ Some q) × LeadsUp ps m s q

pub record Way (ps : Parents) (m n : ℕ) : Type 0 where
  pub steps : ℕ
  pub climbs : Climbs ps m steps n

-- what leads to m leads there for a first time
pub first_way : (ps : Parents) (m s n : ℕ) → LeadsUp ps m s n → Way ps m n
first_way ps m zero n a = record { steps = 0; climbs = a }
first_way ps m (suc s) n a = by (equal_or_not n m) (first_way ps m s a.0 a.2)
  where
    by : (n ≡ m) ⊎ (n ≢ m) → Way ps m a.0 → Way ps m n
    by (inl e) w = record { steps = 0; climbs = e }
    by (inr k) w = record { steps = suc w.steps; climbs = (a.0, k, a.1, w.climbs) }

eq_is : (q n : ℕ) → eqb q n ≡ true → q ≡ n
eq_is q n e = grind (arith, nat_tests)

or_true : (b : Bool) → (b || true) ≡ true
or_true true = refl
or_true false = refl

or_false : (b : Bool) → (b || false) ≡ true → b ≡ true
or_false true h = refl
or_false false h = h

module _ (ps : Parents) (m : ℕ) (there : m < length ps) where
  is_eq_true : (n : ℕ) → n ≡ m → list_any (λ r. r == n) (m ∷ []) ≡ true
  is_eq_true n e = rw e (by (m == m) (grind (arith, nat_tests)))
    where
      by : (t : Bool) → t ≡ true → (t || false) ≡ true
      by true h = refl
      by false h = absurd (false≢true h)

  -- the length of the way is one of n alone
  only : (s t n : ℕ) → Climbs ps m s n → Climbs ps m t n → s ≡ t
  only zero zero n a b = refl
  only zero (suc t) n a b = absurd (b.1 a)
  only (suc s) zero n a b = absurd (a.1 b)
  only (suc s) (suc t) n a b =
      let same : a.0 ≡ b.0 = same_Some a.0 b.0 (sym a.2 ∙ b.2) in
      ap suc (only s t b.0 (subst (Climbs ps m s) same a.3) b.3)

  parent_within : (n q : ℕ) (x : Option (Option ℕ)) → slice_get ps n ≡ x → parent_in x ≡ Some q → n < length ps
  parent_within n q None at is = absurd (none-some q is)
  parent_within n q (Some p) at is = slice_get_within ps n p at

  within : (s n : ℕ) → Climbs ps m s n → n < length ps
  within zero n a = subst (λ k. k < length ps) (sym a) there
  within (suc s) n a = parent_within n a.0 (slice_get ps n) refl a.2

  -- the things of the way
  nodes : (s n : ℕ) → Climbs ps m s n → List ℕ
  nodes zero n a = n ∷ []
  nodes (suc s) n a = n ∷ nodes s a.0 a.3

  many : (s n : ℕ) (a : Climbs ps m s n) → length (nodes s n a) ≡ s + 1
  unfolding nodes
  many zero n a = refl
  many (suc s) n a = let e = many s a.0 a.3 in omega arith

  -- each of them leads to m by no more steps
  record Found (s q : ℕ) : Type 0 where
    steps : ℕ
    chain : Climbs ps m steps q
    few : steps ≤ s

  each_leads : (s n q : ℕ) (a : Climbs ps m s n) → list_any (eqb q) (nodes s n a) ≡ true → Found s q
  unfolding nodes
  each_leads zero n q a h = by (eqb q n) refl h
    where
      by : (t : Bool) → eqb q n ≡ t → (t || false) ≡ true → Found zero q
      by true e h = record { steps = 0; chain = eq_is q n e ∙ a; few = omega arith }
      by false e h = absurd (false≢true h)
  each_leads (suc s) n q a h = by (eqb q n) refl h (each_leads s a.0 q a.3)
    where
      by : (t : Bool) → eqb q n ≡ t → (t || list_any (eqb q) (nodes s a.0 a.3)) ≡ true → (list_any (eqb q) (nodes s a.0 a.3) ≡ true → Found s q) → Found (suc s) q
      by true e h again = record { steps = suc s; chain = subst (Climbs ps m (suc s)) (sym (eq_is q n e)) a; few = omega arith }
      by false e h again = let f = again h in record { steps = f.steps; chain = f.chain; few = let l = f.few in omega arith }

  off : (t n : ℕ) → Climbs ps m t n → (s q : ℕ) (a : Climbs ps m s q) → s < t → AllByRecursion (λ y. eqb n y ≡ false) (nodes s q a)
  unfolding nodes
  off t n b zero q a l = (ne_eqb n q (λ e. let k = only t zero q (subst (Climbs ps m t) e b) a in omega arith), tt)
  off t n b (suc s) q a l = (ne_eqb n q (λ e. let k = only t (suc s) q (subst (Climbs ps m t) e b) a in omega arith), off t n b s a.0 a.3 (omega arith))

  apart : (s n : ℕ) (a : Climbs ps m s n) → IsDistinct eqb (nodes s n a)
  unfolding nodes IsDistinct
  apart zero n a = (tt, tt)
  apart (suc s) n a = (off (suc s) n a s a.0 a.3 (omega arith), apart s a.0 a.3)

  short : (s n : ℕ) → Climbs ps m s n → s + 1 ≤ length ps
  short s n a = rw (← many s n a) (length-le_from_distinct_below (nodes s n a) (length ps) (apart s n a) (λ q h. let f = each_leads s n q a h in within f.steps q f.chain))

  through_reaches : (k s n : ℕ) → Climbs ps m s n → s ≤ k → reaches k ps (m ∷ []) n ≡ true
  through_reaches zero zero n a l = is_eq_true n a
  through_reaches zero (suc s) n a l = absurd (omega arith)
  through_reaches (suc k) zero n a l = rw (is_eq_true n a) refl
  through_reaches (suc k) (suc s) n a l = rw (a.2, through_reaches k s a.0 a.3 (omega arith)) (or_true (list_any (λ r. r == n) (m ∷ [])))

  -- so the bounded test finds each chain
  pub chain_found : (s n : ℕ) → LeadsUp ps m s n → is_at_or_below ps (m ∷ []) n ≡ true
  chain_found s n a = let w = first_way ps m s n a in let l = short w.steps n w.climbs in through_reaches (length ps) w.steps n w.climbs (omega arith)

pub record Chain (ps : Parents) (m n : ℕ) : Type 0 where
  pub steps : ℕ
  pub leads : LeadsUp ps m steps n

chain_up : (k : ℕ) (ps : Parents) (m n : ℕ) → ((q : ℕ) → reaches k ps (m ∷ []) q ≡ true → Chain ps m q) → reaches (suc k) ps (m ∷ []) n ≡ true → Chain ps m n
chain_up k ps m n again h = by (m == n) refl h
  where
    up : (x : Option ℕ) → parent_of ps n ≡ x → is_so_above (reaches k ps (m ∷ [])) x ≡ true → Chain ps m n
    up None at r = absurd (false≢true r)
    up (Some q) at r = let c = again q r in record { steps = suc c.steps; leads = (q, at, c.leads) }

    by : (t : Bool) → (m == n) ≡ t → ((t || false) || is_so_above (reaches k ps (m ∷ [])) (parent_of ps n)) ≡ true → Chain ps m n
    by true e r = record { steps = 0; leads = sym (eq_is m n e) }
    by false e r = up (parent_of ps n) refl r

-- what the test finds is a chain
pub found_chain : (k : ℕ) (ps : Parents) (m n : ℕ) → reaches k ps (m ∷ []) n ≡ true → Chain ps m n
found_chain zero ps m n h = record { steps = 0; leads = sym (eq_is m n (or_false (m == n) h)) }
found_chain (suc k) ps m n h = chain_up k ps m n (λ q r. found_chain k ps m q r) h
