-- How many instances a function has.
use Rattle.std.proofs.Common.{◌≡◌, ◌≤◌, ◌<◌, ◌+◌, ◌-◌, refl, sym, ap, ◌∙◌, ℕ, zero, suc, nat_lt, nat_le, ◌&&◌, if◌then◌else◌, Bool, true, false, List, [], ◌∷◌, map, length, filter, Option, Some, None, arith}
use Rattle.std.specs.List.{range_with_len}
use Rattle.std.proofs.lemmas.Bool.Decides.{nat_tests}
use Rattle.vlt_base.specs.States.{has_state}
use Rattle.vlt_base.specs.declared.states.StateSet.{StateSet}
use Rattle.vlt_core.specs.Core.{Program, Func}
use Rattle.vlt_core.specs.Lookups.{every_state, no_states, key_type, state_count, states_up_to, up_to_in, key_states_up_to}
use Rattle.vlt_core.specs.Instances.{Bound, bound_in, origins}
use Rattle.cert_format.specs.Bounds.{instances}
use Rattle.cert_read.specs.Heads.{origin_count}

-- ---- how many numbers below some pass a test

module _ (f : ℕ → Bool) where
  none_after : (n a : ℕ) → ((i : ℕ) → a ≤ i → f i ≡ false) → filter f (range_with_len a n) ≡ []
  none_after zero a h = refl
  none_after (suc n) a h = rw (h a (omega arith)) (none_after n (a + 1) (λ i k. h i (omega (arith, k))))

  one_more : (a : ℕ) (xs ys : List ℕ) (b : Bool) → f a ≡ b → length (filter f xs) ≡ length (filter f ys) →
      length (filter f (a ∷ xs)) ≡ length (filter f (a ∷ ys))
  one_more a xs ys true e h = rw e (ap (λ n. suc n) h)
  one_more a xs ys false e h = rw e h

  -- those beyond a number that no one passes from there on don't count
  as_many : (k m a : ℕ) → k ≤ m → ((i : ℕ) → a + k ≤ i → f i ≡ false) →
      length (filter f (range_with_len a m)) ≡ length (filter f (range_with_len a k))
  as_many zero m a l h = ap length (none_after m a (λ i q. h i (omega (arith, q))))
  as_many (suc k) zero a l h = absurd (omega (arith, l))
  as_many (suc k) (suc m) a l h =
      one_more a (range_with_len (a + 1) m) (range_with_len (a + 1) k) (f a) refl
      (as_many k m (a + 1) (omega (arith, l)) (λ i q. h i (omega (arith, q))))

  pub same_count : (m n : ℕ) → ((i : ℕ) → m ≤ i → f i ≡ false) → ((i : ℕ) → n ≤ i → f i ≡ false) →
      length (filter f (range_with_len 0 m)) ≡ length (filter f (range_with_len 0 n))
  same_count m n h k = by (nat_le n m) refl
    where
      less : nat_le n m ≡ true → n ≤ m
      less e = grind (arith, nat_tests)

      more : nat_le n m ≡ false → m ≤ n
      more e = grind (arith, nat_tests)

      by : (b : Bool) → nat_le n m ≡ b → length (filter f (range_with_len 0 m)) ≡ length (filter f (range_with_len 0 n))
      by true e = as_many n m 0 (less e) (λ i q. k i (omega (arith, q)))
      by false e = sym (as_many m n 0 (more e) (λ i q. h i (omega (arith, q))))

-- ---- the states up to a bound

not_below : (n i : ℕ) → n ≤ i → nat_lt i n ≡ false
not_below n i h = grind (arith, nat_tests)

both_false : (a : Bool) → (a && false) ≡ false
both_false true = refl
both_false false = refl

module _ (p : Program) (t b : ℕ) where
  beyond : (i : ℕ) → 32 ≤ i → states_up_to p t b i ≡ false
  beyond i h = rw (not_below 32 i h) refl

  outside : (i : ℕ) → state_count p t ≤ i → states_up_to p t b i ≡ false
  outside i h = rw (not_below (state_count p t) i h) (both_false (every_state i))

  pub states_counted : (s : StateSet) → has_state s ≡ states_up_to p t b →
      length (filter (has_state s) (range_with_len 0 32)) ≡ origin_count p (Some t) b
  states_counted s e =
      ap (λ f. length (filter f (range_with_len 0 32))) e ∙ same_count (states_up_to p t b) 32 (state_count p t) beyond outside

  pub none_counted : no_states ≡ states_up_to p t b → 0 ≡ origin_count p (Some t) b
  none_counted e =
      sym (ap (λ f. length (filter f (range_with_len 0 (state_count p t)))) (sym e)
      ∙ ap length (none_after no_states (state_count p t) 0 (λ i l. refl)))

-- ---- one number more

range_first : (a b : ℕ) → a < b → range_with_len a (b - a) ≡ a ∷ range_with_len (a + 1) (b - (a + 1))
range_first a b l = let e : b - a ≡ suc (b - (a + 1)) = omega arith in ap (range_with_len a) e

pub counted : (f : ℕ → Bool) (s most n m : ℕ) → s < most → m ≡ (if f s then n + 1 else n) →
    n + length (filter f (range_with_len s (most - s))) ≡ m + length (filter f (range_with_len (s + 1) (most - (s + 1))))
counted f s most n m room is =
    ap (λ z. n + length (filter f z)) (range_first s most room) ∙ by (f s) (length (filter f (range_with_len (s + 1) (most - (s + 1))))) refl (sym is)
  where
    rest : List ℕ
    rest = range_with_len (s + 1) (most - (s + 1))

    by : (b : Bool) (k : ℕ) → f s ≡ b → (if b then n + 1 else n) ≡ m → n + length (filter f (s ∷ rest)) ≡ m + length (filter f rest)
    by true k e h = rw e (omega (arith, h))
    by false k e h = rw e (omega (arith, h))

-- ---- instances

length_map : {A B : Type 0} (g : A → B) (xs : List A) → length (map g xs) ≡ length xs
length_map g [] = refl
length_map g (x ∷ xs) = ap (λ n. suc n) (length_map g xs)

module _ (p : Program) (f : Func) where
  abbrev instances_of : Option Bound → Option ℕ
  instances_of None = None
  instances_of (Some b) = Some (length (origins p f))

  origins_counted : (b : Bound) → bound_in f.clause ≡ Some b → length (origins p f) ≡ origin_count p (key_type f b.key) b.state
  origins_counted b e = by (key_type f b.key) refl
    where
      by : (o : Option ℕ) → key_type f b.key ≡ o → length (origins p f) ≡ origin_count p (key_type f b.key) b.state
      by None k = rw (e, k) refl
      by (Some t) k = rw (e, k)
          (length_map Some (filter (key_states_up_to p f b.key b.state) (range_with_len 0 (state_count p t)))
          ∙ ap (λ o. length (filter (up_to_in p o b.state) (range_with_len 0 (state_count p t)))) k)

  pub instances_none : bound_in f.clause ≡ None → instances p f ≡ None
  instances_none e = ap instances_of e

  pub instances_some : (b : Bound) → bound_in f.clause ≡ Some b → instances p f ≡ Some (origin_count p (key_type f b.key) b.state)
  instances_some b e = ap instances_of e ∙ ap Some (origins_counted b e)
