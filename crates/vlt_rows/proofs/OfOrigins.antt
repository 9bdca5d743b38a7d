-- The origins of a function's instances, as the code lists and tests them.
use Rattle.std.proofs.Common.{◌≡◌, ◌≤◌, ◌+◌, ◌↔◌, refl, sym, ap, ◌∙◌, subst, ℕ, zero, suc, nat_lt, nat_le, ◌&&◌, Bool, true, false, IsTrue, if◌then◌else◌, List, [], ◌∷◌, ◌++◌, map, filter, Option, Some, None, option_map, arith, rules}
use Rattle.std.specs.List.{range_with_len}
use Rattle.std.proofs.lemmas.Bool.Decides.{nat_tests}
use Rattle.std.proofs.lemmas.List.FromFn.{filter_of_map_range_with_len_more}
use Rattle.vlt_base.specs.States.{has_state}
use Rattle.vlt_base.specs.declared.states.StateSet.{StateSet}
use Rattle.vlt_core.specs.Core.{Func, Program}
use Rattle.vlt_core.specs.Lookups.{no_states, state_count, every_state, key_type, key_states_up_to, states_up_to}
use Rattle.vlt_core.specs.Instances.{Bound, bound_in, IsOriginOf, IsOrigin, origins}
use Rattle.vlt_core.specs.LookupViews.{bound_view}
use Rattle.vlt_core.specs.declared.lookups.Bound.{Bound as CodeBound}

-- ---- numbers that pass a test

module _ (P : ℕ → Bool) where
  none_after : (n a : ℕ) → ((i : ℕ) → a ≤ i → P i ≡ false) → filter P (range_with_len a n) ≡ []
  none_after zero a h = refl
  none_after (suc n) a h = rw (h a (omega arith)) (none_after n (a + 1) (λ i k. h i (omega (arith, k))))

  one_more : (a : ℕ) (xs ys : List ℕ) (b : Bool) → P a ≡ b → filter P xs ≡ filter P ys → filter P (a ∷ xs) ≡ filter P (a ∷ ys)
  one_more a xs ys true e h = rw e (ap (λ l. a ∷ l) h)
  one_more a xs ys false e h = rw e h

  -- those from a number on that none passes from there don't count
  as_far : (k m a : ℕ) → k ≤ m → ((i : ℕ) → a + k ≤ i → P i ≡ false) → filter P (range_with_len a m) ≡ filter P (range_with_len a k)
  as_far zero m a l h = none_after m a (λ i q. h i (omega (arith, q)))
  as_far (suc k) zero a l h = absurd (omega (arith, l))
  as_far (suc k) (suc m) a l h =
      one_more a (range_with_len (a + 1) m) (range_with_len (a + 1) k) (P a) refl
      (as_far k m (a + 1) (omega (arith, l)) (λ i q. h i (omega (arith, q))))

  same_numbers : (m n : ℕ) → ((i : ℕ) → m ≤ i → P i ≡ false) → ((i : ℕ) → n ≤ i → P i ≡ false) → filter P (range_with_len 0 m) ≡ filter P (range_with_len 0 n)
  same_numbers m n h k = by (nat_le n m) refl
    where
      less : nat_le n m ≡ true → n ≤ m
      less e = grind (arith, nat_tests)

      more : nat_le n m ≡ false → m ≤ n
      more e = grind (arith, nat_tests)

      by : (b : Bool) → nat_le n m ≡ b → filter P (range_with_len 0 m) ≡ filter P (range_with_len 0 n)
      by true e = as_far n m 0 (less e) (λ i q. k i (omega (arith, q)))
      by false e = sym (as_far m n 0 (more e) (λ i q. h i (omega (arith, q))))

-- ---- origins, by the bound entry

abbrev states_in : (p : Program) (f : Func) (k b : ℕ) → Option ℕ → List ℕ
states_in p f k b None = []
states_in p f k b (Some t) = filter (key_states_up_to p f k b) (range_with_len 0 (state_count p t))

abbrev origins_of : Program → Func → Option Bound → List (Option ℕ)
origins_of p f None = None ∷ []
origins_of p f (Some b) = map Some (states_in p f b.key b.state (key_type f b.key))

not_below : (n i : ℕ) → n ≤ i → nat_lt i n ≡ false
not_below n i h = grind (arith, nat_tests)

both_false : (a : Bool) → (a && false) ≡ false
both_false true = refl
both_false false = refl

module _ (p : Program) (f : Func) where
  -- ---- as the code lists them

  beyond : (t b i : ℕ) → 32 ≤ i → states_up_to p t b i ≡ false
  beyond t b i h = rw (not_below 32 i h) refl

  outside : (t b i : ℕ) → state_count p t ≤ i → states_up_to p t b i ≡ false
  outside t b i h = rw (not_below (state_count p t) i h) (both_false (every_state i))

  up_to_32 : (k b : ℕ) (kt : Option ℕ) → key_type f k ≡ kt → filter (key_states_up_to p f k b) (range_with_len 0 32) ≡ states_in p f k b kt
  up_to_32 k b None e = rw e (none_after no_states 32 0 (λ i l. refl))
  up_to_32 k b (Some t) e = rw e (same_numbers (states_up_to p t b) 32 (state_count p t) (beyond t b) (outside t b))

  pub origins_alone : (x : Option CodeBound) → option_map bound_view x ≡ bound_in f.clause → x ≡ None → None ∷ [] ≡ origins p f
  origins_alone x is none = ap (origins_of p f) (sym (ap (option_map bound_view) none) ∙ is)

  pub origins_each : (x : Option CodeBound) (b : CodeBound) (s : StateSet) → option_map bound_view x ≡ bound_in f.clause → x ≡ Some b →
      has_state s ≡ key_states_up_to p f b.key.0 b.state → map Some (filter (has_state s) (range_with_len 0 32)) ≡ origins p f
  origins_each x b s is some up =
      ap (λ P. map Some (filter P (range_with_len 0 32))) up ∙ ap (map Some) (up_to_32 b.key.0 b.state (key_type f b.key.0) refl) ∙
      ap (origins_of p f) (sym (ap (option_map bound_view) some) ∙ is)

  pub origins_none : (x : Option CodeBound) (b : CodeBound) → option_map bound_view x ≡ bound_in f.clause → x ≡ Some b →
      no_states ≡ key_states_up_to p f b.key.0 b.state → [] ≡ origins p f
  origins_none x b is some up =
      sym (ap (map Some) (none_after no_states 32 0 (λ i l. refl))) ∙
      ap (λ P. map Some (filter P (range_with_len 0 32))) up ∙ ap (map Some) (up_to_32 b.key.0 b.state (key_type f b.key.0) refl) ∙
      ap (origins_of p f) (sym (ap (option_map bound_view) some) ∙ is)

  -- ---- as the code tests one

  is_up : (x y : Bool) → x ≡ y → IsTrue x ↔ IsTrue y
  is_up x y e = (λ h. subst IsTrue e h, λ h. subst IsTrue (sym e) h)

  none_is : IsTrue false → ⊥
  none_is h = search rules

  tested : (x : Option CodeBound) (b : Option Bound) (o : Option ℕ) (r : Bool) → option_map bound_view x ≡ bound_in f.clause → option_map bound_view x ≡ b →
      (IsTrue r ↔ IsOriginOf p f b o) → IsTrue r ↔ IsOrigin p f o
  tested x b o r is same h = subst (λ b. IsTrue r ↔ IsOriginOf p f b o) (sym same ∙ is) h

  pub origin_alone : (x : Option CodeBound) (o : Option ℕ) → option_map bound_view x ≡ bound_in f.clause → x ≡ None → o ≡ None → IsTrue true ↔ IsOrigin p f o
  origin_alone x o is none e = tested x None o true is (ap (option_map bound_view) none) (subst (λ o. IsTrue true ↔ IsOriginOf p f None o) (sym e) (λ h. tt, λ h. search rules))

  pub origin_stray : (x : Option CodeBound) (o : Option ℕ) (s : ℕ) → option_map bound_view x ≡ bound_in f.clause → x ≡ None → o ≡ Some s → IsTrue false ↔ IsOrigin p f o
  origin_stray x o s is none e = tested x None o false is (ap (option_map bound_view) none) (subst (λ o. IsTrue false ↔ IsOriginOf p f None o) (sym e) (λ h. absurd (none_is h), λ h. absurd h))

  pub origin_lost : (x : Option CodeBound) (o : Option ℕ) (b : CodeBound) → option_map bound_view x ≡ bound_in f.clause → x ≡ Some b → o ≡ None → IsTrue false ↔ IsOrigin p f o
  origin_lost x o b is some e = tested x (Some (bound_view b)) o false is (ap (option_map bound_view) some) (subst (λ o. IsTrue false ↔ IsOriginOf p f (Some (bound_view b)) o) (sym e) (λ h. absurd (none_is h), λ h. absurd h))

  pub origin_state : (x : Option CodeBound) (o : Option ℕ) (b : CodeBound) (s : ℕ) (r : Bool) → option_map bound_view x ≡ bound_in f.clause → x ≡ Some b → o ≡ Some s →
      r ≡ key_states_up_to p f b.key.0 b.state s → IsTrue r ↔ IsOrigin p f o
  origin_state x o b s r is some e up =
      tested x (Some (bound_view b)) o r is (ap (option_map bound_view) some)
      (subst (λ o. IsTrue r ↔ IsOriginOf p f (Some (bound_view b)) o) (sym e) (is_up r (key_states_up_to p f b.key.0 b.state s) up))

-- one number more is looked at
pub one_listed : (P : ℕ → Bool) (s : ℕ) → map Some (filter P (range_with_len 0 (s + 1))) ≡ map Some (filter P (range_with_len 0 s)) ++ (if P s then Some s ∷ [] else [])
one_listed P s = ap (map Some) (more s) ∙ one (P s) (filter P (range_with_len 0 s))
  where
    same_map : (xs : List ℕ) → map (λ x. x) xs ≡ xs
    same_map [] = refl
    same_map (x ∷ xs) = ap (λ l. x ∷ l) (same_map xs)

    more : (s : ℕ) → filter P (range_with_len 0 (s + 1)) ≡ filter P (range_with_len 0 s) ++ (if P s then s ∷ [] else [])
    more s =
        ap (filter P) (sym (same_map (range_with_len 0 (s + 1)))) ∙ filter_of_map_range_with_len_more P (λ x. x) 0 s s (omega arith) ∙
        ap (λ l. filter P l ++ (if P s then s ∷ [] else [])) (same_map (range_with_len 0 s))

    one : (b : Bool) (xs : List ℕ) → map Some (xs ++ (if b then s ∷ [] else [])) ≡ map Some xs ++ (if b then Some s ∷ [] else [])
    one true [] = refl
    one true (x ∷ xs) = ap (λ l. Some x ∷ l) (one true xs)
    one false [] = refl
    one false (x ∷ xs) = ap (λ l. Some x ∷ l) (one false xs)
