-- States by their bits below 32 and their bounds from there on.
use Rattle.std.proofs.Common.{not, ◌≡◌, ◌↔◌, ◌<◌, ◌≤◌, ◌+◌, ◌-◌, ◌^◌, ◌||◌, ◌&&◌, ◌==◌, ℕ, Bool, true, false, IsTrue, nat_lt, nat_le, bit_and, max, min, refl, sym, ap, ◌∙◌, subst, ◌⊎◌, inl, inr, ⊎_elim, w32, arith, rules}
use Rattle.std.specs.Int.{bit_at, bit_not}
use Rattle.std.proofs.lemmas.Nat.Bits.{bit_at_and, bit_at_not, bit_at-lt, bit_at-zero, bit_at_ones}
use Rattle.std.proofs.lemmas.Bool.Decides.{nat_tests}
use Rattle.std.proofs.lemmas.Bool.{cases_lt}
use Rattle.std.proofs.lemmas.Nat.{and_le_l}
use Rattle.vlt_base.specs.States.{is_bit}
use Rattle.vlt_base.proofs.Sets.{no_bit_above, lowest_state}
use Rattle.vlt_core.specs.Core.{States}
use Rattle.vlt_paths.specs.declared.numbers.Numbers.{Numbers}
use Rattle.vlt_paths.specs.Numbers.{holds}

-- the bits alone, where no number from 32 on is between the bounds
pub low_alone : (b : Bool) (from to i : ℕ) → to ≤ from → (b || (nat_le from i && nat_lt i to)) ≡ b
low_alone true from to i none = refl
low_alone false from to i none = grind (arith, nat_tests)

pub of_set : (n : Numbers) (s : States) → ((i : ℕ) → is_bit n.mask i ≡ s i) → n.to ≤ n.from → holds n ≡ s
of_set n s bits none = λ j i. (low_alone (is_bit n.mask i) n.from n.to i none ∙ bits i) j

none_low : (i : ℕ) → is_bit 0 i ≡ false
none_low i = let e = bit_at-zero i in grind (arith, nat_tests)

pub of_nothing : (n : Numbers) → n.mask ≡ 0 → n.to ≤ n.from → holds n ≡ (λ i. false)
of_nothing n zero none = of_set n (λ i. false) (λ i. ap (λ m. is_bit m i) zero ∙ none_low i) none

-- a mask, and bounds
abbrev spread : (mask from to : ℕ) → States
spread mask from to i = is_bit mask i || (nat_le from i && nat_lt i to)

abbrev below : ℕ → States
below k i = nat_lt i k

abbrev alone : ℕ → States
alone s i = i == s

-- those below a number
below_at : (m n i : ℕ) → m < 2 ^ 32 → (i < 32 → is_bit m i ≡ nat_lt i n) → (is_bit m i || (nat_le 32 i && nat_lt i n)) ≡ nat_lt i n
below_at m n i small low = ⊎_elim
    (λ less. let e : is_bit m i ≡ nat_lt i n = low less in let past : nat_le 32 i ≡ false = grind (arith, nat_tests) in at (is_bit m i) (nat_lt i n) (nat_le 32 i) e past)
    (λ more. let e : is_bit m i ≡ false = no_bit_above m i small more in let past : nat_le 32 i ≡ true = grind (arith, nat_tests) in over (is_bit m i) (nat_lt i n) (nat_le 32 i) e past)
    (cases_lt i 32)
  where
    at : (b c d : Bool) → b ≡ c → d ≡ false → (b || (d && c)) ≡ c
    at true c d e past = e
    at false c d e past = ap (λ d. d && c) past ∙ e

    over : (b c d : Bool) → b ≡ false → d ≡ true → (b || (d && c)) ≡ c
    over b c d e past = ap (λ b. b || (d && c)) e ∙ ap (λ d. d && c) past

pub of_below : (mask k : ℕ) → mask < 2 ^ 32 → ((i : ℕ) → i < 32 → is_bit mask i ≡ nat_lt i k) → spread mask 32 k ≡ below k
of_below mask k small low = λ j i. below_at mask k i small (low i) j

-- one number alone, from 32 on
pub of_one : (s : ℕ) → spread 0 s (s + 1) ≡ alone s
of_one s = λ j i. at i j
  where
    at : (i : ℕ) → (is_bit 0 i || (nat_le s i && nat_lt i (s + 1))) ≡ (i == s)
    at i = ap (λ b. b || (nat_le s i && nat_lt i (s + 1))) (none_low i) ∙ here
      where
        here : (nat_le s i && nat_lt i (s + 1)) ≡ (i == s)
        here = grind (arith, nat_tests)

-- all numbers below 32
pub all_low : (i : ℕ) → i < 32 → is_bit 4294967295 i ≡ true
all_low i less = let e = bit_at_ones 32 i less in grind (arith, nat_tests)

-- ---- of two

both_at : (a b c d : Bool) (f t g u i : ℕ) → (IsTrue a → IsTrue (nat_lt i 32)) → (IsTrue b → IsTrue (nat_lt i 32)) → 32 ≤ f → 32 ≤ g → c ≡ (a && b) → d ≡ (nat_le (max f g) i && nat_lt i (min t u)) → (c || d) ≡ ((a || (nat_le f i && nat_lt i t)) && (b || (nat_le g i && nat_lt i u)))
both_at true true c d f t g u i p q x y e h = grind (arith, nat_tests)
both_at true false c d f t g u i p q x y e h = grind (arith, nat_tests)
both_at false true c d f t g u i p q x y e h = grind (arith, nat_tests)
both_at false false c d f t g u i p q x y e h = grind (arith, nat_tests)

low_bit : (m i : ℕ) → m < 2 ^ 32 → IsTrue (is_bit m i) → IsTrue (nat_lt i 32)
low_bit m i small has = ⊎_elim
    (λ less. grind (arith, nat_tests))
    (λ more. let e : is_bit m i ≡ false = no_bit_above m i small more in absurd (no (subst IsTrue e has)))
    (cases_lt i 32)
  where
    no : IsTrue false → ⊥
    no h = search rules

and_at : (m n i : ℕ) → is_bit (bit_and m n) i ≡ (is_bit m i && is_bit n i)
and_at m n i =
    let e : bit_at (bit_and m n) i ≡ min (bit_at m i) (bit_at n i) = bit_at_and m n i in
    let left : bit_at m i < 2 = bit_at-lt m i in
    let right : bit_at n i < 2 = bit_at-lt n i in
    grind (arith, nat_tests)

pub met : (a b : Numbers) (from to : ℕ) → from ≡ max a.from b.from → to ≡ min a.to b.to → (i : ℕ) → (is_bit (bit_and a.mask b.mask) i || (nat_le from i && nat_lt i to)) ≡ (holds a i && holds b i)
met a b from to lower upper i =
    both_at (is_bit a.mask i) (is_bit b.mask i) (is_bit (bit_and a.mask b.mask) i) (nat_le from i && nat_lt i to) a.from a.to b.from b.to i
    (low_bit a.mask i a.small) (low_bit b.mask i b.small) a.above b.above
    (and_at a.mask b.mask i)
    (subst (λ f. (nat_le f i && nat_lt i to) ≡ (nat_le (max a.from b.from) i && nat_lt i (min a.to b.to))) (sym lower) (ap (λ t. nat_le (max a.from b.from) i && nat_lt i t) upper))

-- ---- whether there is one

pub some_number : (n : Numbers) → (0 < n.mask) ⊎ (n.from < n.to) → (i : ℕ) × IsTrue (holds n i)
some_number n (inl some) = let x = lowest_state n.mask some n.small in (x.0, either (is_bit n.mask x.0) _ x.2)
  where
    either : (a b : Bool) → IsTrue a → IsTrue (a || b)
    either true b h = search rules
    either false b h = search rules
some_number n (inr less) = (n.from, last (is_bit n.mask n.from) n.from n.to less)
  where
    last : (b : Bool) (f t : ℕ) → f < t → IsTrue (b || (nat_le f f && nat_lt f t))
    last true f t less = search rules
    last false f t less = grind (arith, nat_tests)

pub no_number : (n : Numbers) (i : ℕ) → n.mask ≡ 0 → n.to ≤ n.from → IsTrue (holds n i) → ⊥
no_number n i zero none h = no (subst (λ s. IsTrue (s i)) (of_nothing n zero none) h)
  where
    no : IsTrue false → ⊥
    no h = search rules

-- ---- whether one is in the first alone

but_at : (m n i : ℕ) → m < 2 ^ 32 → n < 2 ^ 32 → IsTrue (is_bit (bit_and m (bit_not w32 n)) i) ↔ (IsTrue (is_bit m i) × (IsTrue (is_bit n i) → ⊥))
but_at m n i few many = ⊎_elim (λ less. low less) (λ more. high more) (cases_lt i 32)
  where
    low : i < 32 → IsTrue (is_bit (bit_and m (bit_not w32 n)) i) ↔ (IsTrue (is_bit m i) × (IsTrue (is_bit n i) → ⊥))
    low less =
        let e : bit_at (bit_and m (bit_not w32 n)) i ≡ min (bit_at m i) (bit_at (bit_not w32 n) i) = bit_at_and m (bit_not w32 n) i in
        let x : bit_at (bit_not w32 n) i ≡ 1 - bit_at n i = bit_at_not w32 n i many less in
        let p : bit_at m i < 2 = bit_at-lt m i in
        let q : bit_at n i < 2 = bit_at-lt n i in
        (λ h. (grind (arith, nat_tests), λ k. grind (arith, nat_tests)), λ h. back e x p q h.0 h.1)
      where
        back : bit_at (bit_and m (bit_not w32 n)) i ≡ min (bit_at m i) (bit_at (bit_not w32 n) i) → bit_at (bit_not w32 n) i ≡ 1 - bit_at n i → bit_at m i < 2 → bit_at n i < 2 → IsTrue (is_bit m i) → (IsTrue (is_bit n i) → ⊥) → IsTrue (is_bit (bit_and m (bit_not w32 n)) i)
        back e x p q h k = grind (arith, nat_tests)

    high : 32 ≤ i → IsTrue (is_bit (bit_and m (bit_not w32 n)) i) ↔ (IsTrue (is_bit m i) × (IsTrue (is_bit n i) → ⊥))
    high more =
        let e : bit_at (bit_and m (bit_not w32 n)) i ≡ min (bit_at m i) (bit_at (bit_not w32 n) i) = bit_at_and m (bit_not w32 n) i in
        let none : is_bit m i ≡ false = no_bit_above m i few more in
        (λ h. absurd (grind (arith, nat_tests)), λ h. absurd (grind (arith, nat_tests)))

true_false : (b : Bool) → b ≡ false → IsTrue b → ⊥
true_false b e h = no (subst IsTrue e h)
  where
    no : IsTrue false → ⊥
    no h = search rules

either_true : (a b : Bool) → IsTrue (a || b) → IsTrue a ⊎ IsTrue b
either_true true b h = inl (search rules)
either_true false b h = inr h

left_true : (a b : Bool) → IsTrue a → IsTrue (a || b)
left_true true b h = search rules
left_true false b h = absurd (true_false false refl h)

right_true : (a b : Bool) → IsTrue b → IsTrue (a || b)
right_true true b h = search rules
right_true false b h = h

between : (f t i : ℕ) → f ≤ i → i < t → IsTrue (nat_le f i && nat_lt i t)
between f t i p q = grind (arith, nat_tests)

bounds : (f t i : ℕ) → IsTrue (nat_le f i && nat_lt i t) → (f ≤ i) × (i < t)
bounds f t i h = (grind (arith, nat_tests), grind (arith, nat_tests))

module _ (a b : Numbers) where
  abbrev pub InFirst : Type 0
  InFirst = (i : ℕ) × IsTrue (holds a i) × (IsTrue (holds b i) → ⊥)

  pub low_exceeds : 0 < bit_and a.mask (bit_not w32 b.mask) → InFirst
  low_exceeds some =
      let less = and_le_l a.mask (bit_not w32 b.mask) in
      let few = a.small in
      let x = lowest_state (bit_and a.mask (bit_not w32 b.mask)) some (omega (arith, less, few)) in
      let y = (but_at a.mask b.mask x.0 a.small b.small).0 x.2 in
      (x.0, left_true (is_bit a.mask x.0) (nat_le a.from x.0 && nat_lt x.0 a.to) y.0, λ h. ⊎_elim (λ k. y.1 k) (λ k. let u = (bounds b.from b.to x.0 k).0 in let v = x.1 in let w = b.above in absurd (omega (arith, u, v, w))) (either_true (is_bit b.mask x.0) _ h))

  high : (i : ℕ) → a.from ≤ i → i < a.to → (b.from ≤ i → i < b.to → ⊥) → InFirst
  high i from to out =
      let w = a.above in
      let above : 32 ≤ i = omega (arith, w, from) in
      (i, right_true (is_bit a.mask i) _ (between a.from a.to i from to), λ h. ⊎_elim (λ k. true_false _ (no_bit_above b.mask i b.small above) k) (λ k. let x = bounds b.from b.to i k in out x.0 x.1) (either_true (is_bit b.mask i) _ h))

  pub before_exceeds : a.from < a.to → a.from < b.from → InFirst
  before_exceeds some less = high a.from (omega arith) some (λ p q. omega (arith, p, less))

  pub after_exceeds : a.from < a.to → b.to < a.to → InFirst
  after_exceeds some less = high (a.to - 1) (omega (arith, some)) (omega (arith, some)) (λ p q. omega (arith, q, less))

  pub within : bit_and a.mask (bit_not w32 b.mask) ≡ 0 → (a.to ≤ a.from) ⊎ ((b.from ≤ a.from) × (a.to ≤ b.to)) → InFirst → ⊥
  within zero rest x = ⊎_elim
      (λ k. let y = but_at a.mask b.mask x.0 a.small b.small in
      true_false _ (none_low x.0) (subst (λ m. IsTrue (is_bit m x.0)) zero (y.1 (k, λ h. x.2 (left_true _ _ h)))))
      (λ k. let y = bounds a.from a.to x.0 k in
      ⊎_elim
      (λ none. let u = y.0 in let v = y.1 in omega (arith, u, v, none))
      (λ both. let u = y.0 in let v = y.1 in let p = both.0 in let q = both.1 in x.2 (right_true (is_bit b.mask x.0) _ (between b.from b.to x.0 (omega (arith, u, p)) (omega (arith, v, q)))))
      rest)
      (either_true (is_bit a.mask x.0) _ x.1)

-- ---- as functions

pub each_same : (f g : ℕ → Bool) → ((i : ℕ) → f i ≡ g i) → f ≡ g
each_same f g h = λ j i. h i j

pub nothing_low : is_bit 0 ≡ (λ i. false)
nothing_low = each_same (is_bit 0) (λ i. false) none_low

pub many_low : (n i : ℕ) → 32 < n → i < 32 → is_bit 4294967295 i ≡ nat_lt i n
many_low n i many less = let e : is_bit 4294967295 i ≡ true = all_low i less in let l : nat_lt i n ≡ true = grind (arith, nat_tests) in e ∙ sym l

bool_same : (a b : Bool) → (IsTrue a → (IsTrue b → ⊥) → ⊥) → (IsTrue b → (IsTrue a → ⊥) → ⊥) → a ≡ b
bool_same true true f g = refl
bool_same false false f g = refl
bool_same true false f g = absurd (f (search rules) (true_false false refl))
bool_same false true f g = absurd (g (search rules) (true_false false refl))

pub same_numbers : (a b : Numbers) → (InFirst a b → ⊥) → (InFirst b a → ⊥) → holds a ≡ holds b
same_numbers a b f g = each_same (holds a) (holds b) (λ i. bool_same (holds a i) (holds b i) (λ x y. f (i, x, y)) (λ x y. g (i, x, y)))

pub not_same : (a b : Numbers) → InFirst a b → holds a ≡ holds b → ⊥
not_same a b x e = x.2 (subst (λ f. IsTrue (f x.0)) e x.1)

pub exceeding : (a b : Numbers) (x : Bool) → x ≡ true → (IsTrue x ↔ InFirst a b) → IsTrue false ↔ (holds a ≡ holds b)
exceeding a b x is h = (λ t. absurd (true_false false refl t), λ e. absurd (not_same a b (h.0 (subst IsTrue (sym is) (search rules))) e))

pub exceeded : (a b : Numbers) (x y : Bool) → x ≡ false → (IsTrue x ↔ InFirst a b) → (IsTrue y ↔ InFirst b a) → IsTrue (not y) ↔ (holds a ≡ holds b)
exceeded a b x y is h k = by y refl
  where
    by : (z : Bool) → y ≡ z → IsTrue (not z) ↔ (holds a ≡ holds b)
    by true e = (λ t. absurd (true_false false refl t), λ same. absurd (not_same b a (k.0 (subst IsTrue (sym e) (search rules))) (sym same)))
    by false e = (λ t. same_numbers a b (λ f. true_false x is (h.1 f)) (λ f. true_false y e (k.1 f)), λ same. search rules)
