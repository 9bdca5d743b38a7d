-- Sets of states by their bits.
use Rattle.std.proofs.Common.{◌≡◌, ℕ, ◌<◌, ◌≤◌, ◌^◌, ◌*◌, ◌-◌, ◌%◌, ◌==◌, nat_lt, Bool, true, false, ◌||◌, IsTrue, bit_or, max, refl, ap, sym, ◌∙◌, ⊎_elim, w32, arith}
use Rattle.std.proofs.Math.Pow.{pow-lt, pow_mono, pow_pos}
use Rattle.std.specs.Int.{bit_at, trailing_zeros}
use Rattle.std.proofs.lemmas.Nat.Bits.{bit_at-trailing_zeros, bit_at_or, bit_at-lt, bit_at_above, bit_at_ones, bit_at_ones_above, bit_at-pow_same, bit_at-pow_other, same_from_bits}
use Rattle.std.proofs.lemmas.Bool.{eq-eqb}
use Rattle.std.proofs.lemmas.Bool.Decides.{nat_tests, eqb_tells}
use mathlib.Core.HLevel.{is_prop→PathP}
use Rattle.std.proofs.Math.Bridge.{le_prop}
use Rattle.vlt_base.specs.declared.states.StateSet.{StateSet}
use Rattle.vlt_base.specs.States.{has_state, is_bit}

-- a number below 2 ^ 32 has no bit from 32 on
pub no_bit_above : (n i : ℕ) → n < 2 ^ 32 → 32 ≤ i → is_bit n i ≡ false
no_bit_above n i small from =
    let zero : bit_at n i ≡ 0 = bit_at_above n 32 i small from in
    grind (arith, nat_tests)

pub bit_of_both : (m n i : ℕ) → is_bit (bit_or m n) i ≡ (is_bit m i || is_bit n i)
bit_of_both m n i =
    let both : bit_at (bit_or m n) i ≡ max (bit_at m i) (bit_at n i) = bit_at_or m n i in
    let left : bit_at m i < 2 = bit_at-lt m i in
    let right : bit_at n i < 2 = bit_at-lt n i in
    grind (arith, nat_tests)

pub bits_within : (m n : ℕ) → bit_or m n ≡ n → (i : ℕ) → IsTrue (is_bit m i) → IsTrue (is_bit n i)
bits_within m n same i has =
    let both : bit_at (bit_or m n) i ≡ max (bit_at m i) (bit_at n i) = bit_at_or m n i in
    let whole : bit_at (bit_or m n) i ≡ bit_at n i = ap (λ k. bit_at k i) same in
    let right : bit_at n i < 2 = bit_at-lt n i in
    grind (arith, nat_tests)

pub within_bits : (m n : ℕ) → ((i : ℕ) → IsTrue (is_bit m i) → IsTrue (is_bit n i)) → bit_or m n ≡ n
within_bits m n each = same_from_bits (bit_or m n) n (one m n each)
  where
    one : (m n : ℕ) → ((i : ℕ) → IsTrue (is_bit m i) → IsTrue (is_bit n i)) → (i : ℕ) → bit_at (bit_or m n) i ≡ bit_at n i
    one m n each i =
        let both : bit_at (bit_or m n) i ≡ max (bit_at m i) (bit_at n i) = bit_at_or m n i in
        let left : bit_at m i < 2 = bit_at-lt m i in
        let right : bit_at n i < 2 = bit_at-lt n i in
        let only : IsTrue (is_bit m i) → IsTrue (is_bit n i) = each i in
        grind (arith, nat_tests)

-- the bits of a set that has none from 32 on are those below
pub lowest_state : (n : ℕ) → 0 < n → n < 2 ^ 32 → (i : ℕ) × (i < 32) × IsTrue (is_bit n i)
lowest_state n some small =
    let lowest = bit_at-trailing_zeros w32 n some small in
    (trailing_zeros w32 n, lowest.0, eq-eqb (bit_at n (trailing_zeros w32 n)) 1 lowest.1)

-- two sets with the same numbers are one
pub same_masks : (m n : ℕ) → ((i : ℕ) → is_bit m i ≡ is_bit n i) → m ≡ n
same_masks m n each = same_from_bits m n (λ i. one i (bit_at-lt m i) (bit_at-lt n i) (each i))
  where
    one : (i : ℕ) → bit_at m i < 2 → bit_at n i < 2 → is_bit m i ≡ is_bit n i → bit_at m i ≡ bit_at n i
    one i left right same = grind (arith, nat_tests)

pub same_sets : (a b : StateSet) → ((i : ℕ) → has_state a i ≡ has_state b i) → a ≡ b
same_sets a b each =
    let same : a.mask ≡ b.mask = same_masks a.mask b.mask each in
    λ i. record {
      mask = same i;
      filled = is_prop→PathP (λ j. 0 < same j) (λ j. le_prop) a.filled b.filled i;
      small = is_prop→PathP (λ j. same j < 2 ^ 32) (λ j. le_prop) a.small b.small i;
    }

-- the mask of one number
one_bit : (j i : ℕ) → is_bit (2 ^ j) i ≡ (i == j)
one_bit j i =
    ⊎_elim
    (λ same. ap (λ k. bit_at (2 ^ j) k == 1) same.1 ∙ ap (λ b. b == 1) (bit_at-pow_same j) ∙ sym same.0)
    (λ other. ap (λ b. b == 1) (bit_at-pow_other j i other.1) ∙ sym other.0)
    (eqb_tells i j)

pub shifted_bit : (n i : ℕ) → n < 32 → is_bit (1 * 2 ^ n % 2 ^ 32) i ≡ (i == n)
shifted_bit n i small =
    let below : 2 ^ n < 2 ^ 32 = pow-lt small in
    let same : 1 * 2 ^ n % 2 ^ 32 ≡ 2 ^ n = omega (arith, below) in
    ap (λ m. is_bit m i) same ∙ one_bit n i

-- the mask of the numbers below one
pub first_mask : (n : ℕ) → n ≤ 32 → 1 * 2 ^ n % 2 ^ 64 - 1 ≡ 2 ^ n - 1
first_mask n within =
    let less : n < 64 = omega (arith, within) in
    let below : 2 ^ n < 2 ^ 64 = pow-lt less in
    omega (arith, below)

-- there is a number below one that isn't 0
pub first_filled : (n : ℕ) → 1 ≤ n → n ≤ 32 → 0 < 1 * 2 ^ n % 2 ^ 64 - 1
first_filled n from within =
    let same = first_mask n within in
    let two : 2 ^ 1 ≤ 2 ^ n = pow_mono from in
    omega (arith, same, two)

pub first_fits : (n : ℕ) → n ≤ 32 → 1 * 2 ^ n % 2 ^ 64 - 1 < 2 ^ 32
first_fits n within =
    let same = first_mask n within in
    let most : 2 ^ n ≤ 2 ^ 32 = pow_mono within in
    let some : 0 < 2 ^ n = pow_pos n in
    omega (arith, same, most, some)

pub first_bits : (n i : ℕ) → n ≤ 32 → is_bit (1 * 2 ^ n % 2 ^ 64 - 1) i ≡ nat_lt i n
first_bits n i within = ap (λ m. is_bit m i) (first_mask n within) ∙ by (nat_lt i n) refl
  where
    by : (b : Bool) → nat_lt i n ≡ b → is_bit (2 ^ n - 1) i ≡ b
    by true is =
        let less : i < n = grind (arith, nat_tests) in
        ap (λ b. b == 1) (bit_at_ones n i less)
    by false is =
        let more : n ≤ i = grind (arith, nat_tests) in
        ap (λ b. b == 1) (bit_at_ones_above n i more)
