-- A set of states below 32 that has one is a mask.
use Rattle.std.proofs.Common.{◌≡◌, ◌<◌, ◌≤◌, ◌+◌, ◌*◌, ◌^◌, ◌/◌, ◌%◌, ◌==◌, ℕ, zero, suc, nat_lt, not, Bool, true, false, true≢false, IsTrue, if◌then◌else◌, refl, sym, ap, ◌∙◌, arith}
use Rattle.std.proofs.Math.Path.{fun_ext}
use Rattle.std.proofs.lemmas.Bool.Decides.{nat_tests}
use Rattle.std.proofs.lemmas.Nat.Bits.{bit_at_lowest, bit_at-suc, bit_at-zero}
use Rattle.vlt_base.specs.States.{is_bit}
use Rattle.vlt_core.specs.Core.{States}
use Rattle.cert_rows.specs.Values.{bits_number, mask_of, mask}
use Rattle.cert_least_laws.specs.Bodies.Narrow.{IsNarrow}

abbrev digit : Bool → ℕ
digit b = if b then 1 else 0

bit_step : (n i : ℕ) → is_bit n (suc i) ≡ is_bit (n / 2) i
bit_step n i = ap (λ b. b == 1) (bit_at-suc n i)

first_bit : (b : Bool) (r : ℕ) → is_bit (digit b + 2 * r) 0 ≡ b
first_bit true r = let e : (1 + 2 * r) % 2 ≡ 1 = omega arith in ap (λ n. n == 1) (bit_at_lowest (1 + 2 * r) ∙ e)
first_bit false r = let e : (0 + 2 * r) % 2 ≡ 0 = omega arith in ap (λ n. n == 1) (bit_at_lowest (0 + 2 * r) ∙ e)

half : (b : Bool) (r : ℕ) → (digit b + 2 * r) / 2 ≡ r
half true r = omega arith
half false r = omega arith

-- the bits below k are the states
bits_are : (k : ℕ) (s : States) (i : ℕ) → i < k → is_bit (bits_number k s) i ≡ s i
bits_are zero s i less = absurd (none i less)
  where
    none : (i : ℕ) → i < 0 → ⊥
    none i less = omega (arith, less)
bits_are (suc k) s zero less = first_bit (s 0) (bits_number k (λ j. s (suc j)))
bits_are (suc k) s (suc i) less =
    bit_step (bits_number (suc k) s) i ∙ (ap (λ n. is_bit n i) (half (s 0) (bits_number k (λ j. s (suc j)))) ∙ bits_are k (λ j. s (suc j)) i (lower i k less))
  where
    lower : (i k : ℕ) → suc i < suc k → i < k
    lower i k less = omega (arith, less)

bits_small : (k : ℕ) (s : States) → bits_number k s < 2 ^ k
bits_small zero s = omega arith
bits_small (suc k) s = by (s 0) (bits_small k (λ j. s (suc j)))
  where
    by : (b : Bool) → bits_number k (λ j. s (suc j)) < 2 ^ k → digit b + 2 * bits_number k (λ j. s (suc j)) < 2 ^ suc k
    by true less = let e : 2 ^ suc k ≡ 2 * 2 ^ k = omega arith in omega (arith, e, less)
    by false less = let e : 2 ^ suc k ≡ 2 * 2 ^ k = omega arith in omega (arith, e, less)

-- and no bit is above them
bits_above : (k : ℕ) (s : States) (i : ℕ) → k ≤ i → is_bit (bits_number k s) i ≡ false
bits_above zero s i far = ap (λ b. b == 1) (bit_at-zero i)
bits_above (suc k) s zero far = absurd (none k far)
  where
    none : (k : ℕ) → suc k ≤ 0 → ⊥
    none k far = omega (arith, far)
bits_above (suc k) s (suc i) far =
    bit_step (bits_number (suc k) s) i ∙ (ap (λ n. is_bit n i) (half (s 0) (bits_number k (λ j. s (suc j)))) ∙ bits_above k (λ j. s (suc j)) i (lower k i far))
  where
    lower : (k i : ℕ) → suc k ≤ suc i → k ≤ i
    lower k i far = omega (arith, far)

module _ (s : States) (narrow : IsNarrow s) where
  outside : (i : ℕ) → 32 ≤ i → s i ≡ false
  outside i far = by (s i) refl
    where
      never : (i : ℕ) → 32 ≤ i → i < 32 → ⊥
      never i far less = omega (arith, far, less)

      by : (b : Bool) → s i ≡ b → s i ≡ false
      by true e = absurd (never i far (narrow.below i e))
      by false e = e

  same_bits : is_bit (mask_of s) ≡ s
  same_bits = fun_ext (λ i. by i (nat_lt i 32) refl)
    where
      low : (i : ℕ) → nat_lt i 32 ≡ true → i < 32
      low i e = grind (arith, nat_tests)

      far : (i : ℕ) → nat_lt i 32 ≡ false → 32 ≤ i
      far i e = grind (arith, nat_tests)

      by : (i : ℕ) (b : Bool) → nat_lt i 32 ≡ b → is_bit (mask_of s) i ≡ s i
      by i true e = bits_are 32 s i (low i e)
      by i false e = bits_above 32 s i (far i e) ∙ sym (outside i (far i e))

  some_number : (i : ℕ) → IsTrue (s i) → not (mask_of s == 0) ≡ true
  some_number i has = by (mask_of s == 0) refl
    where
      zero_is : (n : ℕ) → (n == 0) ≡ true → n ≡ 0
      zero_is n e = grind (arith, nat_tests)

      by : (b : Bool) → (mask_of s == 0) ≡ b → not b ≡ true
      by true e =
          absurd (true≢false (sym has ∙ (sym (ap (λ (t : States). t i) same_bits) ∙ (ap (λ n. is_bit n i) (zero_is (mask_of s) e) ∙ ap (λ b. b == 1) (bit_at-zero i)))))
      by false e = refl

  pub narrow_mask : (i : ℕ) → IsTrue (s i) → mask.Fits s
  narrow_mask i has = ((low (mask_of s) (bits_small 32 s), some_number i has), same_bits)
    where
      low : (n : ℕ) → n < 2 ^ 32 → n ≤ 4294967295
      low n less = omega (arith, less)
