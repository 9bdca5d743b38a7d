-- States below 32, of which there is one, are those of a set.
use Rattle.std.proofs.Common.{◌≡◌, ⊎_elim, ℕ, zero, suc, ◌+◌, ◌-◌, ◌*◌, ◌^◌, ◌<◌, ◌≤◌, ◌==◌, Bool, true, false, refl, sym, ap, ◌∙◌, arith}
use Rattle.std.proofs.lemmas.Bool.{cases_lt, cases_Bool}
use Rattle.std.proofs.lemmas.Nat.Bits.{bit_at-zero, bit_at_lowest, bit_at_cat_low, bit_at_cat_high}
use Rattle.std.specs.Int.{bit_at}
use native.Mathlib.Nat.{pow-suc}
use Rattle.vlt_base.specs.declared.states.StateSet.{StateSet}
use Rattle.vlt_base.specs.States.{has_state, is_bit}
use Rattle.vlt_base.proofs.Sets.{no_bit_above}
use Rattle.vlt_core.specs.Core.{States}
use Rattle.vlt_core_laws.specs.States.{IsFilledSet}
use Rattle.vlt_sound_worlds.specs.Limited.{IsNarrow}

-- the states are those of a set of the code
abbrev pub IsSet : States → Type 0
IsSet states = (s : StateSet) × (has_state s ≡ states)

abbrev digit : Bool → ℕ
digit true = 1
digit false = 0

digit_small : (b : Bool) → digit b ≤ 1
digit_small true = omega arith
digit_small false = omega arith

digit_bit : (b : Bool) → bit_at (digit b) 0 ≡ digit b
digit_bit true = bit_at_lowest 1
digit_bit false = bit_at_lowest 0

digit_test : (b : Bool) (n : ℕ) → n ≡ digit b → (n == 1) ≡ b
digit_test true n e = ap (λ n. n == 1) e
digit_test false n e = ap (λ n. n == 1) e

-- the number whose bits are 1 at the states below one
mask_of : States → ℕ → ℕ
mask_of states zero = 0
mask_of states (suc n) = digit (states n) * 2 ^ n + mask_of states n

mask_below : (states : States) (n : ℕ) → mask_of states n < 2 ^ n
unfolding mask_of
mask_below states zero = omega arith
mask_below states (suc n) = next (digit (states n)) (mask_of states n) (2 ^ n) (2 ^ suc n) (digit_small (states n)) (mask_below states n) (pow-suc 2 n)
  where
    next : (d m a b : ℕ) → d ≤ 1 → m < a → b ≡ a * 2 → d * a + m < b
    next zero m a b small below twice = omega (arith, below, twice)
    next (suc zero) m a b small below twice = omega (arith, below, twice)
    next (suc (suc d)) m a b small below twice = absurd (omega (arith, small))

mask_bit : (states : States) (n i : ℕ) → i < n → bit_at (mask_of states n) i ≡ digit (states i)
unfolding mask_of
mask_bit states zero i lt = absurd (omega (arith, lt))
mask_bit states (suc n) i lt =
    ⊎_elim
    (λ less. bit_at_cat_low (digit (states n)) n (mask_of states n) i less ∙ mask_bit states n i less)
    (λ more. last (omega (arith, lt, more)))
    (cases_lt i n)
  where
    last : i ≡ n → bit_at (mask_of states (suc n)) i ≡ digit (states i)
    last same =
        let none : n - n ≡ 0 = omega arith in
        let here : bit_at (mask_of states (suc n)) n ≡ digit (states n) =
        bit_at_cat_high (digit (states n)) n (mask_of states n) n (mask_below states n) (omega arith) ∙
        ap (bit_at (digit (states n))) none ∙ digit_bit (states n) in
        ap (bit_at (mask_of states (suc n))) same ∙ here ∙ ap (λ k. digit (states k)) (sym same)

pub narrow_set : (states : States) → IsFilledSet states → IsNarrow states → IsSet states
narrow_set states filled narrow = (record { mask = mask; filled = some; small = small }, λ i s. each s i)
  where
    mask : ℕ
    mask = mask_of states 32

    small : mask < 2 ^ 32
    small = mask_below states 32

    some : 0 < mask
    some = by mask refl
      where
        by : (m : ℕ) → mask ≡ m → 0 < m
        by zero e =
            let one : bit_at mask filled.state ≡ 1 =
            mask_bit states 32 filled.state (narrow.below filled.state filled.has) ∙ ap digit filled.has in
            let none : bit_at mask filled.state ≡ 0 = ap (λ m. bit_at m filled.state) e ∙ bit_at-zero filled.state in
            absurd (omega (arith, one, none))
        by (suc m) e = omega arith

    each : (s : ℕ) → is_bit mask s ≡ states s
    each s = ⊎_elim
        (λ less. digit_test (states s) (bit_at mask s) (mask_bit states 32 s less))
        (λ more. no_bit_above mask s small more ∙ sym (none more))
        (cases_lt s 32)
      where
        none : 32 ≤ s → states s ≡ false
        none more = ⊎_elim
            (λ is. let less = narrow.below s is in absurd (omega (arith, less, more)))
            (λ is. is)
            (cases_Bool (states s))
