-- A set of states below 32 that has one is that of the bits that are 1 in a number of 32 bits.
use Rattle.std.proofs.Common.{◌≡◌, ℕ, zero, suc, ◌<◌, ◌≤◌, ◌+◌, ◌*◌, ◌^◌, ◌/◌, ◌%◌, ◌==◌, Bool, true, false, true≢false, IsTrue, if◌then◌else◌, refl, sym, ap, ◌∙◌, arith}
use Rattle.std.specs.Int.{bit_at}
use Rattle.std.proofs.lemmas.Nat.Bits.{bit_at_lowest, bit_at-suc, bit_at-zero}
use Rattle.vlt_base.specs.States.{is_bit}
use Rattle.vlt_syntax.specs.Tree.{Tree}
use Rattle.vlt_core.specs.Core.{States, Program}
use Rattle.vlt_core_laws.specs.States.{IsFilledSet}
use Rattle.vlt_kinds_types.specs.Files.{file_of}
use Rattle.vlt_kinds_types.specs.Kinds.{Kinds}
use Rattle.vlt_resolve_laws.proofs.OfKindsLaws.States.{ListedAre}
use Rattle.vlt_resolve_laws.specs.Narrow.{IsNarrowSet, IsMask, HasMasks}
use Rattle.vlt_resolve_laws.specs.Elaborated.{IsElaborated}
use Rattle.vlt_resolve_laws.proofs.Said.{elaborated_says}
use Rattle.vlt_resolve_laws.proofs.Filled.{listed_filled_sets}
use Rattle.vlt_resolve_laws.proofs.Narrow.{listed_narrow}

-- ---- the number of a set

-- a number by its lowest bit, and the number of those above it
abbrev with_lowest : (lowest : Bool) → (above : ℕ) → ℕ
with_lowest b n = (if b then 1 else 0) + 2 * n

lowest_bit : (b : Bool) (n : ℕ) → is_bit (with_lowest b n) 0 ≡ b
lowest_bit true n =
    let odd : (1 + 2 * n) % 2 ≡ 1 = omega arith in
    ap (λ m. m == 1) (bit_at_lowest (1 + 2 * n) ∙ odd)
lowest_bit false n =
    let even : (0 + 2 * n) % 2 ≡ 0 = omega arith in
    ap (λ m. m == 1) (bit_at_lowest (0 + 2 * n) ∙ even)

bit_above : (b : Bool) (n i : ℕ) → is_bit (with_lowest b n) (suc i) ≡ is_bit n i
bit_above b n i = ap (λ m. m == 1) (bit_at-suc (with_lowest b n) i ∙ ap (λ m. bit_at m i) (half b))
  where
    half : (b : Bool) → with_lowest b n / 2 ≡ n
    half true = let e : (1 + 2 * n) / 2 ≡ n = omega arith in e
    half false = let e : (0 + 2 * n) / 2 ≡ n = omega arith in e

no_bit : (i : ℕ) → is_bit 0 i ≡ false
no_bit i = ap (λ m. m == 1) (bit_at-zero i)

record HasNumber (bits : ℕ) (states : States) : Type 0 where
  number : ℕ
  small : number < 2 ^ bits
  same : (i : ℕ) → is_bit number i ≡ states i

number_of : (bits : ℕ) (states : States) → ((i : ℕ) → IsTrue (states i) → i < bits) → HasNumber bits states
number_of zero states below = record { number = 0; small = omega arith; same = λ i. no_bit i ∙ sym (none i (states i) refl) }
  where
    none : (i : ℕ) (b : Bool) → states i ≡ b → states i ≡ false
    none i true is = absurd (omega (arith, below i is))
    none i false is = is
number_of (suc bits) states below =
    let above = number_of bits (λ i. states (suc i)) (λ i there. omega (arith, below (suc i) there)) in
    record { number = with_lowest (states 0) above.number; small = small (states 0) above.number above.small; same = same above.number above.same }
  where
    small : (b : Bool) (n : ℕ) → n < 2 ^ bits → with_lowest b n < 2 ^ suc bits
    small true n less = let e : 2 ^ suc bits ≡ 2 * 2 ^ bits = omega arith in let f : 1 + 2 * n < 2 ^ suc bits = omega (arith, e, less) in f
    small false n less = let e : 2 ^ suc bits ≡ 2 * 2 ^ bits = omega arith in let f : 0 + 2 * n < 2 ^ suc bits = omega (arith, e, less) in f

    same : (n : ℕ) → ((i : ℕ) → is_bit n i ≡ states (suc i)) → (i : ℕ) → is_bit (with_lowest (states 0) n) i ≡ states i
    same n each zero = lowest_bit (states 0) n
    same n each (suc i) = bit_above (states 0) n i ∙ each i

not_zero : (states : States) (n : ℕ) → ((i : ℕ) → is_bit n i ≡ states i) → (i : ℕ) → IsTrue (states i) → 1 ≤ n
not_zero states zero same i there = absurd (true≢false (sym there ∙ (sym (same i) ∙ no_bit i)))
not_zero states (suc n) same i there = omega arith

pub narrow_mask : (states : States) → IsFilledSet states → IsNarrowSet states → IsMask states
narrow_mask states filled narrow =
    let x = number_of 32 states narrow in
    record { number = x.number; some = not_zero states x.number x.same filled.state filled.has; small = x.small; same = λ j i. x.same i j }

-- ---- elaborated programs

pub elaborated_masks : (t : Tree) (kinds : Kinds) (p : Program) → IsElaborated t kinds p → HasMasks p
elaborated_masks t kinds p e = elaborated_says t kinds p e IsMask listed_masks
  where
    listed_masks : ListedAre (file_of t.decls) IsMask
    listed_masks shape ss some = narrow_mask _ (listed_filled_sets (file_of t.decls) shape ss some) (listed_narrow t.decls e.tree.0 shape ss some)
