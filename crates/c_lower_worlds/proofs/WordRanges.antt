-- Remainders, and results of operators that go bit by bit, are of 64 bits.
use Rattle.std.proofs.Common.{◌≡◌, ◌<◌, ◌≤◌, ◌^◌, ◌%◌, ℕ, zero, suc, true, ℤ, pos, negsuc, neg_ℤ, int_rem, unsigned_abs, FitsSigned, bit_and, bit_or, bit_xor, arith, refl, subst}
use Rattle.std.proofs.lemmas.Bool.Decides.{nat_tests}
use Rattle.std.proofs.lemmas.Int.{ints, SFits-int_wrap}
use Rattle.std.proofs.lemmas.Nat.{and_le_l, or_lt, xor_lt}
use Rattle.std.proofs.Math.Nat.{mod-eq_of_lt, mod-le}
use Rattle.std.specs.Int.{w64, cast_signed, cast_unsigned, int_wrap, int_bit_and, int_bit_xor, int_bit_or}
use Rattle.vlt_ops.specs.Operator.{is_in_range}

-- results of operators that go bit by bit, and remainders, are of 64 bits
pub record WordResults : Type 0 where
  pub remainder : (x y : ℤ) → is_in_range x ≡ true → is_in_range y ≡ true → is_in_range (int_rem x y) ≡ true
  pub bit_and : (x y : ℤ) → is_in_range x ≡ true → is_in_range y ≡ true → is_in_range (int_bit_and w64 x y) ≡ true
  pub bit_xor : (x y : ℤ) → is_in_range x ≡ true → is_in_range y ≡ true → is_in_range (int_bit_xor w64 x y) ≡ true
  pub bit_or : (x y : ℤ) → is_in_range x ≡ true → is_in_range y ≡ true → is_in_range (int_bit_or w64 x y) ≡ true

-- what 64 bits are read as is in range
fits_range : (z : ℤ) → FitsSigned w64 z → is_in_range z ≡ true
fits_range (pos n) f = let l = f.sfits in grind (arith, ints, nat_tests)
fits_range (negsuc n) f = let l = f.sfits in grind (arith, ints, nat_tests)

read_range : (n : ℕ) → n < 2 ^ 64 → is_in_range (cast_signed w64 n) ≡ true
unfolding int_wrap
read_range n h = fits_range (cast_signed w64 n) (subst (λ m. FitsSigned w64 (cast_signed w64 m)) (mod-eq_of_lt h) (SFits-int_wrap w64 (pos n)))

bits_below : (z : ℤ) → is_in_range z ≡ true → cast_unsigned w64 z < 2 ^ 64
bits_below (pos n) e = grind (arith, ints, nat_tests)
bits_below (negsuc n) e = grind (arith, ints, nat_tests)

rem_at_most : (n m : ℕ) → n % m ≤ n
rem_at_most n m = mod-le n m

negated : (a n : ℕ) → is_in_range (negsuc a) ≡ true → n ≤ suc a → is_in_range (neg_ℤ (pos n)) ≡ true
negated a zero e l = refl
negated a (suc n) e l = grind (arith, ints, nat_tests)

rem_range : (x y : ℤ) → is_in_range x ≡ true → is_in_range (int_rem x y) ≡ true
rem_range (pos a) y e = let l = rem_at_most a (unsigned_abs y) in grind (arith, ints, nat_tests)
rem_range (negsuc a) y e = negated a (suc a % unsigned_abs y) e (rem_at_most (suc a) (unsigned_abs y))

pub word_results : WordResults
word_results = record {
  remainder = λ x y a b. rem_range x y a;
  bit_and = λ x y a b. read_range (bit_and (cast_unsigned w64 x) (cast_unsigned w64 y)) (let l = and_le_l (cast_unsigned w64 x) (cast_unsigned w64 y) in let k = bits_below x a in omega arith);
  bit_xor = λ x y a b. read_range (bit_xor (cast_unsigned w64 x) (cast_unsigned w64 y)) (xor_lt 64 (cast_unsigned w64 x) (cast_unsigned w64 y) (bits_below x a) (bits_below y b));
  bit_or = λ x y a b. read_range (bit_or (cast_unsigned w64 x) (cast_unsigned w64 y)) (or_lt 64 (cast_unsigned w64 x) (cast_unsigned w64 y) (bits_below x a) (bits_below y b));
}
