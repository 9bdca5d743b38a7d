-- Products of numbers of 64 bits: a quotient of the greatest or the least number tells whether they are in range.
use Rattle.std.proofs.Common.{◌≡◌, ℕ, zero, suc, ◌*◌, ◌/◌, ◌<◌, ◌≤◌, nat_lt, Bool, true, false, not, ◌&&◌, ℤ, pos, negsuc, ◌*ℤ◌, neg_ℤ, int_lt, int_div, refl, sym, ap, ◌∙◌, arith, mul_comm, div-one}
use Rattle.std.proofs.lemmas.Bool.Decides.{nat_tests}
use Rattle.std.proofs.lemmas.Int.{ints}
use Rattle.std.proofs.Math.Nat.{div-lt_iff_lt-mul, le-div_iff_mul-le, div-le_self}
use Rattle.std.proofs.lemmas.Nat.{div_below}
use Rattle.std.proofs.Math.IntN.{pos-*ℤ-pos, pos-*ℤ-negsuc, negsuc-*ℤ-pos, negsuc-*ℤ-negsuc, zero-*ℤ, *ℤ-zero}
use Rattle.vlt_ops.specs.Operator.{is_in_range, equals}
use Rattle.c_lower_worlds.proofs.OfOperators.Ranges.{most, least}

-- a quotient lies below n exactly where the number lies below the product
quotient_below : (m k n : ℕ) → 0 < k → nat_lt (m / k) n ≡ nat_lt m (n * k)
quotient_below m k n h = by (nat_lt m (n * k)) refl
  where
    by : (t : Bool) → nat_lt m (n * k) ≡ t → nat_lt (m / k) n ≡ t
    by true e = let l : m < n * k = grind (arith, nat_tests) in let q = (div-lt_iff_lt-mul h).1 l in grind (arith, nat_tests)
    by false e = let l : n * k ≤ m = grind (arith, nat_tests) in let q = (le-div_iff_mul-le h).1 l in grind (arith, nat_tests)

-- ---- the range, by the size of a number

not_above : (n : ℕ) → not (is_in_range (pos n)) ≡ nat_lt 9223372036854775807 n
not_above n = grind (arith, nat_tests)

not_below : (n : ℕ) → not (is_in_range (neg_ℤ (pos n))) ≡ nat_lt 9223372036854775808 n
not_below zero = refl
not_below (suc n) = grind (arith, nat_tests)

-- ---- by the signs of both

of_size : (z y : ℤ) (t : Bool) → z ≡ y → t ≡ not (is_in_range y) → t ≡ not (is_in_range z)
of_size z y t e h = h ∙ ap (λ z. not (is_in_range z)) (sym e)

pub product_above : (x y : ℤ) → int_lt (pos 0) x ≡ true → int_lt (pos 0) y ≡ true →
    int_lt (int_div most y) x ≡ not (is_in_range (x *ℤ y))
product_above (pos a) (pos b) hx hy =
    of_size (pos a *ℤ pos b) (pos (a * b)) _ (pos-*ℤ-pos a b)
    (quotient_below 9223372036854775807 b a (grind (arith, nat_tests)) ∙ sym (not_above (a * b)))
product_above (pos a) (negsuc b) hx hy = grind (arith, ints, nat_tests)
product_above (negsuc a) y hx hy = grind (arith, ints, nat_tests)

-- a number lies below the negated quotient exactly where its size lies above the quotient
below_negated : (q b : ℕ) → int_lt (negsuc b) (neg_ℤ (pos q)) ≡ nat_lt q (suc b)
below_negated zero b = grind (arith, nat_tests)
below_negated (suc q) b = grind (arith, nat_tests)

pub product_below_right : (x y : ℤ) → int_lt (pos 0) x ≡ true → int_lt y (pos 0) ≡ true →
    int_lt y (int_div least x) ≡ not (is_in_range (x *ℤ y))
product_below_right (pos a) (negsuc b) hx hy =
    of_size (pos a *ℤ negsuc b) (neg_ℤ (pos (a * suc b))) _ (pos-*ℤ-negsuc a b)
    (below_negated (9223372036854775808 / a) b
    ∙ quotient_below 9223372036854775808 a (suc b) (grind (arith, nat_tests))
    ∙ ap (nat_lt 9223372036854775808) (mul_comm (suc b) a) ∙ sym (not_below (a * suc b)))
product_below_right x (pos b) hx hy = grind (arith, ints, nat_tests)
product_below_right (negsuc a) y hx hy = grind (arith, ints, nat_tests)

pub product_below_left : (x y : ℤ) → int_lt x (pos 0) ≡ true → int_lt (pos 0) y ≡ true →
    int_lt x (int_div least y) ≡ not (is_in_range (x *ℤ y))
product_below_left (negsuc a) (pos b) hx hy =
    of_size (negsuc a *ℤ pos b) (neg_ℤ (pos (suc a * b))) _ (negsuc-*ℤ-pos a b)
    (below_negated (9223372036854775808 / b) a
    ∙ quotient_below 9223372036854775808 b (suc a) (grind (arith, nat_tests)) ∙ sym (not_below (suc a * b)))
product_below_left (pos a) y hx hy = grind (arith, ints, nat_tests)
product_below_left (negsuc a) (negsuc b) hx hy = grind (arith, ints, nat_tests)

pub product_of_negative : (x y : ℤ) → int_lt x (pos 0) ≡ true → int_lt y (pos 0) ≡ true →
    int_lt y (int_div most x) ≡ not (is_in_range (x *ℤ y))
product_of_negative (negsuc a) (negsuc b) hx hy =
    of_size (negsuc a *ℤ negsuc b) (pos (suc a * suc b)) _ (negsuc-*ℤ-negsuc a b)
    (below_negated (9223372036854775807 / suc a) b
    ∙ quotient_below 9223372036854775807 (suc a) (suc b) (grind (arith, nat_tests))
    ∙ ap (nat_lt 9223372036854775807) (mul_comm (suc b) (suc a)) ∙ sym (not_above (suc a * suc b)))
product_of_negative (pos a) y hx hy = grind (arith, ints, nat_tests)
product_of_negative (negsuc a) (pos b) hx hy = grind (arith, ints, nat_tests)

-- a factor that is 0
pub product_with_0 : (x y : ℤ) → int_lt (pos 0) x ≡ false → int_lt x (pos 0) ≡ false → not (is_in_range (x *ℤ y)) ≡ false
product_with_0 (pos zero) y h l = sym (of_size (pos 0 *ℤ y) (pos 0) false (zero-*ℤ y) refl)
product_with_0 (pos (suc a)) y h l = grind (arith, ints, nat_tests)
product_with_0 (negsuc a) y h l = grind (arith, ints, nat_tests)

pub product_by_0 : (x y : ℤ) → int_lt (pos 0) y ≡ false → int_lt y (pos 0) ≡ false → not (is_in_range (x *ℤ y)) ≡ false
product_by_0 x (pos zero) h l = sym (of_size (x *ℤ pos 0) (pos 0) false (*ℤ-zero x) refl)
product_by_0 x (pos (suc b)) h l = grind (arith, ints, nat_tests)
product_by_0 x (negsuc b) h l = grind (arith, ints, nat_tests)

-- ---- the quotients in the guards are in range

in_range_above : (n : ℕ) → n ≤ 9223372036854775807 → is_in_range (pos n) ≡ true
in_range_above n l = grind (arith, nat_tests)

in_range_below : (n : ℕ) → n ≤ 9223372036854775808 → is_in_range (neg_ℤ (pos n)) ≡ true
in_range_below zero l = refl
in_range_below (suc n) l = grind (arith, nat_tests)

pub most_divided : (y : ℤ) → is_in_range (int_div most y) ≡ true
most_divided (pos b) = in_range_above _ (div-le_self 9223372036854775807 b)
most_divided (negsuc b) =
    in_range_below (9223372036854775807 / suc b) (let l = div-le_self 9223372036854775807 (suc b) in grind (arith))

pub least_divided : (y : ℤ) → int_lt (pos 0) y ≡ true → is_in_range (int_div least y) ≡ true
least_divided (pos b) h = in_range_below (9223372036854775808 / b) (div-le_self 9223372036854775808 b)
least_divided (negsuc b) h = grind (arith, ints, nat_tests)

-- ---- quotients: only the least number divided by -1 is out of range

pub quotient_over : (x y : ℤ) → is_in_range x ≡ true → is_in_range y ≡ true → equals y (pos 0) ≡ false →
    (equals x least && equals y (negsuc 0)) ≡ not (is_in_range (int_div x y))
quotient_over (pos a) (pos b) rx ry h = let l = div-le_self a b in grind (arith, nat_tests)
quotient_over (pos a) (negsuc b) rx ry h =
    let l = div-le_self a (suc b) in
    let k : a / suc b ≤ 9223372036854775808 = grind (arith, nat_tests) in
    ap not (sym (in_range_below (a / suc b) k))
quotient_over (negsuc a) (pos b) rx ry h =
    let l = div-le_self (suc a) b in
    let k : suc a / b ≤ 9223372036854775808 = grind (arith, nat_tests) in
    both_false (equals (negsuc a) least) ∙ ap not (sym (in_range_below (suc a / b) k))
  where
    both_false : (t : Bool) → (t && false) ≡ false
    both_false true = refl
    both_false false = refl
quotient_over (negsuc a) (negsuc zero) rx ry h =
    least_alone ∙ ap (λ n. not (is_in_range (pos n))) (sym (div-one (suc a)))
  where
    least_alone : (equals (negsuc a) least && true) ≡ not (is_in_range (pos (suc a)))
    least_alone = grind (arith, nat_tests)
quotient_over (negsuc a) (negsuc (suc b)) rx ry h =
    let k : suc a ≤ 9223372036854775808 = grind (arith, nat_tests) in
    let l : suc a / suc (suc b) < 9223372036854775808 = div_below (suc a) (suc (suc b)) 9223372036854775808 (grind (arith)) (grind (arith)) in
    grind (arith, nat_tests)
