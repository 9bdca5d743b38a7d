-- Sums, differences, products and quotients of numbers of 64 bits, and how their guards decide whether they are in range.
use Rattle.std.proofs.Common.{◌≡◌, true, false, not, ℤ, pos, negsuc, ◌+ℤ◌, ◌-ℤ◌, int_lt, arith}
use Rattle.std.proofs.lemmas.Bool.Decides.{nat_tests}
use Rattle.std.proofs.lemmas.Int.{ints}
use Rattle.vlt_ops.specs.Operator.{is_in_range}

-- 2 ^ 63 - 1, and - 2 ^ 63
abbrev pub most : ℤ
most = pos 9223372036854775807

abbrev pub least : ℤ
least = negsuc 9223372036854775807

-- ---- sums

pub room_above : (y : ℤ) → is_in_range y ≡ true → int_lt (pos 0) y ≡ true → is_in_range (most -ℤ y) ≡ true
room_above (pos y) r l = grind (arith, ints, nat_tests)
room_above (negsuc y) r l = grind (arith, ints, nat_tests)

pub sum_above : (x y : ℤ) → is_in_range x ≡ true → is_in_range y ≡ true → int_lt (pos 0) y ≡ true →
    int_lt (most -ℤ y) x ≡ not (is_in_range (x +ℤ y))
sum_above (pos x) (pos y) rx ry l = grind (arith, ints, nat_tests)
sum_above (negsuc x) (pos y) rx ry l = grind (arith, ints, nat_tests)
sum_above x (negsuc y) rx ry l = grind (arith, ints, nat_tests)

pub room_below : (y : ℤ) → is_in_range y ≡ true → int_lt y (pos 0) ≡ true → is_in_range (least -ℤ y) ≡ true
room_below (pos y) r l = grind (arith, ints, nat_tests)
room_below (negsuc y) r l = grind (arith, ints, nat_tests)

pub sum_below : (x y : ℤ) → is_in_range x ≡ true → is_in_range y ≡ true → int_lt y (pos 0) ≡ true →
    int_lt x (least -ℤ y) ≡ not (is_in_range (x +ℤ y))
sum_below x (pos y) rx ry l = grind (arith, ints, nat_tests)
sum_below (pos x) (negsuc y) rx ry l = grind (arith, ints, nat_tests)
sum_below (negsuc x) (negsuc y) rx ry l = grind (arith, ints, nat_tests)

pub sum_with_0 : (x y : ℤ) → is_in_range x ≡ true → int_lt (pos 0) y ≡ false → int_lt y (pos 0) ≡ false →
    not (is_in_range (x +ℤ y)) ≡ false
sum_with_0 (pos x) (pos y) r h l = grind (arith, ints, nat_tests)
sum_with_0 (negsuc x) (pos y) r h l = grind (arith, ints, nat_tests)
sum_with_0 x (negsuc y) r h l = grind (arith, ints, nat_tests)

-- ---- differences

pub room_under : (y : ℤ) → is_in_range y ≡ true → int_lt y (pos 0) ≡ true → is_in_range (most +ℤ y) ≡ true
room_under (pos y) r l = grind (arith, ints, nat_tests)
room_under (negsuc y) r l = grind (arith, ints, nat_tests)

pub difference_above : (x y : ℤ) → is_in_range x ≡ true → is_in_range y ≡ true → int_lt y (pos 0) ≡ true →
    int_lt (most +ℤ y) x ≡ not (is_in_range (x -ℤ y))
difference_above x (pos y) rx ry l = grind (arith, ints, nat_tests)
difference_above (pos x) (negsuc y) rx ry l = grind (arith, ints, nat_tests)
difference_above (negsuc x) (negsuc y) rx ry l = grind (arith, ints, nat_tests)

pub room_over : (y : ℤ) → is_in_range y ≡ true → int_lt (pos 0) y ≡ true → is_in_range (least +ℤ y) ≡ true
room_over (pos y) r l = grind (arith, ints, nat_tests)
room_over (negsuc y) r l = grind (arith, ints, nat_tests)

pub difference_below : (x y : ℤ) → is_in_range x ≡ true → is_in_range y ≡ true → int_lt (pos 0) y ≡ true →
    int_lt x (least +ℤ y) ≡ not (is_in_range (x -ℤ y))
difference_below (pos x) (pos y) rx ry l = grind (arith, ints, nat_tests)
difference_below (negsuc x) (pos y) rx ry l = grind (arith, ints, nat_tests)
difference_below x (negsuc y) rx ry l = grind (arith, ints, nat_tests)

pub difference_with_0 : (x y : ℤ) → is_in_range x ≡ true → int_lt (pos 0) y ≡ false → int_lt y (pos 0) ≡ false →
    not (is_in_range (x -ℤ y)) ≡ false
difference_with_0 (pos x) (pos y) r h l = grind (arith, ints, nat_tests)
difference_with_0 (negsuc x) (pos y) r h l = grind (arith, ints, nat_tests)
difference_with_0 x (negsuc y) r h l = grind (arith, ints, nat_tests)

pub not_both_signs : (y : ℤ) → int_lt (pos 0) y ≡ true → int_lt y (pos 0) ≡ true → ⊥
not_both_signs (pos y) h l = grind (arith, ints, nat_tests)
not_both_signs (negsuc y) h l = grind (arith, ints, nat_tests)
