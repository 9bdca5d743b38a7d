-- The tests before operators, as they are evaluated.
use Rattle.std.proofs.Common.{◌≡◌, Bool, true, false, not, ◌&&◌, ◌||◌, ℤ, pos, negsuc, ◌+ℤ◌, ◌-ℤ◌, ◌*ℤ◌, int_lt, int_div, Ok, refl, sym, ◌∙◌, subst, arith, true≢false}
use Rattle.std.proofs.lemmas.Bool.Decides.{nat_tests}
use Rattle.std.proofs.lemmas.Int.{ints}
use Rattle.vlt_ops.specs.declared.Op.TheVariants as op
use Rattle.vlt_ops.specs.Operator.{is_in_range, equals, bool_number}
use Rattle.c_syntax.specs.C as c
use Rattle.c_syntax.specs.C.{Expr}
use Rattle.c_meaning.specs.World.{number, Vars}
use Rattle.c_meaning.specs.Blocks.{Blocks}
use Rattle.c_meaning.specs.Values.{value_of}
use Rattle.c_lower.specs.Guards as g
use Rattle.c_lower.specs.Guards.{both, either, above, below, equal, is_positive, is_negative, sum_overflows, difference_overflows, product_overflows, quotient_overflows}
use Rattle.c_lower_worlds.proofs.OfOperators.Ranges.{most, least, room_above, sum_above, room_below, sum_below, sum_with_0, room_under, difference_above, room_over, difference_below, difference_with_0, not_both_signs}
use Rattle.c_lower_worlds.proofs.OfOperators.Products.{product_above, product_below_right, product_below_left, product_of_negative, product_with_0, product_by_0, most_divided, least_divided, quotient_over}

-- an expression's number, and a test's answer
pub record Is (e : Expr) (vars : Vars) (bs : Blocks) (z : ℤ) : Type 0 where
  pub is : value_of e vars bs ≡ Ok (number z)

pub record Tells (e : Expr) (vars : Vars) (bs : Blocks) (t : Bool) : Type 0 where
  pub tells : value_of e vars bs ≡ Ok (number (bool_number t))

-- ---- tests of tests

pub both_tell : (a b : Expr) (vars : Vars) (bs : Blocks) (s t : Bool) → Tells a vars bs s → (s ≡ true → Tells b vars bs t) →
    Tells (both a b) vars bs (s && t)
both_tell a b vars bs true true ha hb = record { tells = rw (ha.tells, (hb refl).tells) refl }
both_tell a b vars bs true false ha hb = record { tells = rw (ha.tells, (hb refl).tells) refl }
both_tell a b vars bs false t ha hb = record { tells = rw ha.tells refl }

pub either_tells : (a b : Expr) (vars : Vars) (bs : Blocks) (s t : Bool) → Tells a vars bs s → (s ≡ false → Tells b vars bs t) →
    Tells (either a b) vars bs (s || t)
either_tells a b vars bs false true ha hb = record { tells = rw (ha.tells, (hb refl).tells) refl }
either_tells a b vars bs false false ha hb = record { tells = rw (ha.tells, (hb refl).tells) refl }
either_tells a b vars bs true t ha hb = record { tells = rw ha.tells refl }

-- ---- comparisons

pub above_tells : (a b : Expr) (vars : Vars) (bs : Blocks) (x y : ℤ) → Is a vars bs x → Is b vars bs y →
    Tells (above a b) vars bs (int_lt y x)
above_tells a b vars bs x y ha hb = record { tells = rw (ha.is, hb.is) refl }

pub below_tells : (a b : Expr) (vars : Vars) (bs : Blocks) (x y : ℤ) → Is a vars bs x → Is b vars bs y →
    Tells (below a b) vars bs (int_lt x y)
below_tells a b vars bs x y ha hb = record { tells = rw (ha.is, hb.is) refl }

pub equal_tells : (a b : Expr) (vars : Vars) (bs : Blocks) (x y : ℤ) → Is a vars bs x → Is b vars bs y →
    Tells (equal a b) vars bs (equals x y)
equal_tells a b vars bs x y ha hb = record { tells = rw (ha.is, hb.is) refl }

-- ---- numbers

pub sum_is : (a b : Expr) (vars : Vars) (bs : Blocks) (x y : ℤ) → Is a vars bs x → Is b vars bs y → is_in_range (x +ℤ y) ≡ true →
    Is (c.binary op.Add a b) vars bs (x +ℤ y)
sum_is a b vars bs x y ha hb r = record { is = rw (ha.is, hb.is, r) refl }

pub difference_is : (a b : Expr) (vars : Vars) (bs : Blocks) (x y : ℤ) → Is a vars bs x → Is b vars bs y → is_in_range (x -ℤ y) ≡ true →
    Is (c.binary op.Subtract a b) vars bs (x -ℤ y)
difference_is a b vars bs x y ha hb r = record { is = rw (ha.is, hb.is, r) refl }

pub quotient_is : (a b : Expr) (vars : Vars) (bs : Blocks) (x y : ℤ) → Is a vars bs x → Is b vars bs y → equals y (pos 0) ≡ false →
    is_in_range (int_div x y) ≡ true → Is (c.binary op.Divide a b) vars bs (int_div x y)
quotient_is a b vars bs x y ha hb z r = record { is = rw (ha.is, hb.is, z, r) refl }

pub least_is : (vars : Vars) (bs : Blocks) → Is g.least vars bs least
least_is vars bs = record { is = refl }

-- ---- the guards: each tells whether the operator's value is out of range

or_false : (t : Bool) → (t || false) ≡ t
or_false true = refl
or_false false = refl

sum_decided : (x y : ℤ) (hi lo : Bool) → is_in_range x ≡ true → is_in_range y ≡ true → int_lt (pos 0) y ≡ hi → int_lt y (pos 0) ≡ lo →
    ((hi && int_lt (most -ℤ y) x) || (lo && int_lt x (least -ℤ y))) ≡ not (is_in_range (x +ℤ y))
sum_decided x y true true rx ry h l = absurd (not_both_signs y h l)
sum_decided x y true false rx ry h l = or_false (int_lt (most -ℤ y) x) ∙ sum_above x y rx ry h
sum_decided x y false true rx ry h l = sum_below x y rx ry l
sum_decided x y false false rx ry h l = sym (sum_with_0 x y rx h l)

pub sum_tells : (a b : Expr) (vars : Vars) (bs : Blocks) (x y : ℤ) → Is a vars bs x → Is b vars bs y →
    is_in_range x ≡ true → is_in_range y ≡ true → Tells (sum_overflows a b) vars bs (not (is_in_range (x +ℤ y)))
sum_tells a b vars bs x y ha hb rx ry =
    subst (Tells (sum_overflows a b) vars bs) (sum_decided x y (int_lt (pos 0) y) (int_lt y (pos 0)) rx ry refl refl)
    (either_tells _ _ vars bs _ _
    (both_tell (is_positive b) _ vars bs (int_lt (pos 0) y) _ (above_tells b (g.whole 0) vars bs y (pos 0) hb (record { is = refl }))
    (λ h. above_tells a _ vars bs x (most -ℤ y) ha (difference_is g.greatest b vars bs most y (record { is = refl }) hb (room_above y ry h))))
    (λ u. both_tell (is_negative b) _ vars bs (int_lt y (pos 0)) _ (below_tells b (g.whole 0) vars bs y (pos 0) hb (record { is = refl }))
    (λ h. below_tells a _ vars bs x (least -ℤ y) ha (difference_is g.least b vars bs least y (record { is = refl }) hb (room_below y ry h)))))

difference_decided : (x y : ℤ) (hi lo : Bool) → is_in_range x ≡ true → is_in_range y ≡ true → int_lt (pos 0) y ≡ hi → int_lt y (pos 0) ≡ lo →
    ((lo && int_lt (most +ℤ y) x) || (hi && int_lt x (least +ℤ y))) ≡ not (is_in_range (x -ℤ y))
difference_decided x y true true rx ry h l = absurd (not_both_signs y h l)
difference_decided x y true false rx ry h l = difference_below x y rx ry h
difference_decided x y false true rx ry h l = or_false (int_lt (most +ℤ y) x) ∙ difference_above x y rx ry l
difference_decided x y false false rx ry h l = sym (difference_with_0 x y rx h l)

pub difference_tells : (a b : Expr) (vars : Vars) (bs : Blocks) (x y : ℤ) → Is a vars bs x → Is b vars bs y →
    is_in_range x ≡ true → is_in_range y ≡ true → Tells (difference_overflows a b) vars bs (not (is_in_range (x -ℤ y)))
difference_tells a b vars bs x y ha hb rx ry =
    subst (Tells (difference_overflows a b) vars bs) (difference_decided x y (int_lt (pos 0) y) (int_lt y (pos 0)) rx ry refl refl)
    (either_tells _ _ vars bs _ _
    (both_tell (is_negative b) _ vars bs (int_lt y (pos 0)) _ (below_tells b (g.whole 0) vars bs y (pos 0) hb (record { is = refl }))
    (λ l. above_tells a _ vars bs x (most +ℤ y) ha (sum_is g.greatest b vars bs most y (record { is = refl }) hb (room_under y ry l))))
    (λ u. both_tell (is_positive b) _ vars bs (int_lt (pos 0) y) _ (above_tells b (g.whole 0) vars bs y (pos 0) hb (record { is = refl }))
    (λ h. below_tells a _ vars bs x (least +ℤ y) ha (sum_is g.least b vars bs least y (record { is = refl }) hb (room_over y ry h)))))

-- a number with a sign isn't 0
not_0_above : (y : ℤ) → int_lt (pos 0) y ≡ true → equals y (pos 0) ≡ false
not_0_above (pos y) h = grind (arith, ints, nat_tests)
not_0_above (negsuc y) h = grind (arith, ints, nat_tests)

not_0_below : (y : ℤ) → int_lt y (pos 0) ≡ true → equals y (pos 0) ≡ false
not_0_below (pos y) h = grind (arith, ints, nat_tests)
not_0_below (negsuc y) h = grind (arith, ints, nat_tests)

-- a part of the guard of a product: the signs of both are these, and the first expression lies on that side of the second
product_decided : (x y : ℤ) (hx lx hy ly : Bool) → int_lt (pos 0) x ≡ hx → int_lt x (pos 0) ≡ lx → int_lt (pos 0) y ≡ hy → int_lt y (pos 0) ≡ ly →
    (((((hx && hy) && int_lt (int_div most y) x) || ((hx && ly) && int_lt y (int_div least x)))
    || ((lx && hy) && int_lt x (int_div least y))) || ((lx && ly) && int_lt y (int_div most x))) ≡ not (is_in_range (x *ℤ y))
product_decided x y true true hy ly h l k m = absurd (not_both_signs x h l)
product_decided x y hx lx true true h l k m = absurd (not_both_signs y k m)
product_decided x y false false hy ly h l k m = sym (product_with_0 x y h l)
product_decided x y true false false false h l k m = sym (product_by_0 x y k m)
product_decided x y false true false false h l k m = sym (product_by_0 x y k m)
product_decided x y true false true false h l k m = or_false _ ∙ or_false _ ∙ or_false _ ∙ product_above x y h k
product_decided x y true false false true h l k m = or_false _ ∙ or_false _ ∙ product_below_right x y h m
product_decided x y false true true false h l k m = or_false _ ∙ product_below_left x y l k
product_decided x y false true false true h l k m = product_of_negative x y l m

signs_tell : (a b : Expr) (vars : Vars) (bs : Blocks) (s t : Bool) → Tells a vars bs s → Tells b vars bs t → Tells (both a b) vars bs (s && t)
signs_tell a b vars bs s t ha hb = both_tell a b vars bs s t ha (λ u. hb)

pub and_left : (s t : Bool) → (s && t) ≡ true → s ≡ true
and_left true t h = refl
and_left false t h = absurd (true≢false (sym h))

pub and_right : (s t : Bool) → (s && t) ≡ true → t ≡ true
and_right true t h = h
and_right false t h = absurd (true≢false (sym h))

pub product_tells : (a b : Expr) (vars : Vars) (bs : Blocks) (x y : ℤ) → Is a vars bs x → Is b vars bs y →
    Tells (product_overflows a b) vars bs (not (is_in_range (x *ℤ y)))
product_tells a b vars bs x y ha hb =
    let up : (e : Expr) (z : ℤ) → Is e vars bs z → Tells (is_positive e) vars bs (int_lt (pos 0) z) =
    λ e z h. above_tells e (g.whole 0) vars bs z (pos 0) h (record { is = refl }) in
    let down : (e : Expr) (z : ℤ) → Is e vars bs z → Tells (is_negative e) vars bs (int_lt z (pos 0)) =
    λ e z h. below_tells e (g.whole 0) vars bs z (pos 0) h (record { is = refl }) in
    subst (Tells (product_overflows a b) vars bs)
    (product_decided x y (int_lt (pos 0) x) (int_lt x (pos 0)) (int_lt (pos 0) y) (int_lt y (pos 0)) refl refl refl refl)
    (either_tells _ _ vars bs _ _
    (either_tells _ _ vars bs _ _
    (either_tells _ _ vars bs _ _
    (both_tell _ _ vars bs _ _ (signs_tell _ _ vars bs _ _ (up a x ha) (up b y hb))
    (λ s. above_tells a _ vars bs x (int_div most y) ha
    (quotient_is g.greatest b vars bs most y (record { is = refl }) hb (not_0_above y (and_right _ _ s)) (most_divided y))))
    (λ u. both_tell _ _ vars bs _ _ (signs_tell _ _ vars bs _ _ (up a x ha) (down b y hb))
    (λ s. below_tells b _ vars bs y (int_div least x) hb
    (quotient_is g.least a vars bs least x (record { is = refl }) ha (not_0_above x (and_left _ _ s)) (least_divided x (and_left _ _ s))))))
    (λ u. both_tell _ _ vars bs _ _ (signs_tell _ _ vars bs _ _ (down a x ha) (up b y hb))
    (λ s. below_tells a _ vars bs x (int_div least y) ha
    (quotient_is g.least b vars bs least y (record { is = refl }) hb (not_0_above y (and_right _ _ s)) (least_divided y (and_right _ _ s))))))
    (λ u. both_tell _ _ vars bs _ _ (signs_tell _ _ vars bs _ _ (down a x ha) (down b y hb))
    (λ s. below_tells b _ vars bs y (int_div most x) hb
    (quotient_is g.greatest a vars bs most x (record { is = refl }) ha (not_0_below x (and_left _ _ s)) (most_divided x)))))

pub quotient_tells : (a b : Expr) (vars : Vars) (bs : Blocks) (x y : ℤ) → Is a vars bs x → Is b vars bs y →
    is_in_range x ≡ true → is_in_range y ≡ true → equals y (pos 0) ≡ false →
    Tells (quotient_overflows a b) vars bs (not (is_in_range (int_div x y)))
quotient_tells a b vars bs x y ha hb rx ry z =
    subst (Tells (quotient_overflows a b) vars bs) (quotient_over x y rx ry z)
    (both_tell _ _ vars bs _ _ (equal_tells a g.least vars bs x least ha (record { is = refl }))
    (λ u. equal_tells b (c.unary op.Negate (g.whole 1)) vars bs y (negsuc 0) hb (record { is = refl })))
