-- Each operator's code is the operator.
use Rattle.std.proofs.Common.{◌≡◌, Bool, true, false, not, ℤ, pos, negsuc, zero, suc, ◌+ℤ◌, ◌-ℤ◌, ◌*ℤ◌, neg_ℤ, int_lt, int_le, int_div, int_rem, arith, [], ◌∷◌, Ok, refl, sym, subst, true≢false}
use Rattle.std.specs.Int.{w64, int_bit_and, int_bit_xor, int_bit_or}
use Rattle.std.proofs.lemmas.Bool.Decides.{nat_tests}
use Rattle.vlt_ops.specs.declared.Op.{Op}
use Rattle.vlt_ops.specs.declared.Op.TheVariants as op
use Rattle.vlt_ops.specs.Operator.{is_in_range, equals, is_true, bool_number, division_value}
use Rattle.c_syntax.specs.declared.program.CVar.{CVar}
use Rattle.c_syntax.specs.C as c
use Rattle.c_syntax.specs.C.{Expr}
use Rattle.c_meaning.specs.World.{World, number}
use Rattle.c_meaning.specs.Values.{value_of}
use Rattle.c_meaning.specs.Run.{Frame}
use Rattle.c_lower.specs.Guards as g
use Rattle.c_lower.specs.Guards.{trap_if, sum_overflows, difference_overflows, product_overflows, quotient_overflows}
use Rattle.c_lower_worlds.specs.Operators.Operators.{HasNumber, Does, takes, AreRightBinary, AreRightUnary}
use Rattle.c_lower_worlds.proofs.OfOperators.Ranges.{least}
use Rattle.c_lower_worlds.proofs.OfOperators.Guards.{Is, Tells, equal_tells, sum_tells, difference_tells, product_tells, quotient_tells}
use Rattle.c_lower_worlds.proofs.OfOperators.Doing.{set_goes, guard_passes, guard_divides, guarded_set}

is_of : {e : Expr} {frame : Frame} {w : World} {z : ℤ} → HasNumber e frame w z → Is e frame.vars w.blocks z
is_of h = record { is = h.value }

-- ---- quotients and remainders: two guards

divided : (o : Op) (a b : Expr) (x y value : ℤ) (z : Bool) (v : CVar) (frame : Frame) (w : World) → equals y (pos 0) ≡ z →
    HasNumber a frame w x → HasNumber b frame w y →
    (equals y (pos 0) ≡ false → is_in_range (int_div x y) ≡ true → value_of (c.binary o a b) frame.vars w.blocks ≡ Ok (number value)) →
    Does (trap_if (g.equal b (g.whole 0)) 2 ∷ trap_if (quotient_overflows a b) 1 ∷ c.set v (c.binary o a b) ∷ []) frame w
    (takes v (division_value x y value) frame w)
divided o a b x y value true v frame w z ha hb is =
    rw z
    (guard_divides (g.equal b (g.whole 0)) (trap_if (quotient_overflows a b) 1 ∷ c.set v (c.binary o a b) ∷ []) frame w (zero_tells z))
  where
    zero_tells : equals y (pos 0) ≡ true → Tells (g.equal b (g.whole 0)) frame.vars w.blocks true
    zero_tells z = subst (Tells (g.equal b (g.whole 0)) frame.vars w.blocks) z
        (equal_tells b (g.whole 0) frame.vars w.blocks y (pos 0) (is_of hb) (record { is = refl }))
divided o a b x y value false v frame w z ha hb is =
    rw z
    (guard_passes (g.equal b (g.whole 0)) 2 (trap_if (quotient_overflows a b) 1 ∷ c.set v (c.binary o a b) ∷ []) frame w _ (not_zero z)
    (guarded_set (quotient_overflows a b) (c.binary o a b) value (is_in_range (int_div x y)) v frame w
    (quotient_tells a b frame.vars w.blocks x y (is_of ha) (is_of hb) ha.range hb.range z) (is z)))
  where
    not_zero : equals y (pos 0) ≡ false → Tells (g.equal b (g.whole 0)) frame.vars w.blocks false
    not_zero z = subst (Tells (g.equal b (g.whole 0)) frame.vars w.blocks) z
        (equal_tells b (g.whole 0) frame.vars w.blocks y (pos 0) (is_of hb) (record { is = refl }))

-- ---- all binary operators

pub binary_is_right : AreRightBinary
binary_is_right op.Add a b x y v frame w s ha hb =
    guarded_set (sum_overflows a b) (c.binary op.Add a b) (x +ℤ y) (is_in_range (x +ℤ y)) v frame w
    (sum_tells a b frame.vars w.blocks x y (is_of ha) (is_of hb) ha.range hb.range)
    (λ r. rw (ha.value, hb.value, r) refl)
binary_is_right op.Subtract a b x y v frame w s ha hb =
    guarded_set (difference_overflows a b) (c.binary op.Subtract a b) (x -ℤ y) (is_in_range (x -ℤ y)) v frame w
    (difference_tells a b frame.vars w.blocks x y (is_of ha) (is_of hb) ha.range hb.range)
    (λ r. rw (ha.value, hb.value, r) refl)
binary_is_right op.Multiply a b x y v frame w s ha hb =
    guarded_set (product_overflows a b) (c.binary op.Multiply a b) (x *ℤ y) (is_in_range (x *ℤ y)) v frame w
    (product_tells a b frame.vars w.blocks x y (is_of ha) (is_of hb))
    (λ r. rw (ha.value, hb.value, r) refl)
binary_is_right op.Divide a b x y v frame w s ha hb =
    divided op.Divide a b x y (int_div x y) (equals y (pos 0)) v frame w refl ha hb (λ z r. rw (ha.value, hb.value, z, r) refl)
binary_is_right op.Remainder a b x y v frame w s ha hb =
    divided op.Remainder a b x y (int_rem x y) (equals y (pos 0)) v frame w refl ha hb (λ z r. rw (ha.value, hb.value, z, r) refl)
binary_is_right op.Less a b x y v frame w s ha hb =
    set_goes v (c.binary op.Less a b) (number (bool_number (int_lt x y))) frame w (rw (ha.value, hb.value) refl)
binary_is_right op.LessOrEqual a b x y v frame w s ha hb =
    set_goes v (c.binary op.LessOrEqual a b) (number (bool_number (int_le x y))) frame w (rw (ha.value, hb.value) refl)
binary_is_right op.Greater a b x y v frame w s ha hb =
    set_goes v (c.binary op.Greater a b) (number (bool_number (int_lt y x))) frame w (rw (ha.value, hb.value) refl)
binary_is_right op.GreaterOrEqual a b x y v frame w s ha hb =
    set_goes v (c.binary op.GreaterOrEqual a b) (number (bool_number (int_le y x))) frame w (rw (ha.value, hb.value) refl)
binary_is_right op.Equal a b x y v frame w s ha hb =
    set_goes v (c.binary op.Equal a b) (number (bool_number (equals x y))) frame w (rw (ha.value, hb.value) refl)
binary_is_right op.NotEqual a b x y v frame w s ha hb =
    set_goes v (c.binary op.NotEqual a b) (number (bool_number (not (equals x y)))) frame w (rw (ha.value, hb.value) refl)
binary_is_right op.BitAnd a b x y v frame w s ha hb =
    set_goes v (c.binary op.BitAnd a b) (number (int_bit_and w64 x y)) frame w (rw (ha.value, hb.value) refl)
binary_is_right op.BitXor a b x y v frame w s ha hb =
    set_goes v (c.binary op.BitXor a b) (number (int_bit_xor w64 x y)) frame w (rw (ha.value, hb.value) refl)
binary_is_right op.BitOr a b x y v frame w s ha hb =
    set_goes v (c.binary op.BitOr a b) (number (int_bit_or w64 x y)) frame w (rw (ha.value, hb.value) refl)
binary_is_right op.Negate a b x y v frame w s ha hb = absurd (true≢false (sym s))
binary_is_right op.Not a b x y v frame w s ha hb = absurd (true≢false (sym s))
binary_is_right op.And a b x y v frame w s ha hb = absurd (true≢false (sym s))
binary_is_right op.Or a b x y v frame w s ha hb = absurd (true≢false (sym s))

-- ---- prefix operators

least_alone : (x : ℤ) → is_in_range x ≡ true → equals x least ≡ not (is_in_range (neg_ℤ x))
least_alone (pos zero) r = refl
least_alone (pos (suc n)) r = grind (arith, nat_tests)
least_alone (negsuc n) r = grind (arith, nat_tests)

pub unary_is_right : AreRightUnary
unary_is_right op.Negate a x v frame w s ha =
    guarded_set (g.equal a g.least) (c.unary op.Negate a) (neg_ℤ x) (is_in_range (neg_ℤ x)) v frame w
    (subst (Tells (g.equal a g.least) frame.vars w.blocks) (least_alone x ha.range)
    (equal_tells a g.least frame.vars w.blocks x least (is_of ha) (record { is = refl })))
    (λ r. rw (ha.value, r) refl)
unary_is_right op.Not a x v frame w s ha =
    set_goes v (c.unary op.Not a) (number (bool_number (not (is_true x)))) frame w (rw ha.value refl)
unary_is_right op.Multiply a x v frame w s ha = absurd (true≢false (sym s))
unary_is_right op.Divide a x v frame w s ha = absurd (true≢false (sym s))
unary_is_right op.Remainder a x v frame w s ha = absurd (true≢false (sym s))
unary_is_right op.Add a x v frame w s ha = absurd (true≢false (sym s))
unary_is_right op.Subtract a x v frame w s ha = absurd (true≢false (sym s))
unary_is_right op.Less a x v frame w s ha = absurd (true≢false (sym s))
unary_is_right op.LessOrEqual a x v frame w s ha = absurd (true≢false (sym s))
unary_is_right op.Greater a x v frame w s ha = absurd (true≢false (sym s))
unary_is_right op.GreaterOrEqual a x v frame w s ha = absurd (true≢false (sym s))
unary_is_right op.Equal a x v frame w s ha = absurd (true≢false (sym s))
unary_is_right op.NotEqual a x v frame w s ha = absurd (true≢false (sym s))
unary_is_right op.BitAnd a x v frame w s ha = absurd (true≢false (sym s))
unary_is_right op.BitXor a x v frame w s ha = absurd (true≢false (sym s))
unary_is_right op.BitOr a x v frame w s ha = absurd (true≢false (sym s))
unary_is_right op.And a x v frame w s ha = absurd (true≢false (sym s))
unary_is_right op.Or a x v frame w s ha = absurd (true≢false (sym s))
