-- Code before an operator that traps where the operator has no value in 64 bits.
use Rattle.std.specs.Prelude.{ℕ, pos, ◌-◌, ◌^◌, List, [], ◌∷◌}
use Rattle.vlt_ops.specs.declared.Op.{Op}
use Rattle.vlt_ops.specs.declared.Op.TheVariants as op
use Rattle.c_syntax.specs.declared.program.CPrim.TheVariants as prim
use Rattle.c_syntax.specs.C as c
use Rattle.c_syntax.specs.C.{Expr, Stmt}

abbrev pub whole : ℕ → Expr
whole n = c.number (pos n)

-- the greatest and the least number; the least has no sign of its own in C
abbrev pub greatest : Expr
greatest = whole (2 ^ 63 - 1)

abbrev pub least : Expr
least = c.binary op.Subtract (c.unary op.Negate greatest) (whole 1)

abbrev pub both : Expr → Expr → Expr
both = c.binary op.And

abbrev pub either : Expr → Expr → Expr
either = c.binary op.Or

abbrev pub above : Expr → Expr → Expr
above = c.binary op.Greater

abbrev pub below : Expr → Expr → Expr
below = c.binary op.Less

abbrev pub equal : Expr → Expr → Expr
equal = c.binary op.Equal

abbrev pub unequal : Expr → Expr → Expr
unequal = c.binary op.NotEqual

abbrev pub is_positive : Expr → Expr
is_positive a = above a (whole 0)

abbrev pub is_negative : Expr → Expr
is_negative a = below a (whole 0)

abbrev pub sum_overflows : (a b : Expr) → Expr
sum_overflows a b =
    either (both (is_positive b) (above a (c.binary op.Subtract greatest b)))
    (both (is_negative b) (below a (c.binary op.Subtract least b)))

abbrev pub difference_overflows : (a b : Expr) → Expr
difference_overflows a b =
    either (both (is_negative b) (above a (c.binary op.Add greatest b)))
    (both (is_positive b) (below a (c.binary op.Add least b)))

-- by the signs of both
abbrev pub product_overflows : (a b : Expr) → Expr
product_overflows a b =
    either (either (either
    (both (both (is_positive a) (is_positive b)) (above a (c.binary op.Divide greatest b)))
    (both (both (is_positive a) (is_negative b)) (below b (c.binary op.Divide least a))))
    (both (both (is_negative a) (is_positive b)) (below a (c.binary op.Divide least b))))
    (both (both (is_negative a) (is_negative b)) (below b (c.binary op.Divide greatest a)))

abbrev pub quotient_overflows : (a b : Expr) → Expr
quotient_overflows a b = both (equal a least) (equal b (c.unary op.Negate (whole 1)))

-- the trap of this number where the expression holds
abbrev pub trap_if : Expr → (trap : ℕ) → Stmt
trap_if e trap = c.when e (c.next (c.call (c.primitive prim.Trap (c.number (pos trap) ∷ []))) c.done)

abbrev pub unary_guards : Op → Expr → List Stmt
unary_guards op.Negate a = trap_if (equal a least) 1 ∷ []
unary_guards _ a = []

abbrev pub binary_guards : Op → (a b : Expr) → List Stmt
binary_guards op.Add a b = trap_if (sum_overflows a b) 1 ∷ []
binary_guards op.Subtract a b = trap_if (difference_overflows a b) 1 ∷ []
binary_guards op.Multiply a b = trap_if (product_overflows a b) 1 ∷ []
binary_guards op.Divide a b = trap_if (equal b (whole 0)) 2 ∷ trap_if (quotient_overflows a b) 1 ∷ []
binary_guards op.Remainder a b = trap_if (equal b (whole 0)) 2 ∷ trap_if (quotient_overflows a b) 1 ∷ []
binary_guards _ a b = []
