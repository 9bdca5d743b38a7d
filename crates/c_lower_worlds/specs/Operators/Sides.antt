-- How the codes of both sides make that of an operator. Only proofs cite this.
use Rattle.std.specs.Prelude.{◌≡◌, ℤ, Bool, true, false, not, if◌then◌else◌, Result, Ok, Err}
use Rattle.vlt_core.specs.Proper.{is_binary}
use Rattle.vlt_ops.specs.declared.Op.{Op}
use Rattle.vlt_ops.specs.declared.Op.TheVariants as op
use Rattle.vlt_ops.specs.declared.TrapKind.{TrapKind}
use Rattle.vlt_ops.specs.Operator.{applied, is_in_range, is_true}
use Rattle.c_meaning.specs.World.{World, trap}
use Rattle.c_meaning.specs.Run.{Frame, stops}
use Rattle.c_lower.specs.Slots.{Numbers}
use Rattle.c_lower.specs.Expressions.{Code, binary_code}
use Rattle.c_lower_worlds.specs.Operators.Operators.{Does}
use Rattle.c_lower_worlds.specs.Operators.Codes.{AreAlike, AreUpTo, Gives}

abbrev pub ComesTo : Code → Numbers → Frame → World → Result ℤ TrapKind → Type 0
ComesTo x t frame w (Ok z) = Gives x t frame w z
ComesTo x t frame w (Err k) = Does x.stmts frame w (stops (trap k) w)

-- what both sides make: `&&` gives the left one where that is 0, and `||` where it isn't, else the right one
abbrev pub both_make : Op → ℤ → Result ℤ TrapKind → Result ℤ TrapKind
both_make op.And x y = if is_true x then y else Ok x
both_make op.Or x y = if is_true x then Ok x else y
both_make o x (Ok y) = applied o x y
both_make o x (Err k) = Err k

abbrev pub sides_make : Op → Result ℤ TrapKind → Result ℤ TrapKind → Result ℤ TrapKind
sides_make o (Ok x) y = both_make o x y
sides_make o (Err k) y = Err k

abbrev pub AreInRange : Result ℤ TrapKind → Type 0
AreInRange r = (z : ℤ) → r ≡ Ok z → is_in_range z ≡ true

-- whether the right side is run
abbrev pub wants_right : Op → ℤ → Bool
wants_right op.And x = is_true x
wants_right op.Or x = not (is_true x)
wants_right o x = true

abbrev pub wants : Op → Result ℤ TrapKind → Bool
wants o (Ok x) = wants_right o x
wants o (Err k) = false

-- The code of the right side may be run wherever no variable below the first temps is another.
abbrev pub AreRightCodes : Type 0
AreRightCodes = (o : Op) (left : Code) (right : Numbers → Code) (t : Numbers) (frame : Frame) (w : World)
    (x y : Result ℤ TrapKind) → is_binary o ≡ true → AreInRange x → AreInRange y →
    ((u : Numbers) → AreUpTo u (right u).next) → AreUpTo t left.next →
    ComesTo left t frame w x →
    (wants o x ≡ true → (g : Frame) (u : Numbers) → AreUpTo t u → AreAlike t frame g → ComesTo (right u) u g w y) →
    ComesTo (binary_code o left right) t frame w (sides_make o x y)
