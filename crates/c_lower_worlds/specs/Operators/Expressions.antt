-- What the code of an expression comes to, where variables and fields stand in C as they do in the source.
use Rattle.std.specs.Prelude.{◌≡◌, ℕ, ℤ, true, List, Ok, Err}
use Rattle.vlt_core.specs.Proper.{has_arities}
use Rattle.vlt_ops.specs.Operator.{is_in_range}
use Rattle.vlt_core.specs.Core as core
use Rattle.vlt_core.specs.Core.{Func, Program}
use Rattle.vlt_meaning.specs.World as source
use Rattle.vlt_meaning.specs.Found.{Found}
use Rattle.vlt_meaning.specs.Values.{number_of}
use Rattle.c_meaning.specs.World.{World, number, trap}
use Rattle.c_meaning.specs.Values.{value_of}
use Rattle.c_meaning.specs.Run.{Frame, stops}
use Rattle.c_lower.specs.Slots.{Numbers}
use Rattle.c_lower.specs.Expressions as code
use Rattle.c_lower.specs.Expressions.{Code, expr_code}
use Rattle.c_lower_worlds.specs.Operators.Operators.{Does}
use Rattle.c_lower_worlds.specs.Operators.Codes.{AreAlike, AreUpTo, Gives}

-- The code gives the number that the source finds, or traps as the source does. Where the source's step can't be done nothing is
-- said: no accepted program comes there.
abbrev pub Follows : Found ℤ → Code → Numbers → Frame → World → Type 0
Follows (Ok z) x t frame w = Gives x t frame w z
Follows (Err (source.trap k)) x t frame w = Does x.stmts frame w (stops (trap k) w)
Follows (Err o) x t frame w = Unit {0}

-- Each variable and each field that has a number in the source has it in C, wherever no variable below these numbers is another.
pub record LeavesStand (p : Program) (f : Func) (s : source.Frame) (objects : List source.Object)
    (t : Numbers) (frame : Frame) (w : World) : Type 0 where
  pub vars : (v : ℕ) (z : ℤ) → number_of p f (core.var v) s objects ≡ Ok z →
      (u : Numbers) (g : Frame) → AreAlike t frame g →
      value_of (code.value_of (expr_code p f u (core.var v))) g.vars w.blocks ≡ Ok (number z)
  pub fields : (x i : ℕ) (z : ℤ) → number_of p f (core.field x i) s objects ≡ Ok z →
      (u : Numbers) (g : Frame) → AreUpTo t u → AreAlike t frame g → Gives (expr_code p f u (core.field x i)) u g w z

-- the number that the source finds for it, if it finds one, is of 64 bits
abbrev pub IsInRange : Program → Func → source.Frame → List source.Object → core.Expr → Type 0
IsInRange p f s objects e = (z : ℤ) → number_of p f e s objects ≡ Ok z → is_in_range z ≡ true

-- so is that of each operand in it
abbrev pub AreOperandsInRange : Program → Func → source.Frame → List source.Object → core.Expr → Type 0
AreOperandsInRange p f s objects (core.unary o a) = IsInRange p f s objects a × AreOperandsInRange p f s objects a
AreOperandsInRange p f s objects (core.binary o a b) =
    (IsInRange p f s objects a × AreOperandsInRange p f s objects a)
    × (IsInRange p f s objects b × AreOperandsInRange p f s objects b)
AreOperandsInRange p f s objects e = Unit {0}

abbrev pub AreRightExpressions : Type 0
AreRightExpressions = (p : Program) (f : Func) (s : source.Frame) (objects : List source.Object)
    (t : Numbers) (frame : Frame) (w : World) → LeavesStand p f s objects t frame w →
    (e : core.Expr) → has_arities e ≡ true → AreOperandsInRange p f s objects e →
    (u : Numbers) (g : Frame) → AreUpTo t u → AreAlike t frame g →
    Follows (number_of p f e s objects) (expr_code p f u e) u g w
