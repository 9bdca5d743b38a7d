-- The parts of the law that are proved apart: statements without blocks, calls, switches, returns,
-- and the numbers of expressions.
use Rattle.std.specs.Prelude.{◌≡◌, ℕ, List, [], Option, Some, true}
use Rattle.vlt_core.specs.Proper.{is_proper}
use Rattle.vlt_core.specs.Core.{Ty, Expr, Simple, Operand, simple, call, switch, return, Arms, Func, Program}
use Rattle.vlt_core.specs.KindedScopes.{Ids}
use Rattle.vlt_core.specs.KindedOperands.{value_broken}
use Rattle.vlt_meaning.specs.World as source
use Rattle.vlt_meaning.specs.Values.{number_of}
use Rattle.vlt_meaning.specs.Run as run
use Rattle.c_meaning.specs.Run as crun
use Rattle.c_lower.specs.Slots.{Numbers, first_temps}
use Rattle.c_lower.specs.Expressions.{expr_code}
use Rattle.c_lower_worlds.specs.Operators.Codes.{AreUpTo}
use Rattle.c_lower_worlds.specs.Operators.Expressions.{Follows}
use Rattle.c_lower_worlds.specs.Worlds.{Registers, c_world}
use Rattle.c_lower_worlds.specs.SameStatements.{Begins, IsSameForm, IsSameFormIn, AreSameArms}
use Rattle.c_lower_worlds.specs.Naming.Functions.{IsFunction}

-- the code of an expression of this type gives the number that the source finds, or traps as it
-- does
abbrev pub NumbersAreRight : Program → Type 0
NumbersAreRight p =
    (f : Func) (e : Expr) (ids : Ids) (ty : Ty) (t : Numbers) (k : ℕ) (s : source.Frame)
    (w : source.World) (frame : crun.Frame) (g : Registers) →
    IsFunction p f → is_proper e ≡ true → value_broken p f ids (Some ty) e ≡ [] →
    AreUpTo (first_temps p f) t → Begins p f k s w frame g →
    Follows (number_of p f e s w.objects) (expr_code p f t e) t frame (c_world p g w)

pub record Parts (p : Program) (r : run.Setup) (R : crun.Setup) (m : run.Meaning)
    (cm : crun.Meaning) (n : ℕ) : Type 0 where
  pub simple_forms : (f : Func) (s : Simple) → IsFunction p f → IsSameForm p r R m cm n f (simple s)
  pub calls : (f : Func) (g : ℕ) (target : Option ℕ) (keys : List ℕ) (args : List Operand) →
      IsFunction p f → IsSameFormIn p r R m cm n f (call g target keys args)
  pub switches : (f : Func) (v : ℕ) (arms : Arms) (end : ℕ) → IsFunction p f →
      AreSameArms p r R m cm n f arms → IsSameFormIn p r R m cm n f (switch v arms end)
  pub returns : (f : Func) (value : Option Operand) → IsFunction p f →
      IsSameForm p r R m cm n f (return value)
