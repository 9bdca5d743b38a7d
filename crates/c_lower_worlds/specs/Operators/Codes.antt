-- What the code of an expression with a number comes to.
use Rattle.std.specs.Prelude.{◌≡◌, ◌<◌, ◌≤◌, ℤ, if◌then◌else◌, Ok}
use Rattle.vlt_ops.specs.declared.Op.TheVariants as op
use Rattle.c_syntax.specs.declared.program.CVar.{CVar}
use Rattle.c_meaning.specs.World.{World, number}
use Rattle.c_meaning.specs.Values.{value_of}
use Rattle.c_meaning.specs.Run.{Frame, goes}
use Rattle.c_lower.specs.Slots.{Numbers}
use Rattle.c_lower.specs.Expressions as code
use Rattle.c_lower.specs.Expressions.{Code}
use Rattle.c_lower_worlds.specs.Operators.Operators.{Does}

-- the variable has a number below these
abbrev pub IsBelow : Numbers → CVar → Type 0
IsBelow t v = v.number < (if v.reference then t.p else t.n)

-- two frames that differ in no variable below these numbers
pub record AreAlike (t : Numbers) (f g : Frame) : Type 0 where
  pub vars : (v : CVar) → IsBelow t v → f.vars v ≡ g.vars v
  pub depth : f.depth ≡ g.depth
  pub is_glue : f.is_glue ≡ g.is_glue

pub record AreUpTo (t u : Numbers) : Type 0 where
  pub n : t.n ≤ u.n
  pub p : t.p ≤ u.p

-- The code, whose temps begin with these numbers, goes on: it changes no variable below them, and its atom has the number as
-- long as no variable below the next temps changes.
pub record Gives (x : Code) (t : Numbers) (frame : Frame) (w : World) (z : ℤ) : Type 0 where
  pub to : Frame
  pub does : Does x.stmts frame w (goes to w)
  pub alike : AreAlike t frame to
  pub stays : (g : Frame) → AreAlike x.next to g → value_of (code.value_of x) g.vars w.blocks ≡ Ok (number z)
