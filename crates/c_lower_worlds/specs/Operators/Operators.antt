-- What the code of an operator comes to.
use Rattle.std.specs.Prelude.{◌≡◌, ℕ, ℤ, pos, Bool, true, false, List, [], ◌∷◌, ◌++◌, Result, Ok, Err}
use Rattle.vlt_core.specs.Proper.{is_prefix}
use Rattle.vlt_ops.specs.declared.Op.{Op}
use Rattle.vlt_ops.specs.declared.Op.TheVariants as op
use Rattle.vlt_ops.specs.declared.TrapKind.{TrapKind}
use Rattle.vlt_ops.specs.Operator.{applied, is_in_range}
use Rattle.c_syntax.specs.declared.program.CVar.{CVar}
use Rattle.c_syntax.specs.View.{stmts_made}
use Rattle.c_syntax.specs.C as c
use Rattle.c_syntax.specs.C.{Expr, Stmt}
use Rattle.c_meaning.specs.World.{World, number, trap}
use Rattle.c_meaning.specs.Values.{value_of}
use Rattle.c_meaning.specs.Run.{Frame, Step, goes, stops, with_var, Setup, Meaning, does_stmts}
use Rattle.c_lower.specs.Guards.{unary_guards, binary_guards}

-- a binary operator that wants both its operands
abbrev pub is_strict : Op → Bool
is_strict op.Negate = false
is_strict op.Not = false
is_strict op.And = false
is_strict op.Or = false
is_strict _ = true

-- the expression has this number, one of 64 bits
pub record HasNumber (e : Expr) (frame : Frame) (w : World) (z : ℤ) : Type 0 where
  pub value : value_of e frame.vars w.blocks ≡ Ok (number z)
  pub range : is_in_range z ≡ true

-- the variable is set to the value, or the run ends in the trap
abbrev pub takes : CVar → Result ℤ TrapKind → Frame → World → Step
takes v (Ok z) frame w = goes (with_var v (number z) frame) w
takes v (Err t) frame w = stops (trap t) w

-- what the statements do, whatever stands around them
abbrev pub Does : List Stmt → Frame → World → Step → Type 0
Does xs frame w s = (r : Setup) (rest : Meaning) (n : ℕ) → does_stmts r rest n (stmts_made xs) frame w ≡ s

abbrev pub AreRightBinary : Type 0
AreRightBinary = (o : Op) (a b : Expr) (x y : ℤ) (v : CVar) (frame : Frame) (w : World) → is_strict o ≡ true →
    HasNumber a frame w x → HasNumber b frame w y →
    Does (binary_guards o a b ++ c.set v (c.binary o a b) ∷ []) frame w (takes v (applied o x y) frame w)

abbrev pub AreRightUnary : Type 0
AreRightUnary = (o : Op) (a : Expr) (x : ℤ) (v : CVar) (frame : Frame) (w : World) → is_prefix o ≡ true →
    HasNumber a frame w x →
    Does (unary_guards o a ++ c.set v (c.unary o a) ∷ []) frame w (takes v (applied o x (pos 0)) frame w)
