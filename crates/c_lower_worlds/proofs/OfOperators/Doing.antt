-- What the statements of an operator's code do.
use Rattle.std.proofs.Common.{◌≡◌, ℕ, Bool, true, false, not, if◌then◌else◌, ℤ, List, [], ◌∷◌, Ok, Err, refl}
use Rattle.vlt_ops.specs.declared.TrapKind.TheVariants.{Overflow, ZeroDivisor}
use Rattle.c_syntax.specs.declared.program.CVar.{CVar}
use Rattle.c_syntax.specs.C as c
use Rattle.c_syntax.specs.C.{Expr, Stmt}
use Rattle.c_meaning.specs.World.{Value, number, World, trap}
use Rattle.c_meaning.specs.Primitives.{or_broken, on_number}
use Rattle.c_meaning.specs.Values.{value_of}
use Rattle.c_meaning.specs.Run.{Frame, Step, goes, stops, with_var, after, with_found, then_do}
use Rattle.c_lower.specs.Guards.{trap_if}
use Rattle.c_lower_worlds.specs.Operators.Operators.{Does, takes}
use Rattle.c_lower_worlds.proofs.OfOperators.Guards.{Tells}

pub set_goes : (v : CVar) (e : Expr) (a : Value) (frame : Frame) (w : World) → value_of e frame.vars w.blocks ≡ Ok a →
    Does (c.set v e ∷ []) frame w (goes (with_var v a frame) w)
unfolding or_broken after then_do
set_goes v e a frame w is r rest n = rw is refl

pub guard_passes : (e : Expr) (k : ℕ) (xs : List Stmt) (frame : Frame) (w : World) (s : Step) → Tells e frame.vars w.blocks false →
    Does xs frame w s → Does (trap_if e k ∷ xs) frame w s
unfolding with_found then_do
guard_passes e k xs frame w s false_now does r rest n = rw false_now.tells (does r rest _)

pub guard_overflows : (e : Expr) (xs : List Stmt) (frame : Frame) (w : World) → Tells e frame.vars w.blocks true →
    Does (trap_if e 1 ∷ xs) frame w (stops (trap Overflow) w)
unfolding with_found then_do after or_broken on_number
guard_overflows e xs frame w true_now r rest n = rw true_now.tells refl

pub guard_divides : (e : Expr) (xs : List Stmt) (frame : Frame) (w : World) → Tells e frame.vars w.blocks true →
    Does (trap_if e 2 ∷ xs) frame w (stops (trap ZeroDivisor) w)
unfolding with_found then_do after or_broken on_number
guard_divides e xs frame w true_now r rest n = rw true_now.tells refl

-- a guard and what it guards: it tells whether there is no value
pub guarded_set : (guard e : Expr) (z : ℤ) (t : Bool) (v : CVar) (frame : Frame) (w : World) → Tells guard frame.vars w.blocks (not t) →
    (t ≡ true → value_of e frame.vars w.blocks ≡ Ok (number z)) →
    Does (trap_if guard 1 ∷ c.set v e ∷ []) frame w (takes v (if t then Ok z else Err Overflow) frame w)
guarded_set guard e z true v frame w tells is = guard_passes guard 1 (c.set v e ∷ []) frame w _ tells (set_goes v e (number z) frame w (is refl))
guarded_set guard e z false v frame w tells is = guard_overflows guard (c.set v e ∷ []) frame w tells
