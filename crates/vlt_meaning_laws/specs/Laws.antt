-- The equations of runs, without a bound.
use Rattle.std.specs.Prelude.{◌≡◌, ℕ, ◌==◌, ℤ, true, if◌then◌else◌, List, Option, None, Some, slice_get}
use Rattle.vlt_ops.specs.Operator.{is_true}
use Rattle.vlt_core.specs.Core.{Expr, Form, loop, Block, Stmts, next, Func, Program}
use Rattle.vlt_meaning.specs.World.{World, Frame, depth_end, fault, missing}
use Rattle.vlt_meaning.specs.Values.{number_of}
use Rattle.vlt_meaning.specs.Step.{Step, goes, ends, with_found, spend, then_do, then_turn}
use Rattle.vlt_meaning.specs.Run.{Setup, does_form, does_block, does_stmts, ran_of, first_frame, start, run}
use Rattle.vlt_meaning.specs.Does.{does}
use Rattle.vlt_meaning_laws.specs.Keeping.{IsLater, world_after}
use Rattle.vlt_meaning_laws.specs.Ends.{list_ends, Stops}

-- what one statement does
abbrev pub does_one : Setup → Func → Form → Frame → World → Step
does_one r = does_form r (does r)

abbrev pub does_main : Setup → Option Func → World → Step
does_main r None w = ends (fault missing None) w
does_main r (Some f) w = does r f f.body (first_frame 1) w

-- what comes after a unit of fuel was spent is what statements do
abbrev pub IsBoundless : Type 0
IsBoundless = (r : Setup) (f : Func) (ss : Stmts) (frame : Frame) (w : World) →
    does r f ss frame w ≡ does_stmts r (does r) f ss frame w

-- a list does what its first statement does, and then the rest
abbrev pub GoesOn : Type 0
GoesOn = (r : Setup) (f : Func) (at : ℕ) (s : Form) (rest : Stmts) (frame : Frame) (w : World) →
    does r f (next at s rest) frame w ≡ then_do (does_one r f s frame w) (does r f rest)

-- a loop does one turn, and then what the loop does
abbrev pub TurnsAgain : Type 0
TurnsAgain = (r : Setup) (f : Func) (e : Expr) (b : Block) (frame : Frame) (w : World) →
    does_one r f (loop e b) frame w ≡
    spend w (λ w. with_found (number_of r.program f e frame w.objects) w (λ z.
    if is_true z then then_turn (does_block r (does r) f b frame w) (does_one r f (loop e b)) else goes frame w))

abbrev pub IsRun : Type 0
IsRun = (p : Program) (fuel heap depth : ℕ) (zs : List ℤ) (answers : List (List ℤ)) →
    run p fuel heap depth zs answers ≡
    ran_of (if depth == 0 then ends depth_end (start fuel zs answers)
    else does_main (record { program = p; heap = heap; depth = depth }) (slice_get p.fns p.main)
    (start fuel zs answers))

-- statements come to a later world
abbrev pub OnlyAdds : Type 0
OnlyAdds =
    (r : Setup) (f : Func) (ss : Stmts) (frame : Frame) (w : World) → IsLater w (world_after (does r f ss frame w))

-- statements of which the last one ends stop
abbrev pub EndsStop : Type 0
EndsStop = (r : Setup) (f : Func) (ss : Stmts) → list_ends ss ≡ true → (frame : Frame) (w : World) →
    Stops (does r f ss frame w)
