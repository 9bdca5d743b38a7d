-- The equations of runs. Each follows from `does_eq` by computing.
use Rattle.std.proofs.Common.{◌≡◌, ℕ, ◌==◌, Option, Some, None, refl, sym, ap, ◌∙◌, arith, if◌then◌else◌, slice_get}
use Rattle.vlt_ops.specs.Operator.{is_true}
use Rattle.vlt_core.specs.Core.{loop, Stmts, done, next, Func}
use Rattle.vlt_meaning.specs.World.{World, depth_end}
use Rattle.vlt_meaning.specs.Values.{number_of}
use Rattle.vlt_meaning.specs.Step.{Step, goes, jumps, leaves, ends, with_found, spend, then_do, then_turn}
use Rattle.vlt_meaning.specs.Run.{Setup, does_block, does_stmts, main_run, ran_of, first_frame, start}
use Rattle.vlt_meaning.specs.Does.{does}
use Rattle.vlt_meaning_laws.specs.Laws.{does_one, does_main, IsBoundless, GoesOn, TurnsAgain, IsRun, OnlyAdds, EndsStop}
use Rattle.vlt_meaning_laws.proofs.Moves.{keeps}
use Rattle.vlt_meaning_laws.proofs.Later.{later_kept}
use Rattle.vlt_meaning_laws.proofs.Levels.{does_eq, does_is}
use Rattle.vlt_meaning_laws.proofs.Ends.{list_stops}

pub boundless : IsBoundless
boundless = does_eq

list_is : (r : Setup) (f : Func) (ss : Stmts) → does r f ss ≡ does_stmts r (does r) f ss
list_is r f ss = λ i frame w. does_eq r f ss frame w i

pub does_next : GoesOn
does_next r f at s rest frame w =
    does_eq r f (next at s rest) frame w ∙ ap (then_do (does_one r f s frame w)) (sym (list_is r f rest))

then_goes : (a : Step) → then_do a (λ frame w. goes frame w) ≡ a
unfolding then_do
then_goes (goes frame w) = refl
then_goes (jumps c frame w) = refl
then_goes (leaves a kept w) = refl
then_goes (ends o w) = refl

pub does_loop : TurnsAgain
does_loop r f e b frame w =
    ap (λ again. spend w (λ w. with_found (number_of r.program f e frame w.objects) w (λ z.
    if is_true z then then_turn (does_block r (does r) f b frame w) again else goes frame w)))
    (λ i frame w. (does_eq r f (next 0 (loop e b) done) frame w ∙ then_goes (does_one r f (loop e b) frame w)) i)

main_is : (r : Setup) (fuel : ℕ) (f : Option Func) (w : World) → w.fuel ≡ fuel → main_run r fuel f w ≡ does_main r f w
main_is r fuel None w e = refl
main_is r fuel (Some f) w e = does_is r fuel f f.body (first_frame 1) w (omega arith)

pub run_is : IsRun
run_is p fuel heap depth zs answers =
    ap (λ a. ran_of (if depth == 0 then ends depth_end (start fuel zs answers) else a))
    (main_is (record { program = p; heap = heap; depth = depth }) fuel (slice_get p.fns p.main)
    (start fuel zs answers) refl)

pub only_adds : OnlyAdds
unfolding does
only_adds r f ss frame w = (keeps _ later_kept r w.fuel f ss frame w).kept

pub ends_stop : EndsStop
unfolding does
ends_stop r f ss q frame w = list_stops r _ f ss q frame w
