-- How a run ends.
use Rattle.std.proofs.Common.{◌≡◌, ◌⊎◌, inl, ℕ, ◌==◌, true, ℤ, List, [], Option, Some, None, refl, sym, ap, ◌∙◌, subst, arith}
use Rattle.std.proofs.lemmas.Bool.Decides.{nat_tests}
use Rattle.vlt_numbers.specs.declared.answers.Answers.{Answers}
use Rattle.vlt_numbers.specs.HostAnswers.{lists_of}
use Rattle.c_syntax.specs.C.{Program}
use Rattle.c_meaning.specs.World as model
use Rattle.c_meaning.specs.World.{Event, line_of, first_world, Ran}
use Rattle.c_meaning.specs.Run.{Numbered, main_of, count_of, c_run}
use Rattle.c_primitives.specs.declared.world.World.{World}
use Rattle.vlt_steps.specs.declared.stop.Stop.TheVariants.{DepthEnd, SinkFault}
use Rattle.vlt_steps.specs.Writing.{Outside, WasCut}
use Rattle.vlt_steps.specs.Stops.{HasStopped}
use Rattle.vlt_steps.proofs.Ending.{finished_ends}
use Rattle.c_primitives.proofs.Coming.{silent}
use Rattle.c_interp.specs.declared.stop.CStop.{CStop}
use Rattle.c_interp.specs.declared.stop.CStop.TheVariants.{Stopped, Undefined}
use Rattle.c_interp.specs.declared.rules.Found.{Found}
use Rattle.c_interp.specs.Halting.{outcome_of}
use Rattle.c_interp.specs.Finding.{IsFoundAs}
use Rattle.c_interp.specs.Calling.{numbered_of}
use Rattle.c_interp.specs.Running.{start_of, IsFinished}
use Rattle.c_interp.specs.Start.{EndsAs}

pub main_none : (found : Option Numbered) → IsFoundAs None found → found ≡ None
main_none None e = refl
main_none (Some g) e = absurd e

pub main_some : (f : Found) (found : Option Numbered) → IsFoundAs (Some f) found → found ≡ Some (numbered_of f)
main_some f None e = absurd e
main_some f (Some g) e = ap {B = Option Numbered} (λ x. Some (record { func = x; first = g.first })) (sym e.0) ∙ ap {B = Option Numbered} (λ x. Some (record { func = (numbered_of f).func; first = x })) (sym e.1)

module _ (p : Program) (fuel heap depth : ℕ) (input : List ℤ) (answers : List (List ℤ)) (b : Outside) where
  at_once : (o : model.Outcome) (stop : CStop) → c_run p fuel heap depth input answers ≡ record { outcome = o; world = first_world fuel input answers } → outcome_of stop ≡ Some o → EndsAs (c_run p fuel heap depth input answers) b b (record { stop = stop; fuel = fuel })
  at_once o stop is out =
      let w = first_world fuel input answers in
      subst (λ r. EndsAs r b b (record { stop = stop; fuel = fuel })) (sym is)
      (finished_ends outcome_of (Stopped SinkFault) refl line_of b b o fuel [] stop fuel (inl (record { outcome = out; fuel = refl; wrote = silent w w b refl })))

  pub ends_without_main : (count : ℕ) → main_of p ≡ None → count ≡ count_of p → EndsAs (c_run p fuel heap depth input answers) b b (record { stop = Undefined 6 count; fuel = fuel })
  ends_without_main count none is = at_once (model.undefined 6 (count_of p)) (Undefined 6 count) (rw none refl) (ap (λ n. Some (model.undefined 6 n)) is)

  pub ends_without_depth : (g : Numbered) → main_of p ≡ Some g → depth ≡ 0 → EndsAs (c_run p fuel heap depth input answers) b b (record { stop = Stopped DepthEnd; fuel = fuel })
  ends_without_depth g main none =
      let zero : (depth == 0) ≡ true = grind (arith, nat_tests) in
      at_once model.depth_end (Stopped DepthEnd) (rw (main, zero) refl) refl

-- what was written from the start on is the whole text
pub ended_is : (ran : Ran) (w : model.World) (before after : Outside) (stop : CStop) (s : World) → w.events ≡ [] → IsFinished ran w before after stop s → EndsAs ran before after (record { stop = stop; fuel = s.fuel })
ended_is ran w before after stop s none done =
    finished_ends outcome_of (Stopped SinkFault) refl line_of before after ran.outcome ran.world.fuel ran.world.events stop s.fuel
    (subst (λ (es : List Event). HasStopped (outcome_of stop) s.fuel line_of es before after ran.outcome ran.world.fuel ran.world.events ⊎ WasCut (Stopped SinkFault) line_of es ran.world.events before after stop) none done)

-- the world at the start
pub start_shown : (s : World) (fuel : ℕ) (input : List ℤ) (answers : Answers) → s.fuel ≡ fuel → s.input.now ≡ input → s.answers.now ≡ answers → start_of s ≡ first_world fuel input (lists_of answers)
start_shown s fuel input answers f i a =
    ap (λ x. first_world x s.input.now (lists_of s.answers.now)) f ∙ ap (λ x. first_world fuel x (lists_of s.answers.now)) i ∙ ap (λ x. first_world fuel input (lists_of x)) a
