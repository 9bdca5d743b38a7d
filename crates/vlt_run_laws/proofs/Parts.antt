-- Parts of a move that go on.
use Rattle.std.proofs.Common.{◌≡◌, ℕ, List, Ok, sym, subst}
use Rattle.vlt_core.specs.Core.{Func}
use Rattle.vlt_meaning.specs.World.{World, Frame}
use Rattle.vlt_meaning.specs.Found.{Found}
use Rattle.vlt_meaning.specs.Step.{Step}
use Rattle.vlt_meaning.specs.Run.{Setup}
use Rattle.vlt_meaning_laws.specs.Machine.Got.{Got, got, stopped, then_step}
use Rattle.vlt_meaning_laws.specs.Machine.Machine.{Task, Conf, when_found, when_got}
use Rattle.vlt_sound_worlds.specs.Safe.{Goal, Safe}
use Rattle.vlt_run_laws.proofs.Moves.{Good}
use Rattle.vlt_run_laws.proofs.Ending.{ended_good}

module _ (r : Setup) (n : ℕ) where
  pub known_found : {A : Type 0} (x : Found A) (a : A) → x ≡ Ok a → (f : Func) (ts : List Task) (w : World) (conf : A → Conf) →
      Good r n (conf a) → Good r n (when_found x f ts w conf)
  unfolding when_found
  known_found x a is f ts w conf good = subst (λ y. Good r n (when_found y f ts w conf)) (sym is) good

  -- what a step says of what is handed on
  pub given_good : {A : Type 0} (g : Goal) (x : Got A) (go : A → Frame → World → Step) → Safe g (then_step x go) →
      (f : Func) (ts : List Task) (conf : A → Frame → World → Conf) →
      ((a : A) (frame : Frame) (w : World) → Safe g (go a frame w) → Good r n (conf a frame w)) → Good r n (when_got x f ts conf)
  unfolding when_got then_step
  given_good g (got a frame w) go safe f ts conf good = good a frame w safe
  given_good g (stopped o w) go safe f ts conf good = ended_good r o w n f ts
