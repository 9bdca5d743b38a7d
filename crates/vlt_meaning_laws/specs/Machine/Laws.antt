-- What is proved of the machine.
use Rattle.std.specs.Prelude.{◌≡◌, ◌≤◌, ℕ, [], Some, slice_get}
use Rattle.vlt_core.specs.Core.{Func}
use Rattle.vlt_meaning.specs.World.{World, Frame}
use Rattle.vlt_meaning.specs.Step.{Step}
use Rattle.vlt_meaning.specs.Run.{Setup}
use Rattle.vlt_meaning.specs.Does.{does}
use Rattle.vlt_meaning_laws.specs.Machine.Machine.{Conf, moves, first_conf}
use Rattle.vlt_meaning_laws.specs.Machine.Bounds.{Fits, Suffices}

-- so many moves do all that is left, and come to this step
pub record LeadsTo (r : Setup) (c : Conf) (a : Step) : Type 0 where
  pub count : ℕ
  pub tasks : (moves r count c).tasks ≡ []
  pub step : (moves r count c).step ≡ a

-- From the start of a function the moves lead to where its statements lead.
abbrev pub MachineIsTheRun : Type 0
MachineIsTheRun =
    (r : Setup) (f : Func) (frame : Frame) (w : World) → LeadsTo r (first_conf f frame w) (does r f f.body frame w)

-- A stack of a height that the program and the depth give suffices, from main's start on.
pub record StackSuffices : Type 0 where
  pub first : (r : Setup) (f : Func) (i : ℕ) (frame : Frame) (w : World) → slice_get r.program.fns i ≡ Some f →
      frame.depth ≡ 1 → 1 ≤ r.depth → Fits r (first_conf f frame w)
  pub each : (r : Setup) (c : Conf) → Fits r c → Suffices r c
