-- When a run of a program and the run of its C program are the same.
use Rattle.std.specs.Prelude.{◌≡◌, ◌⊎◌, ℕ, ℤ, Bool, true, List, Option, Some, None, false}
use Rattle.vlt_core.specs.Core.{Program}
use Rattle.vlt_meaning.specs.World as source
use Rattle.vlt_meaning.specs.Run as run
use Rattle.c_meaning.specs.World as cw
use Rattle.c_meaning.specs.Run as crun
use Rattle.c_lower.specs.Lowering.{lowered}

-- a fault has none
abbrev pub c_outcome : source.Outcome → Option cw.Outcome
c_outcome source.done = Some cw.done
c_outcome (source.trap k) = Some (cw.trap k)
c_outcome source.fuel_end = Some cw.fuel_end
c_outcome source.heap_end = Some cw.heap_end
c_outcome source.depth_end = Some cw.depth_end
c_outcome source.input_end = Some cw.input_end
c_outcome source.answers_end = Some cw.answers_end
c_outcome (source.bad_answer n) = Some (cw.bad_answer n)
c_outcome (source.fault r n) = None

-- the same outcome, the same event text, and the same fuel left
pub record AreTheSame (r : source.Ran) (c : cw.Ran) : Type 0 where
  pub outcome : c_outcome r.outcome ≡ Some c.outcome
  pub text : cw.event_text c.world.events ≡ source.event_text r.world.events
  pub fuel : c.world.fuel ≡ r.world.fuel

-- where the program's run doesn't end in a fault, that of its C program is the same
abbrev pub IsSameRun : Program → (fuel heap depth : ℕ) → List ℤ → List (List ℤ) → Type 0
IsSameRun p fuel heap depth input answers =
    (source.is_fault (run.run p fuel heap depth input answers).outcome ≡ true)
    ⊎ AreTheSame (run.run p fuel heap depth input answers)
    (crun.c_run (lowered p) fuel heap depth input answers)

-- a run that breaks a rule of C
abbrev pub is_undefined : cw.Outcome → Bool
is_undefined (cw.undefined r n) = true
is_undefined o = false
