-- What a call of a machine comes to.
use Rattle.std.specs.Prelude.{◌≡◌, ◌≤◌, ℕ, List, Option, None, Some, option_map, IfSome}
use Rattle.vlt_io.specs.Outside.{Rose, Grew}
use Rattle.vlt_meaning.specs.World.{Value, World, Outcome}
use Rattle.vlt_steps.specs.declared.stop.Stop.{Stop}
use Rattle.vlt_steps.specs.declared.stop.Stop.TheVariants.{SinkFault}
use Rattle.vlt_steps.specs.Stops.{IsTold}
use Rattle.vlt_steps.specs.Writing.{Outside}
use Rattle.vlt_acts.specs.Hosts.Stops.{outcome_of}
use Rattle.vlt_host_acts.specs.declared.values.HostValue.{HostValue}
use Rattle.vlt_host_acts.specs.Values.{value_of}
use Rattle.vlt_host_meaning.specs.OneCall.{CallEnd, came_back, stopped}
use Rattle.vlt_host.specs.declared.machine.called.Called.{Called}
use Rattle.vlt_host.specs.declared.machine.called.Called.TheVariants.{Back, Ended}
use Rattle.vlt_host.specs.declared.machine.called.Supply.{Supply}
use Rattle.vlt_host.specs.declared.machine.host_machine.HostMachine.{HostMachine}
use Rattle.vlt_host.specs.Machine.HostMachine.{ShowsWorld, fuel_left}

-- how the run ended, if the call ended it
abbrev pub stop_in : Called → Option Stop
stop_in (Back x) = None
stop_in (Ended stop) = Some stop

-- the call came back with the value: all its text was written, and the world after it is shown
pub record IsBack (text : List ℕ) (a : Option Value) (w : World) (before after : Outside) (m : HostMachine) (s : Supply) (x : Option HostValue) : Type 0 where
  pub wrote : Grew before.written after.written text
  pub counted : before.faults ≤ after.faults
  pub value : a ≡ option_map value_of x
  pub shows : ShowsWorld m s w

-- The call ended the run, with its outcome and its rest of fuel, and all of its text was written; or the sink failed, and a part
-- of the text was written.
pub record HasEnded (text : List ℕ) (o : Option Outcome) (rest : ℕ) (before after : Outside) (left : ℕ) (stop : Stop) : Type 0 where
  pub outcome : IfSome (outcome_of stop) (λ p. o ≡ Some p)
  pub told : IsTold (outcome_of stop) text before.written after.written
  pub fuel : IfSome (outcome_of stop) (λ p. left ≡ rest)
  pub cause : stop ≡ SinkFault → Rose before.faults after.faults
  pub counted : before.faults ≤ after.faults

-- a call that comes back ends the run only where the sink fails
abbrev pub EndsIn : CallEnd → (before after : Outside) → (left : ℕ) → Stop → Type 0
EndsIn (came_back text a w) before after left stop = HasEnded text None w.fuel before after left stop
EndsIn (stopped text o w) before after left stop = HasEnded text (Some o) w.fuel before after left stop

abbrev pub ComesBack : CallEnd → (before after : Outside) → HostMachine → Supply → Option HostValue → Type 0
ComesBack (came_back text a w) before after m s x = IsBack text a w before after m s x
ComesBack (stopped text o w) before after m s x = ⊥

abbrev pub CallComes : CallEnd → (before after : Outside) → HostMachine → Supply → Called → Type 0
CallComes e before after m s (Back x) = ComesBack e before after m s x
CallComes e before after m s (Ended stop) = EndsIn e before after (fuel_left m) stop
