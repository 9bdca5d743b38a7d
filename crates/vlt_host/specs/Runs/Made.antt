-- What asking for one call comes to, for private contracts.
use Rattle.std.specs.Prelude.{◌≡◌, ℕ, []}
use Rattle.vlt_core.specs.Core.{Func}
use Rattle.vlt_meaning.specs.World.{World}
use Rattle.vlt_meaning.specs.Run.{Setup}
use Rattle.vlt_steps.specs.Writing.{Outside, IsUntouched}
use Rattle.vlt_host_meaning.specs.Calls.{HostCall}
use Rattle.vlt_host_meaning.specs.EntryFunctions.{function_of_name}
use Rattle.vlt_host_meaning.specs.OneCall.{host_calls}
use Rattle.vlt_host_meaning.specs.HostRun.{CallsEnd, broke_off, bad_call, then_calls, call_number}
use Rattle.vlt_host.specs.declared.machine.called.Called.{Called}
use Rattle.vlt_host.specs.declared.machine.called.Supply.{Supply}
use Rattle.vlt_host.specs.declared.machine.host_machine.HostMachine.{HostMachine}
use Rattle.vlt_host.specs.Machine.Called.{CallComes}
use Rattle.vlt_host.specs.declared.runs.calls.Made as declared
use Rattle.vlt_host.specs.declared.runs.calls.Made.TheVariants.{Refused, Called as called}

-- the call at a position, where so the others go on
abbrev pub asked : Setup → HostCall → World → (position : ℕ) → (World → CallsEnd) → CallsEnd
asked r c w at go = call_number r at (function_of_name c.name 0 r.program.fns) c.args w go

pub record IsRefused (r : Setup) (c : HostCall) (w : World) (before after : Outside) : Type 0 where
  pub untouched : IsUntouched before after
  pub bad : (at : ℕ) (go : World → CallsEnd) → asked r c w at go ≡ broke_off [] (bad_call at) w

pub record IsCalled (r : Setup) (c : HostCall) (w : World) (before after : Outside) (m : HostMachine) (s : Supply) (x : Called) : Type 0 where
  pub function : Func
  pub goes : (at : ℕ) (go : World → CallsEnd) → asked r c w at go ≡ then_calls (host_calls r function c.args w) go
  pub comes : CallComes (host_calls r function c.args w) before after m s x

abbrev pub MakesCall : Setup → HostCall → World → (before after : Outside) → HostMachine → Supply → declared.Made → Type 0
MakesCall r c w before after m s Refused = IsRefused r c w before after
MakesCall r c w before after m s (called x) = IsCalled r c w before after m s x
