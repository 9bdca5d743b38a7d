-- What is seen of a machine that a host calls.
use Rattle.std.specs.Prelude.{◌≡◌, ℕ, List, drop, Option, None, Some, IfSome}
use Rattle.vlt_base.specs.declared.Budgets.{Budgets}
use Rattle.vlt_numbers.specs.HostAnswers.{lists_of}
use Rattle.vlt_core.specs.View.{program_of}
use Rattle.vlt_core.specs.Core.{Program}
use Rattle.vlt_meaning.specs.World.{Object, World}
use Rattle.vlt_meaning.specs.Run.{Setup}
use Rattle.vlt_steps.specs.declared.stop.Stop.{Stop}
use Rattle.vlt_steps.specs.Stops.{stop_unless}
use Rattle.vlt_host.specs.declared.machine.host_machine.HostMachine.{HostMachine}
use Rattle.vlt_host.specs.declared.machine.host_machine.HeldObject.{HeldObject}
use Rattle.vlt_host.specs.declared.machine.called.Supply.{Supply}
use Rattle.vlt_host.specs.declared.machine.tables.Tables.{Tables}
use Rattle.vlt_host.specs.Machine.Callable.{IsCallable}
use Rattle.vlt_host.specs.Machine.Room.{TablesHave, IsReady}

-- the program that is called
abbrev pub program_in : HostMachine → Program
program_in m = program_of m.program.now

abbrev pub budgets_of : HostMachine → Budgets
budgets_of m = m.budgets

-- what never changes in its calls
abbrev pub setup_in : HostMachine → Setup
setup_in m = record { program = program_in m; heap = m.budgets.heap; depth = m.budgets.depth }

-- how the run ended, if a call ended it
abbrev pub stop_of : HostMachine → Option Stop
stop_of m = stop_unless m.tables m.stop

abbrev pub fuel_left : HostMachine → ℕ
fuel_left m = m.fuel

abbrev pub HaveObjects : Setup → Option Tables → List Object → Type 0
HaveObjects r None objects = ⊥
HaveObjects r (Some t) objects = TablesHave r t objects

-- these are all objects that functions made, in calls that came back, with what the host holds of them
abbrev pub ShowsObjects : HostMachine → List Object → Type 0
ShowsObjects m objects = HaveObjects (setup_in m) m.tables objects

-- the world between calls: its objects and the fuel that is left, with what the host has left to give
pub record ShowsWorld (m : HostMachine) (s : Supply) (w : World) : Type 0 where
  pub objects : ShowsObjects m w.objects
  pub fuel : w.fuel ≡ fuel_left m
  pub input : w.input ≡ s.input.now
  pub answers : w.answers ≡ drop s.taken (lists_of s.answers.now)
  pub taken : w.taken ≡ s.taken

-- the program can be called, and there is room for a call until one has ended the run
pub record IsHosted (m : HostMachine) : Type 0 where
  pub callable : IsCallable (program_in m)
  pub ready : IfSome m.tables (IsReady (setup_in m))

-- an object's position, state and type
pub record Sight : Type 0 where
  pub position : ℕ
  pub state : ℕ
  pub type : ℕ

abbrev pub seen : HeldObject → Sight
seen h = record { position = h.position; state = h.state; type = h.type_id.0 }

abbrev pub seen_of : ℕ × Object → Sight
seen_of q = record { position = q.0; state = q.1.state; type = q.1.type }
