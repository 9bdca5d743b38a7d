-- What is seen of a machine.
use Rattle.std.specs.Prelude.{ℕ, ℤ, List, Option, IfSome}
use Rattle.vlt_base.specs.declared.Budgets.{Budgets}
use Rattle.vlt_core.specs.View.{program_of}
use Rattle.vlt_core.specs.Core.{Program}
use Rattle.vlt_meaning.specs.World.{Ran}
use Rattle.vlt_steps.specs.declared.stop.Stop.{Stop}
use Rattle.vlt_steps.specs.Stops.{stop_unless}
use Rattle.vlt_interp.specs.Rooms.Start.{IsSet}
use Rattle.vlt_interp.specs.declared.machine.Machine.{Machine}
use Rattle.vlt_interp.specs.Reached.{IsRunnable}
use Rattle.vlt_interp.specs.Start.{run_within}

-- the program that the machine runs
abbrev pub program_in : Machine → Program
program_in m = program_of m.program.now

abbrev pub budgets_of : Machine → Budgets
budgets_of m = m.budgets

-- the run that the machine is for
abbrev pub run_on : Machine → (input : List ℤ) → (answers : List (List ℤ)) → Ran
run_on m input answers = run_within m.program.now m.budgets input answers

-- how the machine stopped, if it did
abbrev pub stop_of : Machine → Option Stop
stop_of m = stop_unless m.start m.stop

-- the fuel that the machine has left
abbrev pub fuel_left : Machine → ℕ
fuel_left m = m.fuel

-- the program can be run, and the tables have room for its run until it has begun
pub record IsSound (m : Machine) : Type 0 where
  pub runnable : IsRunnable (program_in m)
  pub start : IfSome m.start (IsSet (program_in m) m.budgets)
