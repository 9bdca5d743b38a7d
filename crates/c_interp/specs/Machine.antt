-- What is seen of a machine.
use Rattle.std.specs.Prelude.{ℕ, ℤ, List, Option, IfSome}
use Rattle.vlt_base.specs.declared.Budgets.{Budgets}
use Rattle.c_syntax.specs.View.{program_of}
use Rattle.c_syntax.specs.C.{Program}
use Rattle.c_meaning.specs.World.{Ran}
use Rattle.c_interp.specs.declared.stop.CStop.{CStop}
use Rattle.vlt_steps.specs.Stops.{stop_unless}
use Rattle.c_interp.specs.declared.machine.CMachine.{CMachine}
use Rattle.c_machine.specs.Machine.{IsRunnable}
use Rattle.c_interp.specs.Start.{IsStart, run_within}

-- the program that the machine runs
abbrev pub program_in : CMachine → Program
program_in m = program_of m.program.now

abbrev pub budgets_of : CMachine → Budgets
budgets_of m = m.budgets

-- the run that the machine is for
abbrev pub run_on : CMachine → (input : List ℤ) → (answers : List (List ℤ)) → Ran
run_on m input answers = run_within m.program.now m.budgets input answers

-- how the machine stopped, if it did
abbrev pub stop_of : CMachine → Option CStop
stop_of m = stop_unless m.start m.stop

-- the fuel that the machine has left
abbrev pub fuel_left : CMachine → ℕ
fuel_left m = m.fuel

-- the program can be run, and the tables have room for its run until it has begun
pub record IsSound (m : CMachine) : Type 0 where
  pub runnable : IsRunnable (program_in m)
  pub start : IfSome m.start (IsStart m.program.now m.budgets)
