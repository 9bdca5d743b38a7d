-- The run that a machine is for, and how it ends.
use Rattle.std.specs.Prelude.{ℤ, List}
use Rattle.vlt_base.specs.declared.Budgets.{Budgets}
use Rattle.vlt_core.specs.declared.program.Program.{Program as CodeProgram}
use Rattle.vlt_core.specs.View.{program_of}
use Rattle.vlt_meaning.specs.World.{Ran, event_text}
use Rattle.vlt_meaning.specs.Run.{run}
use Rattle.vlt_steps.specs.declared.stop.Stop.{Stop}
use Rattle.vlt_steps.specs.declared.stop.Stop.TheVariants.{SinkFault}
use Rattle.vlt_steps.specs.declared.stop.Ended.{Ended}
use Rattle.vlt_steps.specs.Writing.{Outside}
use Rattle.vlt_steps.specs.Stops as stops
use Rattle.vlt_acts.specs.Hosts.Stops.{outcome_of}

-- the run of a program within budgets
abbrev pub run_within : CodeProgram → Budgets → (input : List ℤ) → (answers : List (List ℤ)) → Ran
run_within p b input answers = run (program_of p) b.fuel b.heap b.depth input answers

abbrev pub EndsAs : Ran → (before after : Outside) → Ended Stop → Type 0
EndsAs ran before after e = stops.EndsAs outcome_of SinkFault ran.outcome ran.world.fuel (event_text ran.world.events) before after e
