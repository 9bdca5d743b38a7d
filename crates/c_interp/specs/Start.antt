-- What a run begins with, and how it ends.
use Rattle.std.specs.Prelude.{◌≡◌, ◌≤◌, ◌+◌, ◌*◌, ℤ, List, length, vec_capacity}
use Rattle.vlt_base.specs.declared.Budgets.{Budgets}
use Rattle.c_syntax.specs.declared.program.CProgram.{CProgram}
use Rattle.c_syntax.specs.View.{program_of}
use Rattle.c_meaning.specs.World.{Ran, event_text}
use Rattle.c_meaning.specs.Run.{c_run}
use Rattle.c_machine.specs.Bounds.{tall_of}
use Rattle.c_meaning.specs.Widths.{value_slots, block_cells}
use Rattle.c_machine.specs.Within.{longest_name}
use Rattle.c_memory.specs.Shown.{cells_of}
use Rattle.c_primitives.specs.Start.{AreNew}
use Rattle.vlt_steps.specs.declared.stop.Ended.{Ended}
use Rattle.vlt_steps.specs.declared.stop.Stop.TheVariants.{SinkFault}
use Rattle.vlt_steps.specs.Writing.{Outside}
use Rattle.vlt_steps.specs.Stops as stops
use Rattle.c_interp.specs.declared.stop.CStop.{CStop}
use Rattle.c_interp.specs.declared.stop.CStop.TheVariants.{Stopped}
use Rattle.c_interp.specs.declared.start.Start.{Start}
use Rattle.c_interp.specs.Halting.{outcome_of}
use Rattle.c_interp.specs.Finding.{AreRules}

-- the run of a program within budgets
abbrev pub run_within : CProgram → Budgets → (input : List ℤ) → (answers : List (List ℤ)) → Ran
run_within p b input answers = c_run (program_of p) b.fuel b.heap b.depth input answers

-- nothing was put into the tables, and there is room for all
pub record IsSet (s : Start) : Type 0 where
  pub rules : AreRules s.rules
  pub tables : AreNew s.tables
  pub heap : s.tables.heap ≡ s.rules.heap
  pub cells : 1 ≤ s.rules.heap → block_cells (program_of s.rules.program.now) ≤ cells_of s.tables.blocks
  pub name : longest_name (program_of s.rules.program.now) + 674 ≤ vec_capacity s.tables.line
  pub no_tasks : length s.tasks.items ≡ 0
  pub tasks : 2 * s.rules.depth * (tall_of (program_of s.rules.program.now) + 1) + 2 ≤ vec_capacity s.tasks
  pub no_values : length s.values.items ≡ 0
  pub values : (s.rules.depth + 1) * value_slots (program_of s.rules.program.now) ≤ vec_capacity s.values

pub record IsStart (p : CProgram) (b : Budgets) (s : Start) : Type 0 where
  pub program : s.rules.program.now ≡ p
  pub depth : s.rules.depth ≡ b.depth
  pub heap : s.rules.heap ≡ b.heap
  pub set : IsSet s

-- ---- how it ends

abbrev pub EndsAs : Ran → (before after : Outside) → Ended CStop → Type 0
EndsAs ran before after e =
    stops.EndsAs outcome_of (Stopped SinkFault) ran.outcome ran.world.fuel (event_text ran.world.events) before after e
