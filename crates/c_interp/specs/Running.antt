-- What a run of the machine comes to.
use Rattle.std.specs.Prelude.{◌≡◌, ◌⊎◌, ◌≤◌, ℕ, ◌+◌, ◌*◌, List, [], length, Option, Some, vec_capacity}
use Rattle.vlt_rings.specs.Things.{Things}
use Rattle.vlt_numbers.specs.HostAnswers.{lists_of}
use Rattle.c_syntax.specs.View.{func_of, program_of}
use Rattle.c_meaning.specs.World as model
use Rattle.c_meaning.specs.World.{first_world, Ran}
use Rattle.c_meaning.specs.Run.{main_of, c_run}
use Rattle.c_machine.specs.Machine as m
use Rattle.c_machine.specs.Machine.{IsDeclared}
use Rattle.c_machine.specs.Laws.{LeadsTo}
use Rattle.c_machine.specs.Bounds.{tall_of}
use Rattle.c_meaning.specs.Widths.{value_slots, block_cells}
use Rattle.c_machine.specs.Within.{longest_name}
use Rattle.c_memory.specs.Shown.{cells_of}
use Rattle.c_values.specs.declared.value.Value.{Value}
use Rattle.c_values.specs.Shown.{AreMadeSlots}
use Rattle.c_primitives.specs.declared.world.World.{World}
use Rattle.c_primitives.specs.Shown.{Shows, IsReady}
use Rattle.c_primitives.specs.Stops.{Wrote}
use Rattle.vlt_steps.specs.Writing.{Outside}
use Rattle.c_interp.specs.declared.rules.Found.{Found}
use Rattle.c_interp.specs.declared.rules.Rules.{Rules}
use Rattle.c_interp.specs.Finding.{AreRules}
use Rattle.c_interp.specs.Calling.{numbered_of}
use Rattle.c_interp.specs.declared.stop.CStop.{CStop}
use Rattle.c_interp.specs.declared.frames.Frames.{Frames}
use Rattle.c_interp.specs.declared.task.Task.{Task}
use Rattle.c_interp.specs.Halting.{HasStopped, IsCut}
use Rattle.c_interp.specs.Shown.{tasks_of, state_of, setup_of}

-- the world that a run begins with
abbrev pub start_of : World → model.World
start_of s = first_world s.fuel s.input.now (lists_of s.answers.now)

abbrev pub run_of : Rules → World → Ran
run_of r s = c_run (program_of r.program.now) s.fuel r.heap r.depth s.input.now (lists_of s.answers.now)

-- the run is under way, having begun in the world w
pub record IsRunning (r : Rules) (ran : Ran) (w : model.World) (before after : Outside) (ts : List Task) (f : Frames) (s : World) : Type 0 where
  pub things : Things
  pub world : model.World
  pub shown : Shows s things world
  pub made : AreMadeSlots things f.values.items
  pub wrote : Wrote w world before after
  pub leads : LeadsTo (setup_of r) (m.on (tasks_of ts) (state_of f world)) ran

-- the run came to its end, or the sink took a part of what it writes
abbrev pub IsFinished : Ran → model.World → (before after : Outside) → CStop → World → Type 0
IsFinished ran w before after stop s = HasStopped w before after s.fuel stop ran.outcome ran.world ⊎ IsCut w before after stop ran.world

-- a run can begin with this function, over empty tables that have room for all
pub record CanRun (r : Rules) (main : Found) (tasks : List Task) (task_room : ℕ) (values : List (Option Value)) (value_room : ℕ) (s : World) : Type 0 where
  pub rules : AreRules r
  pub runnable : IsDeclared (program_of r.program.now)
  pub first : main_of (program_of r.program.now) ≡ Some (numbered_of main)
  pub no_params : length (func_of main.func.now).params ≡ 0
  pub some : 1 ≤ r.depth
  pub no_tasks : length tasks ≡ 0
  pub room_of_tasks : 2 * r.depth * (tall_of (program_of r.program.now) + 1) + 2 ≤ task_room
  pub no_values : length values ≡ 0
  pub room_of_values : (r.depth + 1) * value_slots (program_of r.program.now) ≤ value_room
  pub cells : 1 ≤ s.heap → block_cells (program_of r.program.now) ≤ cells_of s.blocks
  pub name : longest_name (program_of r.program.now) + 674 ≤ vec_capacity s.line
  pub heap : s.heap ≡ r.heap
  pub ready : IsReady s
  pub shown : Shows s [] (start_of s)
