-- What the fields of the code stand for, and what its functions come to.
use Rattle.std.specs.Prelude.{◌≡◌, ◌⊎◌, ◌≤◌, ℕ, ◌+◌, ◌*◌, List, [], ◌∷◌, length, Option, Some, None, vec_capacity}
use Rattle.std.specs.Option.{option_map}
use Rattle.vlt_rings.specs.Things.{Things}
use Rattle.c_syntax.specs.View.{stmts_of, func_of, program_of}
use Rattle.c_syntax.specs.C.{Stmt}
use Rattle.c_meaning.specs.World as model
use Rattle.c_meaning.specs.Run.{Setup, count_in_stmt}
use Rattle.c_machine.specs.Machine as m
use Rattle.c_machine.specs.Machine.{State, Conf, Next}
use Rattle.c_meaning.specs.Widths.{names_of, cells_in_stmt, value_slots, block_cells}
use Rattle.c_machine.specs.Bounds.{sizes_of, Fits, tall_of}
use Rattle.c_machine.specs.Within.{name_in_stmt, AreWithin, longest_name}
use Rattle.c_memory.specs.Shown.{cells_of}
use Rattle.c_values.specs.declared.value.Value.{Value}
use Rattle.c_values.specs.Shown.{value_view, shown_slots, AreMadeSlots, IsMadeSlot}
use Rattle.c_primitives.specs.declared.world.World.{World}
use Rattle.c_primitives.specs.Shown.{Shows, IsReady, KeepsRoom}
use Rattle.c_primitives.specs.Stops.{Wrote}
use Rattle.vlt_steps.specs.Writing.{Outside}
use Rattle.c_interp.specs.declared.stop.CStop.{CStop}
use Rattle.c_interp.specs.declared.frames.Frames.{Frames}
use Rattle.c_interp.specs.declared.task.Caller.{Caller}
use Rattle.c_interp.specs.declared.task.Task.{Task}
use Rattle.c_interp.specs.declared.task.Task.TheVariants.{List as Listed, Again, Back, Bottom}
use Rattle.c_interp.specs.declared.rules.Rules.{Rules}
use Rattle.c_interp.specs.Halting.{outcome_of, IsCut, HasStopped}
use Rattle.c_interp.specs.Finding.{AreRules}

-- ---- tasks and frames

abbrev pub caller_of : Caller → m.Caller
caller_of k = record {
  base = k.base;
  names = names_of (func_of k.func.now);
  is_glue = k.is_glue;
  n = k.n;
  target = k.target;
  given = k.given;
}

abbrev pub task_of : Task → m.Task
task_of (Listed n ss) = m.list n (stmts_of ss.now)
task_of (Again n b) = m.again n (stmts_of b.now)
task_of (Back k) = m.back (caller_of k)
task_of (Bottom g) = m.bottom g

-- the last task is the next one
abbrev pub tasks_onto : List Task → List m.Task → List m.Task
tasks_onto [] us = us
tasks_onto (t ∷ ts) us = tasks_onto ts (task_of t ∷ us)

abbrev pub tasks_of : List Task → List m.Task
tasks_of ts = tasks_onto ts []

abbrev pub state_of : Frames → model.World → State
state_of f w = record {
  slots = shown_slots f.values.items;
  base = f.base;
  names = names_of (func_of f.func.now);
  is_glue = f.is_glue;
  depth = f.depth;
  world = w;
}

abbrev pub given_view : Option Value → Option model.Value
given_view = option_map value_view

-- ---- what never changes

abbrev pub setup_of : Rules → Setup
setup_of r = record { program = program_of r.program.now; heap = r.heap; depth = r.depth }

-- ---- functions that change tasks and frames alone

-- where the machine goes on, or how it stops; the world is as it was
abbrev pub IsPlain : Option CStop → List Task → Frames → model.World → Next → Type 0
IsPlain None ts f w (m.goes c) = (c.tasks ≡ tasks_of ts) × (c.state ≡ state_of f w)
IsPlain None ts f w (m.stops o v) = ⊥
IsPlain (Some stop) ts f w (m.goes c) = ⊥
IsPlain (Some stop) ts f w (m.stops o v) = (outcome_of stop ≡ Some o) × (v ≡ w)

-- what frames keep: room, and references that were made
pub record KeepsFrames (given : Option Value) (old new : Frames) : Type 0 where
  pub made : (ts : Things) → IsMadeSlot ts given → AreMadeSlots ts old.values.items → AreMadeSlots ts new.values.items
  pub room : vec_capacity old.values ≤ vec_capacity new.values

-- ---- functions that do more

pub record Goes (w : model.World) (before after : Outside) (ts : List Task) (f : Frames) (s : World) (c : Conf) : Type 0 where
  pub things : Things
  pub world : model.World
  pub tasks : c.tasks ≡ tasks_of ts
  pub state : c.state ≡ state_of f world
  pub shown : Shows s things world
  pub made : AreMadeSlots things f.values.items
  pub wrote : Wrote w world before after

-- from the world w
abbrev pub CameTo : model.World → (before after : Outside) → Option CStop → List Task → Frames → World → Next → Type 0
CameTo w before after None ts f s (m.goes c) = Goes w before after ts f s c
CameTo w before after None ts f s (m.stops o v) = ⊥
CameTo w before after (Some stop) ts f s (m.goes c) = IsCut w before after stop c.state.world
CameTo w before after (Some stop) ts f s (m.stops o v) = HasStopped w before after s.fuel stop o v ⊎ IsCut w before after stop v

-- the table of tasks had the one room, and has the other
pub record Came (room room' : ℕ) (old new : Frames) (s s' : World) (before after : Outside) (result : Option CStop) (ts : List Task) (next : model.World → Next) : Type 0 where
  pub ready : IsReady s'
  pub world : KeepsRoom s s'
  pub tasks : room ≤ room'
  pub slots : vec_capacity old.values ≤ vec_capacity new.values
  pub comes : (things : Things) (w : model.World) → Shows s things w → AreMadeSlots things old.values.items → CameTo w before after result ts new s' (next w)

-- ---- rooms

-- what the statement x of the number n needs
pub record HasRoomToDo (r : Rules) (n : ℕ) (x : Stmt) (long room : ℕ) (f : Frames) (s : World) : Type 0 where
  pub rules : AreRules r
  pub number : n + count_in_stmt x ≤ r.count
  pub tasks : long + 2 ≤ room
  pub top : f.base ≤ length f.values.items
  pub slots : length f.values.items + value_slots (program_of r.program.now) ≤ vec_capacity f.values
  pub cells : 1 ≤ s.heap → cells_in_stmt x ≤ cells_of s.blocks
  pub name : name_in_stmt x + 674 ≤ vec_capacity s.line
  pub heap : s.heap ≡ r.heap
  pub ready : IsReady s

-- the tables, of which that of tasks has room for so many, have room for the whole run
pub record HasRoom (r : Rules) (ts : List Task) (room : ℕ) (f : Frames) (s : World) : Type 0 where
  pub rules : AreRules r
  pub fits : (w : model.World) → Fits (sizes_of (program_of r.program.now)) r.depth (tasks_of ts) (state_of f w)
  pub within : AreWithin r.count (longest_name (program_of r.program.now)) (tasks_of ts)
  pub tasks : 2 * r.depth * (tall_of (program_of r.program.now) + 1) + 2 ≤ room
  pub slots : (r.depth + 1) * value_slots (program_of r.program.now) ≤ vec_capacity f.values
  pub cells : 1 ≤ s.heap → block_cells (program_of r.program.now) ≤ cells_of s.blocks
  pub name : longest_name (program_of r.program.now) + 674 ≤ vec_capacity s.line
  pub heap : s.heap ≡ r.heap
  pub ready : IsReady s
