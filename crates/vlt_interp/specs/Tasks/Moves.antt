-- What a move of a run, or a part of one, asks and comes to.
use Rattle.std.specs.Prelude.{◌≡◌, ◌⊎◌, ◌≤◌, ℕ, ◌<◌, ◌+◌, ◌*◌, ◌^◌, true, false, List, ◌∷◌, length, Option, Some, None, vec_capacity}
use Rattle.vlt_core.specs.View.{func_of, program_of}
use Rattle.vlt_core.specs.Core.{Form, Block, Func, Program}
use Rattle.vlt_core.specs.Lookups.{fields_of}
use Rattle.vlt_core.specs.Widths.{greatest}
use Rattle.vlt_meaning.specs.World.{Frame, World, Outcome, is_fault}
use Rattle.vlt_meaning.specs.Step.{Step, goes, jumps, leaves, ends}
use Rattle.vlt_meaning.specs.Run.{Setup}
use Rattle.vlt_meaning_laws.specs.Machine.Machine as m
use Rattle.vlt_meaning_laws.specs.Machine.Machine.{Conf, at, act, enter_block, after_move}
use Rattle.vlt_meaning_laws.specs.Machine.Bounds.{tall_of}
use Rattle.vlt_heap.specs.Shown.{IsSound, IsSameSize, heap_of, slots_of}
use Rattle.vlt_steps.specs.Writing.{Outside}
use Rattle.vlt_acts.specs.Hosts.Stops.{Wrote, IsCut, HasStopped}
use Rattle.vlt_steps.specs.declared.stop.Stop.{Stop}
use Rattle.vlt_interp.specs.declared.tasks.task.Task.{Task}
use Rattle.vlt_interp.specs.declared.tasks.task.Rules.{Rules}
use Rattle.vlt_interp.specs.declared.tasks.task.Run.{Run}
use Rattle.vlt_interp.specs.Tasks.Sizes.{IsWide, frame_slots, line_length}
use Rattle.vlt_interp.specs.Tasks.Own.{IsOwn, HasOwn, IsOf}
use Rattle.vlt_interp.specs.Tasks.Shown.{setup_of, tasks_left, ShowsWith, ShowsConf}

-- ---- rooms

-- the tables have room for a whole run of the program
pub record HasRoom (p : Program) (depth : ℕ) (r : Run) : Type 0 where
  pub wide : IsWide p r.values.width
  pub heap : IsSound r.heap
  pub cells : (t : ℕ) → length (fields_of p t) * r.values.width ≤ slots_of r.heap
  pub fields : (t : ℕ) → length (fields_of p t) < 2 ^ 32
  pub values : (depth + 1) * frame_slots p r.values.width + r.values.width * r.values.width ≤ vec_capacity r.values.slots
  pub operands : (t : ℕ) → (depth + 1) * frame_slots p r.values.width + length (fields_of p t) * r.values.width ≤ vec_capacity r.values.slots
  pub tasks : depth * (tall_of p + 1) + 3 ≤ vec_capacity r.tasks
  pub line : greatest line_length p.fns ≤ vec_capacity r.host.line

-- What a statement asks beside that the run doesn't go wrong. So many tasks are left with what is after the statement, and
-- so many slots are there up to the end of the running frame.
pub record IsReady (p : Program) (depth : ℕ) (r : Run) : Type 0 where
  pub room : HasRoom p depth r
  pub own : HasOwn p
  pub func : IsOf p (func_of r.func.now)
  pub tasks : length r.tasks.items ≤ depth * (tall_of p + 1)
  pub values : length r.values.slots.items ≤ depth * frame_slots p r.values.width

-- what each move keeps: the heap's size, the width of values, and room
pub record Keeps (old new : Run) : Type 0 where
  pub sound : IsSound new.heap
  pub size : IsSameSize old.heap new.heap
  pub width : new.values.width ≡ old.values.width
  pub values : vec_capacity old.values.slots ≤ vec_capacity new.values.slots
  pub tasks : vec_capacity old.tasks ≤ vec_capacity new.tasks
  pub line : vec_capacity old.host.line ≤ vec_capacity new.host.line

-- ---- where a move comes to

-- the world of a step
abbrev pub world_in : Step → World
world_in (goes frame w) = w
world_in (jumps c frame w) = w
world_in (leaves a kept w) = w
world_in (ends o w) = w

-- it is shown, and what was written since the world w is its events
pub record GoneOn (w : World) (before after : Outside) (r : Run) (c : Conf) (v : World) : Type 0 where
  pub shown : ShowsConf r c
  pub wrote : Wrote w v before after

-- The configuration c, whose step is given beside it. Where the run goes wrong, any answer will do.
abbrev pub CameTo : World → (before after : Outside) → Option Stop → Run → Conf → Step → Type 0
CameTo w before after None r c (ends o v) = is_fault o ≡ true
CameTo w before after None r c a = GoneOn w before after r c (world_in a)
CameTo w before after (Some stop) r c (ends o v) =
    (is_fault o ≡ true) ⊎ (HasStopped w before after r.fuel stop o v ⊎ IsCut w before after stop v)
CameTo w before after (Some stop) r c a = IsCut w before after stop (world_in a)

abbrev pub IsRight : Step → Type 0
IsRight a = (o : Outcome) (w : World) → a ≡ ends o w → is_fault o ≡ false

-- ---- statements, and parts of them

-- where the machine comes to that goes on in a function, with these tasks left
abbrev pub Part : Type 0
Part = Setup → Func → List m.Task → Frame → World → Conf

-- a statement, and the beginning of a block
abbrev pub doing : Form → Part
doing form s f ts frame w = act s f form ts frame w

abbrev pub entering : Block → Part
entering b s f ts frame w = enter_block f b ts frame w

-- some configuration that the run shows goes on, and this part of its move doesn't go wrong
pub record GoesRight (part : Part) (s : Setup) (r : Run) : Type 0 where
  pub func : Func
  pub tasks : List m.Task
  pub frame : Frame
  pub world : World
  pub shown : ShowsConf r (at func tasks (goes frame world))
  pub right : IsRight (part s func tasks frame world).step

-- what a statement asks
pub record CanDo (form : Form) (rules : Rules) (r : Run) : Type 0 where
  pub ready : IsReady (program_of rules.program.now) rules.depth r
  pub own : IsOwn (program_of rules.program.now) (func_of r.func.now) form
  pub right : GoesRight (doing form) (setup_of rules (heap_of r.heap)) r

-- what it asks where it doesn't see the rules
pub record MayDo (form : Form) (r : Run) : Type 0 where
  pub rules : Rules
  pub can : CanDo form rules r

-- the part is done, from whatever configuration the run showed
pub record Does (part : Part) (s : Setup) (old new : Run) (before after : Outside) (result : Option Stop) : Type 0 where
  pub keeps : Keeps old new
  pub comes : (f : Func) (ts : List m.Task) (frame : Frame) (w : World) → ShowsConf old (at f ts (goes frame w)) →
      CameTo w before after result new (part s f ts frame w) (part s f ts frame w).step

abbrev pub DoesFor : Part → Rules → (old new : Run) → (before after : Outside) → Option Stop → Type 0
DoesFor part rules old new before after result =
    Does part (setup_of rules (heap_of old.heap)) old new before after result

-- ---- tasks that were taken

-- with the task in front some configuration is shown whose move doesn't go wrong
pub record IsRightTask (t : Task) (r : Run) : Type 0 where
  pub setup : Setup
  pub conf : Conf
  pub shown : ShowsWith (t ∷ tasks_left r) r conf
  pub right : IsRight (after_move setup conf).step

-- the task is done, from whatever configuration the run showed with it in front
pub record DoesTask (t : Task) (s : Setup) (old new : Run) (before after : Outside) (result : Option Stop) : Type 0 where
  pub keeps : Keeps old new
  pub comes : (c : Conf) → ShowsWith (t ∷ tasks_left old) old c →
      CameTo (world_in c.step) before after result new (after_move s c) (after_move s c).step
