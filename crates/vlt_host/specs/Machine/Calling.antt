-- A call under way. This serves private contracts alone.
use Rattle.std.specs.Prelude.{◌≡◌, ◌≤◌, ◌<◌, ℕ, true, List, map, drop, length, Option, None, Some, slice_get, vec_capacity}
use Rattle.vlt_numbers.specs.HostAnswers.{lists_of}
use Rattle.vlt_core.specs.View.{program_of, func_of}
use Rattle.vlt_core.specs.Core.{Func}
use Rattle.vlt_heap.specs.Items.{Items}
use Rattle.vlt_heap.specs.declared.heap.Heap.{Heap}
use Rattle.vlt_heap.specs.declared.slots.Slot.{Slot}
use Rattle.vlt_heap.specs.Shown.{Holds, heap_of}
use Rattle.vlt_meaning.specs.World.{Value, Object, World}
use Rattle.vlt_meaning.specs.Step.{leaves}
use Rattle.vlt_meaning.specs.Run.{Setup}
use Rattle.vlt_acts.specs.Values.Parts.{HasPart, head_of}
use Rattle.vlt_interp.specs.declared.rooms.start.Start.{Start}
use Rattle.vlt_interp.specs.declared.tasks.task.Rules.{Rules}
use Rattle.vlt_interp.specs.declared.tasks.task.Run.{Run}
use Rattle.vlt_interp.specs.Tasks.Shown.{WasLeft}
use Rattle.vlt_interp.specs.Tasks.Moves as moves
use Rattle.vlt_host_meaning.specs.Calls.{Argument}
use Rattle.vlt_host_meaning.specs.Tables.{argument_of}
use Rattle.vlt_host_meaning.specs.HostClean.{held_numbers}
use Rattle.vlt_host_meaning.specs.Permitted.{is_permitted}
use Rattle.vlt_host_meaning.specs.OneCall.{body_does, spent}
use Rattle.vlt_host_meaning.specs.PastCalls.{IsLeftByCalls}
use Rattle.vlt_host_acts.specs.declared.permits.held.Held.{Held}
use Rattle.vlt_host_acts.specs.Permits.Held.{IsSound, numbers_in, room_in}
use Rattle.vlt_host.specs.declared.machine.called.Supply.{Supply}
use Rattle.vlt_host.specs.declared.machine.calling.Calling.{Calling}
use Rattle.vlt_host.specs.declared.machine.tables.Tables.{Tables}
use Rattle.vlt_host.specs.Machine.Callable.{IsCallable}
use Rattle.vlt_host.specs.Machine.Room.{HasRoom, HasObjects, result_length}

abbrev pub setup_for : Calling → Setup
setup_for c = record { program = program_of c.program.now; heap = c.budgets.heap; depth = c.budgets.depth }

abbrev pub func_in : Calling → Func
func_in c = func_of c.func.now

abbrev pub args_in : Calling → List Argument
args_in c = map argument_of c.args.now

abbrev pub rules_for : Calling → Rules
rules_for c = record { program = c.program; depth = c.budgets.depth }

-- the function is the program's, and has no fewer parameters than there are arguments
pub record IsOfProgram (c : Calling) : Type 0 where
  pub number : ℕ
  pub at : slice_get (program_of c.program.now).fns number ≡ Some (func_in c)
  pub few : length c.args.now ≤ (func_in c).params

-- the function is the program's, and may be called of these objects
pub record IsAllowed (c : Calling) (objects : List Object) : Type 0 where
  pub number : ℕ
  pub at : slice_get (program_of c.program.now).fns number ≡ Some (func_in c)
  pub permitted : is_permitted (program_of c.program.now) number (func_in c) (args_in c) objects ≡ true

-- ---- where the body begins

-- tables between calls, of whatever objects the call is permitted
pub record CanBegin (c : Calling) (start : Start) (held : Held) : Type 0 where
  pub callable : IsCallable (program_of c.program.now)
  pub room : HasRoom (program_of c.program.now) c.budgets.heap c.budgets.depth start
  pub sound : IsSound held
  pub objects : List Object
  pub shows : HasObjects (setup_for c) start.heap held start.values.width objects
  pub allowed : (objects : List Object) → HasObjects (setup_for c) start.heap held start.values.width objects → IsAllowed c objects

-- and all that a whole call asks
pub record CanMake (c : Calling) (t : Tables) : Type 0 where
  pub begin : CanBegin c t.start t.held
  pub held_room : c.budgets.heap ≤ room_in t.held
  pub result_line : result_length ≤ vec_capacity t.result_line

-- the tables show the objects of a world, and the machine its numbers
pub record ShowsNow (c : Calling) (heap : Heap) (held : Held) (width left : ℕ) (s : Supply) (w : World) : Type 0 where
  pub objects : HasObjects (setup_for c) heap held width w.objects
  pub fuel : w.fuel ≡ left
  pub input : w.input ≡ s.input.now
  pub answers : w.answers ≡ drop s.taken (lists_of s.answers.now)
  pub taken : w.taken ≡ s.taken

-- ---- where the body was left

-- the call in the world w left its function
pub record HasLeftBody (c : Calling) (held : Held) (r : Run) (w : World) : Type 0 where
  pub callable : IsCallable (program_of c.program.now)
  pub allowed : IsAllowed c w.objects
  pub left_by : IsLeftByCalls (setup_for c) w.objects
  pub some_fuel : 0 < w.fuel
  pub some_depth : 0 < c.budgets.depth
  pub numbers : numbers_in held ≡ held_numbers w.objects
  pub sound : IsSound held
  pub held_room : c.budgets.heap ≤ room_in held
  pub room : moves.HasRoom (program_of c.program.now) c.budgets.depth r
  pub none_left : length r.tasks.items ≡ 0
  pub budget : heap_of r.heap ≡ c.budgets.heap
  pub value : Option Value
  pub kept : List ℕ
  pub after : World
  pub is : body_does (setup_for c) (func_in c) (args_in c) (spent w) ≡ leaves value kept after
  pub items : Items
  pub holds : Holds r.heap items
  pub of : Func
  pub left : WasLeft items r of value kept after

pub record HasSomeWorld (c : Calling) (held : Held) (r : Run) : Type 0 where
  pub world : World
  pub left : HasLeftBody c held r world

-- a value, and the slot that has it in front
abbrev pub HasFront : Items → Option Value → Option Slot → Type 0
HasFront items None None = Unit {0}
HasFront items (Some v) (Some a) = HasPart items (head_of v) a
HasFront items v a = ⊥
