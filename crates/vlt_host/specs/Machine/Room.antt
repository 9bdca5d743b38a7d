-- What a machine for a host keeps between calls.
use Rattle.std.specs.Prelude.{◌≡◌, ◌≤◌, ℕ, List, length, vec_capacity}
use Rattle.vlt_core.specs.Core.{Program}
use Rattle.vlt_meaning.specs.World.{Object}
use Rattle.vlt_meaning.specs.Run.{Setup}
use Rattle.vlt_heap.specs.declared.heap.Heap.{Heap}
use Rattle.vlt_heap.specs.Shown as heaps
use Rattle.vlt_heap.specs.Shown.{heap_of, slots_of}
use Rattle.vlt_acts.specs.Values.Shown.{IsTable}
use Rattle.vlt_interp.specs.Tasks.Sizes.{IsWide}
use Rattle.vlt_interp.specs.declared.rooms.start.Start.{Start}
use Rattle.vlt_interp.specs.Rooms.Rooms.{HoldsFields, HoldsFrames, HoldsTasks, HoldsLine}
use Rattle.vlt_host_meaning.specs.PastCalls.{IsLeftByCalls}
use Rattle.vlt_host_acts.specs.declared.permits.held.Held.{Held}
use Rattle.vlt_host_acts.specs.Permits.Held.{IsSound, room_in}
use Rattle.vlt_host_acts.specs.Permits.Hosted.{ShowsHeld}
use Rattle.vlt_host.specs.declared.machine.tables.Tables.{Tables}

-- no frame and no task stands there, and there is room for a whole call
pub record HasRoom (p : Program) (heap depth : ℕ) (s : Start) : Type 0 where
  pub wide : IsWide p s.values.width
  pub sound : heaps.IsSound s.heap
  pub budget : heap_of s.heap ≡ heap
  pub cells : HoldsFields p s.values.width (slots_of s.heap)
  pub table : IsTable s.values
  pub no_values : length s.values.slots.items ≡ 0
  pub values : HoldsFrames p depth s.values.width (vec_capacity s.values.slots)
  pub no_tasks : length s.tasks.items ≡ 0
  pub tasks : HoldsTasks p depth (vec_capacity s.tasks)
  pub line : HoldsLine p (vec_capacity s.line)

-- these are all objects, and calls that came back left them
pub record HasObjects (r : Setup) (heap : Heap) (held : Held) (width : ℕ) (objects : List Object) : Type 0 where
  pub shows : ShowsHeld heap held objects
  pub wide : shows.width ≡ width
  pub left : IsLeftByCalls r objects

abbrev pub TablesHave : Setup → Tables → List Object → Type 0
TablesHave r t objects = HasObjects r t.start.heap t.held t.start.values.width objects

-- the longest line of a result: `=`, the number of an object and a line feed
abbrev pub result_length : ℕ
result_length = 44

-- there is room for a call, for all that the host can hold, and for the line of a result
pub record IsReady (r : Setup) (t : Tables) : Type 0 where
  pub room : HasRoom r.program r.heap r.depth t.start
  pub held : IsSound t.held
  pub held_room : r.heap ≤ room_in t.held
  pub result_line : result_length ≤ vec_capacity t.result_line
  pub objects : List Object
  pub shows : TablesHave r t objects
