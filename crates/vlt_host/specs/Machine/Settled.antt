-- What is left of a run whose body was left. This serves private contracts alone.
use Rattle.std.specs.Prelude.{◌≡◌, ◌≤◌, ℕ, List, length, Option, Some, option_map, Result, Ok, Err, vec_capacity}
use Rattle.vlt_io.specs.Outside.{Rose, Grew, GrewByPart}
use Rattle.vlt_heap.specs.declared.slots.Slot.{Slot}
use Rattle.vlt_heap.specs.declared.slots.Slot.TheVariants.{Object as ToObject}
use Rattle.vlt_meaning.specs.World.{Part, number, reference, owned, one, World}
use Rattle.vlt_acts.specs.Values.Shown.{IsTable}
use Rattle.vlt_steps.specs.declared.stop.Stop.{Stop}
use Rattle.vlt_steps.specs.declared.stop.Stop.TheVariants.{SinkFault}
use Rattle.vlt_steps.specs.Writing.{Outside}
use Rattle.vlt_interp.specs.declared.rooms.start.Start.{Start}
use Rattle.vlt_interp.specs.declared.tasks.task.Run.{Run}
use Rattle.vlt_host_acts.specs.declared.values.HostValue.{HostValue}
use Rattle.vlt_host_acts.specs.Values.{value_of}
use Rattle.vlt_host_meaning.specs.Lines.{result_line}
use Rattle.vlt_host_meaning.specs.OneCall.{held_by_host}
use Rattle.vlt_host_acts.specs.declared.permits.held.Held.{Held}
use Rattle.vlt_host_acts.specs.Permits.Numbers.{with_number}
use Rattle.vlt_host.specs.declared.machine.calling.Calling.{Calling}
use Rattle.vlt_host.specs.declared.machine.tables.Tables.{Tables}
use Rattle.vlt_host.specs.Machine.Calling.{setup_for, HasLeftBody}
use Rattle.vlt_host.specs.Machine.Room.{TablesHave, IsReady}

-- a part as the host gets it; it gets no part that owns its object
abbrev pub IsOfPart : Part → HostValue → Type 0
IsOfPart (number z) x = value_of x ≡ one (number z)
IsOfPart (reference n) x = value_of x ≡ one (reference n)
IsOfPart (owned n) x = Unit {0}

-- with the number of the object to which the slot goes
abbrev pub with_slot : Option Slot → List ℕ → List ℕ
with_slot (Some (ToObject o n)) ns = with_number n ns
with_slot a ns = ns

-- the tables of the run, without frames
pub record IsEmptied (r : Run) (s : Start) : Type 0 where
  pub heap : s.heap ≡ r.heap
  pub tasks : s.tasks ≡ r.tasks
  pub line : s.line ≡ r.host.line
  pub width : s.values.width ≡ r.values.width
  pub no_values : length s.values.slots.items ≡ 0
  pub table : IsTable s.values
  pub room : vec_capacity s.values.slots ≡ vec_capacity r.values.slots

-- the value is given, its line was written, and the tables are those for the next call
pub record IsSettled (c : Calling) (held : Held) (r : Run) (w : World) (h : HasLeftBody c held r w) (before after : Outside) (t : Tables) (x : Option HostValue) : Type 0 where
  pub wrote : Grew before.written after.written (result_line h.value)
  pub counted : before.faults ≤ after.faults
  pub value : h.value ≡ option_map value_of x
  pub ready : IsReady (setup_for c) t
  pub shows : TablesHave (setup_for c) t (held_by_host h.kept h.after.objects)

-- the sink took a part of the line
pub record IsCutOff (c : Calling) (held : Held) (r : Run) (w : World) (h : HasLeftBody c held r w) (before after : Outside) (stop : Stop) : Type 0 where
  pub fault : stop ≡ SinkFault
  pub grew : GrewByPart before.written after.written (result_line h.value)
  pub rose : Rose before.faults after.faults
  pub counted : before.faults ≤ after.faults

abbrev pub Settles : (c : Calling) → (held : Held) → (r : Run) → (w : World) → HasLeftBody c held r w → (before after : Outside) →
    Result (Tables × Option HostValue) Stop → Type 0
Settles c held r w h before after (Ok q) = IsSettled c held r w h before after q.0 q.1
Settles c held r w h before after (Err stop) = IsCutOff c held r w h before after stop
