-- What a call comes to in the tables. This serves private contracts alone.
use Rattle.std.specs.Prelude.{◌≡◌, ◌≤◌, ◌<◌, ◌-◌, ℕ, List, Option, None, Some, option_map, Result, Ok, Err}
use Rattle.vlt_io.specs.Outside.{Grew}
use Rattle.vlt_meaning.specs.World.{Value, World}
use Rattle.vlt_steps.specs.declared.stop.Stop.{Stop}
use Rattle.vlt_steps.specs.Writing.{Outside}
use Rattle.vlt_host_acts.specs.declared.values.HostValue.{HostValue}
use Rattle.vlt_host_acts.specs.Values.{value_of}
use Rattle.vlt_host_meaning.specs.Lines.{call_line}
use Rattle.vlt_host_meaning.specs.OneCall.{CallEnd, came_back, stopped, host_calls}
use Rattle.vlt_host.specs.declared.machine.called.Supply.{Supply}
use Rattle.vlt_host.specs.declared.machine.calling.Calling.{Calling}
use Rattle.vlt_host.specs.declared.machine.tables.Tables.{Tables}
use Rattle.vlt_host.specs.Machine.Called.{EndsIn}
use Rattle.vlt_host.specs.Machine.Calling.{setup_for, func_in, args_in, ShowsNow}
use Rattle.vlt_host.specs.Machine.Room.{IsReady}

-- ---- before the body

-- a unit of fuel was spent, the line was written, and there is a frame for the body
pub record HasAnnounced (c : Calling) (fuel : ℕ) (before after : Outside) (left : ℕ) : Type 0 where
  pub some : 0 < fuel
  pub left_is : left ≡ fuel - 1
  pub deep : 1 ≤ c.budgets.depth
  pub wrote : Grew before.written after.written (call_line (func_in c).name (args_in c))
  pub counted : before.faults ≤ after.faults

-- or the call ends before its body
abbrev pub Announced : Calling → (fuel : ℕ) → (before after : Outside) → (left : ℕ) → Option Stop → Type 0
Announced c fuel before after left None = HasAnnounced c fuel before after left
Announced c fuel before after left (Some stop) =
    (w : World) → w.fuel ≡ fuel → EndsIn (host_calls (setup_for c) (func_in c) (args_in c) w) before after left stop

-- ---- the whole call

-- it came back, with tables for the next one
pub record HasMade (c : Calling) (text : List ℕ) (a : Option Value) (w : World) (before after : Outside) (fuel : ℕ) (s : Supply) (t : Tables) (x : Option HostValue) : Type 0 where
  pub wrote : Grew before.written after.written text
  pub counted : before.faults ≤ after.faults
  pub value : a ≡ option_map value_of x
  pub ready : IsReady (setup_for c) t
  pub shows : ShowsNow c t.start.heap t.held t.start.values.width fuel s w

abbrev pub IsMade : Calling → CallEnd → (before after : Outside) → (fuel : ℕ) → Supply → Tables → Option HostValue → Type 0
IsMade c (came_back text a w) before after fuel s t x = HasMade c text a w before after fuel s t x
IsMade c (stopped text o w) before after fuel s t x = ⊥

abbrev pub Made : Calling → CallEnd → (before after : Outside) → (fuel : ℕ) → Supply → Result (Tables × Option HostValue) Stop → Type 0
Made c e before after fuel s (Ok q) = IsMade c e before after fuel s q.0 q.1
Made c e before after fuel s (Err stop) = EndsIn e before after fuel stop
