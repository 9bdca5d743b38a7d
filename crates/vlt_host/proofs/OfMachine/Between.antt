-- What stands in the tables between calls.
use Rattle.std.proofs.Common.{◌≡◌, ℕ, ◌≤◌, false, [], List, Option, Some, None, refl, sym, ap, ◌∙◌, subst, arith, slice_get}
use Rattle.std.specs.Vec.{vec_capacity}
use Rattle.std.specs.Option.{option_map}
use Rattle.std.proofs.lemmas.Option.{none-some, slice_get-map}
use Rattle.vlt_base.specs.declared.Budgets.{Budgets}
use Rattle.vlt_core.specs.declared.program.Program.{Program as CodeProgram}
use Rattle.vlt_core.specs.declared.program.Func.{Func as CodeFunc}
use Rattle.vlt_core.specs.View.{func_of, program_of}
use Rattle.vlt_core.specs.Core.{Func, Program}
use Rattle.vlt_meaning.specs.World.{Object}
use Rattle.vlt_meaning.specs.Run.{Setup}
use Rattle.vlt_heap.specs.Shown as heaps
use Rattle.vlt_heap.specs.Shown.{heap_of}
use Rattle.vlt_interp.specs.Rooms.Start.{IsSet}
use Rattle.vlt_host_acts.specs.declared.permits.hosted.Hosted.{Hosted}
use Rattle.vlt_host_acts.specs.Permits.Held.{IsSound, numbers_in, room_in}
use Rattle.vlt_host_acts.specs.Permits.Hosted.{ShowsHeld, ShowsHosted, IsHosted}
use Rattle.vlt_host_meaning.specs.Calls.{Argument}
use Rattle.vlt_host_meaning.specs.Permitted.{is_permitted}
use Rattle.vlt_host.specs.declared.machine.tables.Tables.{Tables}
use Rattle.vlt_host.specs.Machine.Callable.{may_call_in, may_call}
use Rattle.vlt_host.specs.Machine.HostMachine.{HaveObjects}
use Rattle.vlt_host.specs.Machine.Room.{TablesHave, IsReady, result_length}

module _ (p : Program) (b : Budgets) (t : Tables) (set : IsSet p b t.start) (sound : IsSound t.held) (empty : numbers_in t.held ≡ []) (room : room_in t.held ≡ b.heap) (long : result_length ≤ vec_capacity t.result_line) where
  abbrev r : Setup
  r = record { program = p; heap = b.heap; depth = b.depth }

  -- before the first call
  pub first_objects : TablesHave r t []
  first_objects = record {
    shows = record {
      items = [];
      width = t.start.values.width;
      holds = set.no_objects;
      shown = record { long = refl; each = λ n x o at. absurd (none-some x at) };
      numbers = empty;
    };
    wide = refl;
    left = record { calls = []; are = refl };
  }

  pub first_ready : IsReady r t
  first_ready = record {
    room = record {
      wide = set.wide;
      sound = set.heap;
      budget = set.budget;
      cells = set.cells;
      table = set.table;
      no_values = set.no_values;
      values = set.values;
      no_tasks = set.no_tasks;
      tasks = set.tasks;
      line = set.line;
    };
    held = sound;
    held_room = omega (arith, room);
    result_line = long;
    objects = [];
    shows = first_objects;
  }

-- what calls are tested over
pub hosted_shows : (h : Hosted) (r : Setup) (t : Tables) (objects : List Object) → h.heap.now ≡ t.start.heap → h.held.now ≡ t.held → TablesHave r t objects →
    ShowsHosted h objects
hosted_shows h r t objects heap held has =
    subst (λ g. ShowsHeld g h.held.now objects) (sym heap) (subst (λ g. ShowsHeld t.start.heap g objects) (sym held) has.shows)

pub hosted_ready : (h : Hosted) (r : Setup) (t : Tables) → h.heap.now ≡ t.start.heap → h.held.now ≡ t.held → h.places ≡ r.heap → IsReady r t → IsHosted h
hosted_ready h r t heap held places ready = record {
  heap = subst heaps.IsSound (sym heap) ready.room.sound;
  held = subst IsSound (sym held) ready.held;
  places = let b : heap_of h.heap.now ≡ r.heap = subst (λ g. heap_of g ≡ r.heap) (sym heap) ready.room.budget in omega (arith, b, places);
  objects = ready.objects;
  shown = hosted_shows h r t ready.objects heap held ready.shows;
}

-- a function of the program, where the code finds it
pub found_func : (p : CodeProgram) (i : ℕ) (o : Option CodeFunc) → o ≡ slice_get p.fns i → slice_get (program_of p).fns i ≡ option_map func_of o
found_func p i o e = slice_get-map func_of p.fns i ∙ ap (option_map func_of) (sym e)

pub may_call_it : (p : Program) (i : ℕ) (f : Func) (args : List Argument) (objects : List Object) → slice_get p.fns i ≡ Some f → may_call p i args objects ≡ is_permitted p i f args objects
may_call_it p i f args objects at = ap (λ o. may_call_in p i o args objects) at

pub may_call_none : (p : Program) (i : ℕ) (args : List Argument) (objects : List Object) → slice_get p.fns i ≡ None → may_call p i args objects ≡ false
may_call_none p i args objects at = ap (λ o. may_call_in p i o args objects) at

-- a machine that was stopped shows nothing
pub none_shown : (r : Setup) (o : Option Tables) (objects : List Object) → o ≡ None → HaveObjects r o objects → ⊥
none_shown r o objects is h = subst (λ x. HaveObjects r x objects) is h
