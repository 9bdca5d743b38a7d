-- A machine before and after a call.
use Rattle.std.proofs.Common.{◌≡◌, ℕ, ◌≤◌, true, false, List, [], drop, Option, Some, None, refl, sym, ◌∙◌, subst, slice_get}
use Rattle.vlt_numbers.specs.HostAnswers.{lists_of}
use Rattle.vlt_core.specs.View.{program_of}
use Rattle.vlt_meaning.specs.World.{World, Object}
use Rattle.vlt_meaning.specs.Run.{Setup}
use Rattle.vlt_steps.specs.declared.stop.Stop.{Stop}
use Rattle.vlt_steps.specs.Writing.{Outside}
use Rattle.vlt_host_acts.specs.declared.values.HostValue.{HostValue}
use Rattle.vlt_host_meaning.specs.Calls.{Argument}
use Rattle.vlt_host_meaning.specs.OneCall.{CallEnd, came_back, stopped}
use Rattle.vlt_host.specs.declared.machine.called.Supply.{Supply}
use Rattle.vlt_host.specs.declared.machine.calling.Calling.{Calling}
use Rattle.vlt_host.specs.declared.machine.host_machine.HostMachine.{HostMachine}
use Rattle.vlt_host.specs.declared.machine.tables.Tables.{Tables}
use Rattle.vlt_host.specs.Machine.Callable.{IsCallable, may_call}
use Rattle.vlt_host.specs.Machine.Called.{EndsIn, ComesBack}
use Rattle.vlt_host.specs.Machine.Calling.{setup_for, func_in, args_in, CanMake, ShowsNow}
use Rattle.vlt_host.specs.Machine.HostMachine.{setup_in, HaveObjects, ShowsWorld}
use Rattle.vlt_host.specs.Machine.Made.{IsMade}
use Rattle.vlt_host.specs.Machine.Room.{TablesHave, IsReady}
use Rattle.vlt_host.proofs.OfMachine.Between.{may_call_it, may_call_none}

-- what came back is ready for the next call
pub made_ready : (c : Calling) (e : CallEnd) (before after : Outside) (fuel : ℕ) (s : Supply) (t : Tables) (x : Option HostValue) → IsMade c e before after fuel s t x → IsReady (setup_for c) t
made_ready c (came_back text a w) before after fuel s t x h = h.ready
made_ready c (stopped text o w) before after fuel s t x h = absurd h

pub made_counted : (c : Calling) (e : CallEnd) (before after : Outside) (fuel : ℕ) (s : Supply) (t : Tables) (x : Option HostValue) → IsMade c e before after fuel s t x → before.faults ≤ after.faults
made_counted c (came_back text a w) before after fuel s t x h = h.counted
made_counted c (stopped text o w) before after fuel s t x h = absurd h

pub ends_counted : (e : CallEnd) (before after : Outside) (left : ℕ) (stop : Stop) → EndsIn e before after left stop → before.faults ≤ after.faults
ends_counted (came_back text a w) before after left stop h = h.counted
ends_counted (stopped text o w) before after left stop h = h.counted

pub made_back : (c : Calling) (e : CallEnd) (before after : Outside) (s : Supply) (t : Tables) (x : Option HostValue) (m : HostMachine) → m.tables ≡ Some t → setup_in m ≡ setup_for c → IsMade c e before after m.fuel s t x → ComesBack e before after m s x
made_back c (came_back text a w) before after s t x m is same h = record {
  wrote = h.wrote;
  counted = h.counted;
  value = h.value;
  shows = record {
    objects = subst (λ o. HaveObjects (setup_in m) o w.objects) (sym is) (subst (λ r. TablesHave r t w.objects) (sym same) h.shows.objects);
    fuel = h.shows.fuel;
    input = h.shows.input;
    answers = h.shows.answers;
    taken = h.shows.taken;
  };
}
made_back c (stopped text o w) before after s t x m is same h = absurd h

-- ---- before it

-- a permitted call can be made
pub can_make : (c : Calling) (t : Tables) (number : ℕ) → IsCallable (program_of c.program.now) → IsReady (setup_for c) t → slice_get (program_of c.program.now).fns number ≡ Some (func_in c) →
    ((objects : List Object) → TablesHave (setup_for c) t objects → may_call (program_of c.program.now) number (args_in c) objects ≡ true) → CanMake c t
can_make c t number callable ready at permitted = record {
  begin = record {
    callable = callable;
    room = ready.room;
    sound = ready.held;
    objects = ready.objects;
    shows = ready.shows;
    allowed = λ objects h. record {
      number = number;
      at = at;
      permitted = sym (may_call_it (program_of c.program.now) number (func_in c) (args_in c) objects at) ∙ permitted objects h;
    };
  };
  held_room = ready.held_room;
  result_line = ready.result_line;
}

-- the function of a permitted call is there
pub no_such : (r : Setup) (t : Tables) (number : ℕ) (args : List Argument) → IsReady r t → ((objects : List Object) → TablesHave r t objects → may_call r.program number args objects ≡ true) → slice_get r.program.fns number ≡ None → ⊥
no_such r t number args ready permitted none = clash (sym (may_call_none r.program number args ready.objects none) ∙ permitted ready.objects ready.shows)
  where
    clash : false ≡ true → ⊥
    clash e = cc

-- the world between calls, as the call finds it
pub shows_now : (c : Calling) (m : HostMachine) (t : Tables) (s : Supply) (w : World) → m.tables ≡ Some t → setup_in m ≡ setup_for c → ShowsWorld m s w → ShowsNow c t.start.heap t.held t.start.values.width m.fuel s w
shows_now c m t s w is same h = record {
  objects = subst (λ r. TablesHave r t w.objects) same (subst (λ o. HaveObjects (setup_in m) o w.objects) is h.objects);
  fuel = h.fuel;
  input = h.input;
  answers = h.answers;
  taken = h.taken;
}

abbrev pub first_world : (objects : List Object) → (fuel : ℕ) → Supply → World
first_world objects fuel s = record { objects = objects; fuel = fuel; input = s.input.now; answers = drop s.taken (lists_of s.answers.now); taken = s.taken; events = [] }

pub shows_first : (c : Calling) (t : Tables) (fuel : ℕ) (s : Supply) → (ready : IsReady (setup_for c) t) → ShowsNow c t.start.heap t.held t.start.values.width fuel s (first_world ready.objects fuel s)
shows_first c t fuel s ready = record { objects = ready.shows; fuel = refl; input = refl; answers = refl; taken = refl }
