-- A call that came back: what its host has then.
use Rattle.std.proofs.Common.{◌≡◌, ℕ, ◌≤◌, ◌+◌, not, ◌&&◌, List, ◌++◌, length, Option, option_map, refl, sym, ap, ◌∙◌, subst, arith}
use Rattle.std.specs.Vec.{vec_capacity}
use Rattle.std.specs.List.{list_any}
use Rattle.vlt_io.specs.Outside.{Grew}
use Rattle.vlt_core.specs.View.{program_of}
use Rattle.vlt_core.specs.Core.{Ty, Func, Program}
use Rattle.vlt_core.specs.KindedHeads.{has, parameters_of}
use Rattle.vlt_heap.specs.Shown as heaps
use Rattle.vlt_heap.specs.Shown.{Holds, heap_of}
use Rattle.vlt_heap.specs.declared.slots.Slot.{Slot}
use Rattle.vlt_meaning.specs.World.{event_text, Object, World}
use Rattle.vlt_meaning.specs.Step.{with_objects}
use Rattle.vlt_acts.specs.Values.Shown.{ShowObjects}
use Rattle.vlt_steps.specs.Writing.{Outside}
use Rattle.vlt_interp.specs.Tasks.Sizes.{IsWide}
use Rattle.vlt_interp.specs.declared.tasks.task.Run.{Run}
use Rattle.vlt_host_acts.specs.declared.values.HostValue.{HostValue}
use Rattle.vlt_host_meaning.specs.HostFrame.{host_holds}
use Rattle.vlt_host_meaning.specs.HostClean.{held_numbers}
use Rattle.vlt_host_meaning.specs.Lines.{call_line, result_line}
use Rattle.vlt_host_meaning.specs.Permitted.{argument_bindings}
use Rattle.vlt_host_meaning.specs.OneCall.{came_back, end_of_body, held_by_host, host_calls}
use Rattle.vlt_host_meaning.specs.PastCalls.{IsLeftByCalls}
use Rattle.vlt_host_laws.specs.Promise.{ChangesByClause}
use Rattle.vlt_host_laws.specs.Results.{IsResult}
use Rattle.vlt_host_acts.specs.declared.permits.held.Held.{Held}
use Rattle.vlt_host_acts.specs.Permits.Held.{IsSound, numbers_in, room_in}
use Rattle.vlt_host_acts.specs.Permits.Numbers.{IsAscending}
use Rattle.vlt_host_acts.proofs.OfPermits.Holding.{held_has}
use Rattle.vlt_host_acts.specs.Clause.{takes_object}
use Rattle.vlt_host.specs.declared.machine.calling.Calling.{Calling}
use Rattle.vlt_host.specs.declared.machine.tables.Tables.{Tables}
use Rattle.vlt_host_acts.specs.Values.{value_of}
use Rattle.vlt_host.specs.Machine.Calling.{setup_for, func_in, args_in, HasLeftBody, HasFront}
use Rattle.vlt_host.specs.Machine.Room.{TablesHave, result_length}
use Rattle.vlt_host.specs.Machine.Settled.{with_slot, IsEmptied, IsSettled}
use Rattle.vlt_host.proofs.OfMachine.Allowed.{is_fit}
use Rattle.vlt_host.proofs.OfMachine.Back.{held_again, slot_numbers, few_numbers}
use Rattle.vlt_host.proofs.OfMachine.Making.{body_made, body_leaves}

module _ (c : Calling) (held : Held) (r : Run) (w : World) (h : HasLeftBody c held r w) where
  abbrev p : Program
  p = program_of c.program.now

  abbrev f : Func
  f = func_in c

  abbrev new : List Object
  new = held_by_host h.kept h.after.objects

  abbrev line : List ℕ
  line = call_line f.name (args_in c)

  came : host_calls (setup_for c) f (args_in c) w ≡ came_back (line ++ event_text h.after.events ++ result_line h.value) h.value (with_objects h.after new)
  came =
      body_made (setup_for c) f (args_in c) w h.some_fuel h.some_depth ∙
      (ap (end_of_body line) h.is ∙ body_leaves line h.value h.kept h.after)

  comes_back : ChangesByClause p f (args_in c) h.value w.objects new × IsLeftByCalls (setup_for c) new
  comes_back =
      (h.callable.takes.goes (setup_for c) w h.allowed.number f (args_in c) refl h.left_by h.allowed.at h.allowed.permitted).back
      (line ++ event_text h.after.events ++ result_line h.value) h.value (with_objects h.after new) came

  pub its_type : IsResult f.result h.value
  its_type = h.callable.results (setup_for c) w h.allowed.number f (args_in c) refl h.left_by h.allowed.at h.allowed.permitted h.value h.kept h.after h.is

  shown_new : ShowObjects h.items r.values.width new
  shown_new = held_again h.items r.values.width h.kept h.after.objects h.left.left.roots h.left.left.objects

  -- the table's numbers, once the object of the slot is added
  pub new_numbers : (tys : List Ty) → tys ≡ parameters_of f → (ns : List ℕ) → IsAscending ns →
      ((m : ℕ) → has ns m ≡ (has (numbers_in held) m && not (list_any (takes_object (argument_bindings tys (args_in c)) m) f.clause))) → (a : Option Slot) → HasFront h.items h.value a →
      with_slot a ns ≡ held_numbers new
  new_numbers tys same ns ascend is a front =
      slot_numbers p f (args_in c) h.value w.objects new (h.callable.keys h.allowed.number f h.allowed.at)
      (is_fit p h.allowed.number f (args_in c) w.objects h.allowed.permitted).result its_type comes_back.0 h.items ns ascend
      (λ m. is m ∙
      (ap (λ b. b && not (list_any (takes_object (argument_bindings tys (args_in c)) m) f.clause)) (ap (λ xs. has xs m) h.numbers ∙ held_has w.objects m) ∙
      ap (λ ts. host_holds w.objects m && not (list_any (takes_object (argument_bindings ts (args_in c)) m) f.clause)) same))
      a front

  pub room_for : (ns : List ℕ) → ns ≡ held_numbers new → (room : ℕ) → room_in held ≤ room → length ns ≤ room
  room_for ns is room more =
      let l = few_numbers r.heap h.items r.values.width new ns h.holds h.room.heap shown_new is in
      let b = h.budget in
      let k = h.held_room in
      omega (arith, l, b, k, more)

  pub settled : (t : Tables) → IsEmptied r t.start → IsSound t.held → numbers_in t.held ≡ held_numbers new → room_in held ≤ room_in t.held → result_length ≤ vec_capacity t.result_line →
      (before after : Outside) (x : Option HostValue) → Grew before.written after.written (result_line h.value) → before.faults ≤ after.faults → h.value ≡ option_map value_of x → IsSettled c held r w h before after t x
  settled t empty sound numbers room long before after x wrote counted value = record {
    wrote = wrote;
    counted = counted;
    value = value;
    ready = record {
      room = record {
        wide = subst (IsWide p) (sym empty.width) h.room.wide;
        sound = subst heaps.IsSound (sym empty.heap) h.room.heap;
        budget = subst (λ g. heap_of g ≡ c.budgets.heap) (sym empty.heap) h.budget;
        cells = record {
          few = h.room.fields;
          fields = λ n. let k = h.room.cells n in rw (empty.width, empty.heap) k;
        };
        table = empty.table;
        no_values = empty.no_values;
        values = record {
          parts = let k = h.room.values in rw (empty.width, empty.room) k;
          fields = λ n. let k = h.room.operands n in rw (empty.width, empty.room) k;
        };
        no_tasks = rw empty.tasks h.none_left;
        tasks = let k = h.room.tasks in rw empty.tasks k;
        line = let k = h.room.line in rw empty.line k;
      };
      held = sound;
      held_room = let k = h.held_room in omega (arith, k, room);
      result_line = long;
      objects = new;
      shows = shows;
    };
    shows = shows;
  }
    where
      shows : TablesHave (setup_for c) t new
      shows = record {
        shows = record {
          items = h.items;
          width = r.values.width;
          holds = subst (λ g. Holds g h.items) (sym empty.heap) h.holds;
          shown = shown_new;
          numbers = numbers;
        };
        wide = sym empty.width;
        left = comes_back.1;
      }
