use Rattle.std.proofs.Common.{◌∙◌, ◌&&◌, not, map, refl, sym, ap, subst, arith}
use Rattle.std.specs.List.{list_any}
use Rattle.vlt_io.specs.Outside.{Grew, GrewByPart}
use Rattle.vlt_core.specs.KindedHeads.{has}
use Rattle.vlt_core.specs.View.{func_of, entry_of}
use Rattle.vlt_host_meaning.specs.Lines.{result_line}
use Rattle.vlt_host_acts.specs.Permits.Arguments.{types_in, bindings_in}
use Rattle.vlt_host_acts.specs.Permits.Held.{numbers_in, room_in}
use Rattle.vlt_host_acts.specs.Clause.{takes_object}
use Rattle.vlt_host.specs.Machine.Settled.{with_slot}
use Rattle.vlt_host.proofs.OfMachine.Settled.{its_type, new_numbers, room_for, settled}
use Rattle.vlt_host.proofs.machine.settling.settle.Goals as goal

pub hold-requires-clause-room : goal.hold-requires-clause-room
hold-requires-clause-room g c =
    let w = c.requires.left.world in
    let h = c.requires.left.left in
    let front = c.front_of-front.ensures h.items h.of h.value h.kept h.after h.left.left (its_type c.args.call.now c.args.held c.args.run w h) in
    let numbers = numbers_in c.remove_taken.new.held in
    room_for c.args.call.now c.args.held c.args.run w h (with_slot c.front_of-front.result numbers)
    (new_numbers c.args.call.now c.args.held c.args.run w h (types_in c.parameters.result.now) c.parameters.ensures numbers c.remove_taken.ensures.sound.ascending
    (λ m. c.remove_taken.ensures.numbers m ∙ ap (λ es. has (numbers_in c.args.held) m && not (list_any (takes_object (bindings_in c.parameters.result.now c.args.call.now.args.now) m) (map entry_of es))) c.as_slice.ensures)
    c.front_of-front.result front)
    (room_in c.remove_taken.new.held) c.remove_taken.ensures.room

pub returns-in-Err : goal.returns-in-Err
returns-in-Err g c = λ w h.
    let front = c.front_of-front.ensures h.items h.of h.value h.kept h.after h.left.left (its_type c.args.call.now c.args.held c.args.run w h) in
    let val = c.given-value.ensures h.items (func_of c.args.call.now.func.now).result h.value (its_type c.args.call.now c.args.held c.args.run w h) front in
    record {
      fault = refl;
      grew = subst (λ v. GrewByPart (g.K.Sink.written c.args.sink.now) (g.K.Sink.written c.tell.new.sink) (result_line v)) (sym val) c.in-Err.ensures.part;
      rose = c.in-Err.ensures.failed;
      counted = c.in-Err.ensures.counted;
    }

pub returns : goal.returns
returns g c = λ w h.
    let front = c.front_of-front.ensures h.items h.of h.value h.kept h.after h.left.left (its_type c.args.call.now c.args.held c.args.run w h) in
    let val = c.given-value.ensures h.items (func_of c.args.call.now.func.now).result h.value (its_type c.args.call.now c.args.held c.args.run w h) front in
    let numbers = numbers_in c.remove_taken.new.held in
    let is =
    new_numbers c.args.call.now c.args.held c.args.run w h (types_in c.parameters.result.now) c.parameters.ensures numbers c.remove_taken.ensures.sound.ascending
    (λ m. c.remove_taken.ensures.numbers m ∙ ap (λ es. has (numbers_in c.args.held) m && not (list_any (takes_object (bindings_in c.parameters.result.now c.args.call.now.args.now) m) (map entry_of es))) c.as_slice.ensures)
    c.front_of-front.result front in
    settled c.args.call.now c.args.held c.args.run w h (record { start = c.emptied.result; held = c.hold.new.held; result_line = c.tell.new.line }) c.emptied.ensures c.hold.ensures.sound
    (c.hold.ensures.numbers ∙ is)
    (let a = c.remove_taken.ensures.room in let b = c.hold.ensures.room in omega (arith, a, b))
    (let a = c.in-Ok.ensures.room in let b = c.requires.room in omega (arith, a, b))
    (record { written = g.K.Sink.written c.args.sink.now; faults = g.K.Sink.faults c.args.sink.now })
    (record { written = g.K.Sink.written c.tell.new.sink; faults = g.K.Sink.faults c.tell.new.sink })
    c.given-value.result
    (subst (λ v. Grew (g.K.Sink.written c.args.sink.now) (g.K.Sink.written c.tell.new.sink) (result_line v)) (sym val) c.in-Ok.ensures.ok)
    c.in-Ok.ensures.counted val
