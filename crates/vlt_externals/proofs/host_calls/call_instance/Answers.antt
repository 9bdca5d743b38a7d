use Rattle.std.proofs.Common.{◌+◌, ◌-◌, ◌*◌, map, length, sym, ap, ◌∙◌, subst, arith}
use Rattle.vlt_io.specs.Outside.{Grew, GrewByPart}
use Rattle.vlt_core.specs.Instances.{instance}
use Rattle.vlt_core.specs.View.{program_of, func_of, entry_of, keys_of}
use Rattle.vlt_externals.specs.Told.{TellsCall}
use Rattle.vlt_externals.specs.Sent.{CanTake, Takes}
use Rattle.vlt_externals.specs.HostCalls.Heeded.{Heeds}
use Rattle.vlt_externals.proofs.OfHostCalls.Instances.{take_for, takes_for}
use Rattle.vlt_externals.proofs.OfHostCalls.Calling.{vars_before, args_end, can_take, can_hand, cut_off, no_answer, halts, goes_on, cut_below, all_below}
use Rattle.vlt_externals.proofs.host_calls.call_instance.Goals as goal

pub returns-in-Err-clause-calls : goal.returns-in-Err-clause-calls
returns-in-Err-clause-calls g c =
    cut_off (program_of c.args.program.now) (instance (program_of c.args.program.now) (func_of c.args.g.now) c.args.origin) c.args.target (keys_of c.args.keys.now) c.args.heap.now c.args.values.now c.args.host.now (record { written = g.K.Sink.written c.args.sink.now; faults = g.K.Sink.faults c.args.sink.now }) (record { written = g.K.Sink.written c.write.new.self; faults = g.K.Sink.faults c.write.new.self }) (c.len.result - c.args.g.now.params * c.width.result)
    (ap (λ k. k - c.args.g.now.params * c.width.result) c.len.ensures ∙ ap (λ w. length c.args.values.now.slots.items - c.args.g.now.params * w) c.width.ensures)
    c.call_line.new.line.items (subst (λ n. TellsCall n c.args.values.now (c.len.result - c.args.g.now.params * c.width.result) c.args.g.now.params c.call_line.new.line.items) c.as_slice.ensures c.call_line.ensures.told) c.args.heap.now c.args.values.now (record c.args.host.now { line = c.call_line.new.line })
    (subst (GrewByPart (g.K.Sink.written c.args.sink.now) (g.K.Sink.written c.write.new.self)) c.deref.ensures.value c.in-Err.ensures.part) c.in-Err.ensures.failed c.in-Err.ensures.counted

pub returns-in_default-clause-calls : goal.returns-in_default-clause-calls
returns-in_default-clause-calls g c =
    no_answer (program_of c.args.program.now) (instance (program_of c.args.program.now) (func_of c.args.g.now) c.args.origin) c.args.target (keys_of c.args.keys.now) c.args.heap.now c.args.values.now c.args.host.now (record { written = g.K.Sink.written c.args.sink.now; faults = g.K.Sink.faults c.args.sink.now }) (record { written = g.K.Sink.written c.write.new.self; faults = g.K.Sink.faults c.write.new.self }) (c.len.result - c.args.g.now.params * c.width.result)
    (ap (λ k. k - c.args.g.now.params * c.width.result) c.len.ensures ∙ ap (λ w. length c.args.values.now.slots.items - c.args.g.now.params * w) c.width.ensures)
    c.call_line.new.line.items (subst (λ n. TellsCall n c.args.values.now (c.len.result - c.args.g.now.params * c.width.result) c.args.g.now.params c.call_line.new.line.items) c.as_slice.ensures c.call_line.ensures.told)
    (subst (Grew (g.K.Sink.written c.args.sink.now) (g.K.Sink.written c.write.new.self)) c.deref.ensures.value c.in-Ok.ensures.ok) c.in-Ok.ensures.counted c.args.heap.now c.args.values.now c.take_answer.new.host c.in_default.ensures.0

pub send_taken-requires-clause-can : goal.send_taken-requires-clause-can
send_taken-requires-clause-can g c =
    subst (λ es. CanTake c.args.heap.now c.args.values.now (keys_of c.args.keys.now) (map entry_of es)) (sym c.as_slice-2.ensures)
    (take_for (program_of c.args.program.now) (func_of c.args.g.now) c.args.origin (keys_of c.args.keys.now) (func_of c.args.g.now).clause c.args.values.now c.args.heap.now
    (can_take (program_of c.args.program.now) (instance (program_of c.args.program.now) (func_of c.args.g.now) c.args.origin) c.args.target (keys_of c.args.keys.now) c.args.heap.now c.args.values.now c.args.host.now c.requires.can c.in-Some.answer.now c.in-Some.ensures.0 c.requires.lists))

pub send_owned-requires-clause-can : goal.send_owned-requires-clause-can
send_owned-requires-clause-can g c =
    can_hand (program_of c.args.program.now) (instance (program_of c.args.program.now) (func_of c.args.g.now) c.args.origin) c.args.target (keys_of c.args.keys.now) c.args.heap.now c.args.values.now c.args.host.now c.requires.can c.in-Some.answer.now c.in-Some.ensures.0 c.requires.lists c.send_taken.new.heap (c.len.result - c.args.g.now.params * c.width.result)
    (ap (λ k. k - c.args.g.now.params * c.width.result) c.len.ensures ∙ ap (λ w. length c.args.values.now.slots.items - c.args.g.now.params * w) c.width.ensures) (takes_for (program_of c.args.program.now) (func_of c.args.g.now) c.args.origin (keys_of c.args.keys.now) (func_of c.args.g.now).clause c.args.values.now c.args.heap.now c.send_taken.new.heap (subst (λ es. Takes (keys_of c.args.keys.now) (map entry_of es) c.args.values.now c.args.heap.now c.send_taken.new.heap) c.as_slice-2.ensures c.send_taken.ensures.takes))

pub returns-in-Err-heed-clause-calls : goal.returns-in-Err-heed-clause-calls
returns-in-Err-heed-clause-calls g c =
    halts (program_of c.args.program.now) (instance (program_of c.args.program.now) (func_of c.args.g.now) c.args.origin) c.args.target (keys_of c.args.keys.now) c.args.heap.now c.args.values.now c.args.host.now (record { written = g.K.Sink.written c.args.sink.now; faults = g.K.Sink.faults c.args.sink.now }) (record { written = g.K.Sink.written c.write.new.self; faults = g.K.Sink.faults c.write.new.self }) (c.len.result - c.args.g.now.params * c.width.result)
    (ap (λ k. k - c.args.g.now.params * c.width.result) c.len.ensures ∙ ap (λ w. length c.args.values.now.slots.items - c.args.g.now.params * w) c.width.ensures)
    c.call_line.new.line.items (subst (λ n. TellsCall n c.args.values.now (c.len.result - c.args.g.now.params * c.width.result) c.args.g.now.params c.call_line.new.line.items) c.as_slice.ensures c.call_line.ensures.told)
    (subst (Grew (g.K.Sink.written c.args.sink.now) (g.K.Sink.written c.write.new.self)) c.deref.ensures.value c.in-Ok.ensures.ok) c.in-Ok.ensures.counted
    c.requires.lists c.send_taken.new.heap c.send_owned.new.heap c.heed.new.heap c.truncate.new.self c.heed.new.values c.take_answer.new.host c.in-Some.answer.now c.in-Some.ensures.0
    (takes_for (program_of c.args.program.now) (func_of c.args.g.now) c.args.origin (keys_of c.args.keys.now) (func_of c.args.g.now).clause c.args.values.now c.args.heap.now c.send_taken.new.heap (subst (λ es. Takes (keys_of c.args.keys.now) (map entry_of es) c.args.values.now c.args.heap.now c.send_taken.new.heap) c.as_slice-2.ensures c.send_taken.ensures.takes)) c.send_owned.ensures.hands c.truncate.ensures.cut (c.send_owned.ensures.size.heap ∙ c.send_taken.ensures.size.heap) c.in-Err-heed.stop
    (subst (Heeds (program_of c.args.program.now) (instance (program_of c.args.program.now) (func_of c.args.g.now) c.args.origin) (keys_of c.args.keys.now) (c.args.host.now.taken + 1) c.in-Some.answer.now c.truncate.new.self c.heed.new.values c.send_owned.new.heap c.heed.new.heap) c.in-Err-heed.is
    (subst (λ n. Heeds (program_of c.args.program.now) (instance (program_of c.args.program.now) (func_of c.args.g.now) c.args.origin) (keys_of c.args.keys.now) n c.in-Some.answer.now c.truncate.new.self c.heed.new.values c.send_owned.new.heap c.heed.new.heap c.heed.result) (ap (λ q. q.taken) c.in-Some.ensures.1) c.heed.ensures.heeds))

pub returns-in-Err-heed-clause-same : goal.returns-in-Err-heed-clause-same
returns-in-Err-heed-clause-same g c =
    cut_below c.args.values.now c.truncate.new.self c.heed.new.values (c.len.result - c.args.g.now.params * c.width.result)
    (let l = vars_before (program_of c.args.program.now) (instance (program_of c.args.program.now) (func_of c.args.g.now) c.args.origin) (keys_of c.args.keys.now) c.args.heap.now c.args.values.now c.args.host.now c.requires.can.seen c.requires.can.world c.requires.can.args c.requires.can.call (c.len.result - c.args.g.now.params * c.width.result) (ap (λ k. k - c.args.g.now.params * c.width.result) c.len.ensures ∙ ap (λ w. length c.args.values.now.slots.items - c.args.g.now.params * w) c.width.ensures) in omega (arith, l))
    c.truncate.ensures.cut c.truncate.ensures.room c.heed.ensures.same

pub returns-in-Ok-heed-clause-same : goal.returns-in-Ok-heed-clause-same
returns-in-Ok-heed-clause-same g c =
    all_below c.args.values.now c.heed.new.values c.deliver.new.values c.truncate-in-Ok-heed.new.self (c.len.result - c.args.g.now.params * c.width.result)
    (let l = vars_before (program_of c.args.program.now) (instance (program_of c.args.program.now) (func_of c.args.g.now) c.args.origin) (keys_of c.args.keys.now) c.args.heap.now c.args.values.now c.args.host.now c.requires.can.seen c.requires.can.world c.requires.can.args c.requires.can.call (c.len.result - c.args.g.now.params * c.width.result) (ap (λ k. k - c.args.g.now.params * c.width.result) c.len.ensures ∙ ap (λ w. length c.args.values.now.slots.items - c.args.g.now.params * w) c.width.ensures) in omega (arith, l))
    (cut_below c.args.values.now c.truncate.new.self c.heed.new.values (c.len.result - c.args.g.now.params * c.width.result)
    (let l = vars_before (program_of c.args.program.now) (instance (program_of c.args.program.now) (func_of c.args.g.now) c.args.origin) (keys_of c.args.keys.now) c.args.heap.now c.args.values.now c.args.host.now c.requires.can.seen c.requires.can.world c.requires.can.args c.requires.can.call (c.len.result - c.args.g.now.params * c.width.result) (ap (λ k. k - c.args.g.now.params * c.width.result) c.len.ensures ∙ ap (λ w. length c.args.values.now.slots.items - c.args.g.now.params * w) c.width.ensures) in omega (arith, l))
    c.truncate.ensures.cut c.truncate.ensures.room c.heed.ensures.same)
    c.deliver.ensures.same c.truncate-in-Ok-heed.ensures.cut c.truncate-in-Ok-heed.ensures.room

pub returns-in-Ok-heed-clause-long : goal.returns-in-Ok-heed-clause-long
returns-in-Ok-heed-clause-long g c =
    let l = c.truncate-in-Ok-heed.ensures.cut.long in
    let e = args_end (program_of c.args.program.now) (instance (program_of c.args.program.now) (func_of c.args.g.now) c.args.origin) (keys_of c.args.keys.now) c.args.heap.now c.args.values.now c.args.host.now c.requires.can.seen c.requires.can.world c.requires.can.args c.requires.can.call (c.len.result - c.args.g.now.params * c.width.result) (ap (λ k. k - c.args.g.now.params * c.width.result) c.len.ensures ∙ ap (λ w. length c.args.values.now.slots.items - c.args.g.now.params * w) c.width.ensures) in
    ap (λ n. n + c.args.g.now.params * c.args.values.now.width) l ∙ e

pub returns-in-Ok-heed-clause-calls : goal.returns-in-Ok-heed-clause-calls
returns-in-Ok-heed-clause-calls g c =
    goes_on (program_of c.args.program.now) (instance (program_of c.args.program.now) (func_of c.args.g.now) c.args.origin) c.args.target (keys_of c.args.keys.now) c.args.heap.now c.args.values.now c.args.host.now (record { written = g.K.Sink.written c.args.sink.now; faults = g.K.Sink.faults c.args.sink.now }) (record { written = g.K.Sink.written c.write.new.self; faults = g.K.Sink.faults c.write.new.self }) (c.len.result - c.args.g.now.params * c.width.result)
    (ap (λ k. k - c.args.g.now.params * c.width.result) c.len.ensures ∙ ap (λ w. length c.args.values.now.slots.items - c.args.g.now.params * w) c.width.ensures)
    c.call_line.new.line.items (subst (λ n. TellsCall n c.args.values.now (c.len.result - c.args.g.now.params * c.width.result) c.args.g.now.params c.call_line.new.line.items) c.as_slice.ensures c.call_line.ensures.told)
    (subst (Grew (g.K.Sink.written c.args.sink.now) (g.K.Sink.written c.write.new.self)) c.deref.ensures.value c.in-Ok.ensures.ok) c.in-Ok.ensures.counted
    c.requires.lists c.send_taken.new.heap c.send_owned.new.heap c.heed.new.heap c.truncate.new.self c.heed.new.values c.take_answer.new.host c.in-Some.answer.now c.in-Some.ensures.0
    (takes_for (program_of c.args.program.now) (func_of c.args.g.now) c.args.origin (keys_of c.args.keys.now) (func_of c.args.g.now).clause c.args.values.now c.args.heap.now c.send_taken.new.heap (subst (λ es. Takes (keys_of c.args.keys.now) (map entry_of es) c.args.values.now c.args.heap.now c.send_taken.new.heap) c.as_slice-2.ensures c.send_taken.ensures.takes)) c.send_owned.ensures.hands c.truncate.ensures.cut (c.send_owned.ensures.size.heap ∙ c.send_taken.ensures.size.heap) c.deliver.new.values c.truncate-in-Ok-heed.new.self c.requires.target
    (ap (λ q. q.input.now) c.in-Some.ensures.1) (ap (λ q. q.answers.now) c.in-Some.ensures.1) (ap (λ q. q.taken) c.in-Some.ensures.1) c.heed.ensures.same c.in-Ok-heed.ensures.long c.deliver.ensures.same c.deliver.ensures.delivered c.truncate-in-Ok-heed.ensures.cut
    (subst (Heeds (program_of c.args.program.now) (instance (program_of c.args.program.now) (func_of c.args.g.now) c.args.origin) (keys_of c.args.keys.now) (c.args.host.now.taken + 1) c.in-Some.answer.now c.truncate.new.self c.heed.new.values c.send_owned.new.heap c.heed.new.heap) c.in-Ok-heed.is
    (subst (λ n. Heeds (program_of c.args.program.now) (instance (program_of c.args.program.now) (func_of c.args.g.now) c.args.origin) (keys_of c.args.keys.now) n c.in-Some.answer.now c.truncate.new.self c.heed.new.values c.send_owned.new.heap c.heed.new.heap c.heed.result) (ap (λ q. q.taken) c.in-Some.ensures.1) c.heed.ensures.heeds))
