use Rattle.std.proofs.Common.{◌≡◌, false, true, map, Some, None, sym, ap, ◌∙◌, rules}
use Rattle.vlt_core.specs.View.{func_of, program_of}
use Rattle.vlt_steps.specs.Writing.{Outside}
use Rattle.vlt_host_meaning.specs.Tables.{call_of}
use Rattle.vlt_host.specs.Machine.HostMachine.{program_in, setup_in}
use Rattle.vlt_host.proofs.OfRuns.Names.{named, named_there}
use Rattle.vlt_host.proofs.OfRuns.Progress.{is_refused, is_forbidden, is_called}
use Rattle.vlt_host.proofs.runs.calls.make_call.Goals as goal

pub returns-in_default-clause-makes : goal.returns-in_default-clause-makes
returns-in_default-clause-makes g c = λ w shows.
    let m = c.args.machine.now in
    let b : Outside = record { written = g.K.Sink.written c.args.sink.now; faults = g.K.Sink.faults c.args.sink.now } in
    is_refused (setup_in m) (call_of c.args.call) w b
    (named (program_in m) (program_of c.args.program.now) (map func_of c.as_slice.result.now) c.args.call.name.now None
    (ap (map func_of) c.as_slice.ensures) c.requires.program c.in_default.ensures)

pub returns-then-not-permitted-clause-makes : goal.returns-then-not-permitted-clause-makes
returns-then-not-permitted-clause-makes g c = λ w shows.
    let m = c.args.machine.now in
    let b : Outside = record { written = g.K.Sink.written c.args.sink.now; faults = g.K.Sink.faults c.args.sink.now } in
    let off : c.permitted.result ≡ false = search rules in
    is_forbidden (setup_in m) (call_of c.args.call) w b c.in-Some.f.0
    (named (program_in m) (program_of c.args.program.now) (map func_of c.as_slice.result.now) c.args.call.name.now (Some c.in-Some.f.0)
    (ap (map func_of) c.as_slice.ensures) c.requires.program c.in-Some.ensures)
    (sym (c.permitted.ensures w.objects shows.objects) ∙ off)

pub returns-clause-makes : goal.returns-clause-makes
returns-clause-makes g c = λ w shows.
    let m = c.args.machine.now in
    let before : Outside = record { written = g.K.Sink.written c.args.sink.now; faults = g.K.Sink.faults c.args.sink.now } in
    let after : Outside = record { written = g.K.Sink.written c.call.new.sink; faults = g.K.Sink.faults c.call.new.sink } in
    let on : c.permitted.result ≡ true = search rules in
    let is = named (program_in m) (program_of c.args.program.now) (map func_of c.as_slice.result.now) c.args.call.name.now (Some c.in-Some.f.0)
    (ap (map func_of) c.as_slice.ensures) c.requires.program c.in-Some.ensures in
    let there = named_there c.args.call.name.now (program_in m).fns c.in-Some.f.0 is in
    is_called (setup_in m) (call_of c.args.call) w before after c.call.new.self c.call.new.supply c.call.result c.in-Some.f.0 there.0 is there.1
    (sym (c.permitted.ensures w.objects shows.objects) ∙ on) (c.call.ensures.comes w there.0 shows there.1)
