use Rattle.std.proofs.Common.{◌≡◌, None, Some, refl, sym, arith, rules}
use Rattle.vlt_core.specs.View.{program_of}
use Rattle.vlt_numbers.specs.HostAnswers.{lists_of}
use Rattle.vlt_steps.specs.Writing.{Outside}
use Rattle.vlt_host_meaning.specs.Tables.{call_of, calls_in}
use Rattle.vlt_host.specs.Machine.Called.{stop_in}
use Rattle.vlt_host.proofs.OfRuns.Going.{few_calls, call_within, goes_first, goes_next, ends_bad, ends_in, ends_done, ends_cut}
use Rattle.vlt_host.proofs.runs.calls.run_calls.Goals as goal

pub loop-call-init : goal.loop-call-init
loop-call-init g c =
    goes_first _ _ _ _ _ c.requires.hosted (record { objects = c.requires.first; fuel = refl; input = refl; answers = refl; taken = refl })

pub overflow_cast-result : goal.overflow_cast-result
overflow_cast-result g c =
    let within = call_within (calls_in c.args.calls.now) c.loop-call.index (call_of c.in-Some.call) (sym c.in-Some.ensures) in
    let few = few_calls c.args.calls.now in
    omega (arith, within, few)

pub overflow_add-result : goal.overflow_add-result
overflow_add-result g c =
    let within = call_within (calls_in c.args.calls.now) c.loop-call.index (call_of c.in-Some.call) (sym c.in-Some.ensures) in
    let few = few_calls c.args.calls.now in
    omega (arith, within, few)

pub overflow_add-index : goal.overflow_add-index
overflow_add-index g c =
    let within = call_within (calls_in c.args.calls.now) c.loop-call.index (call_of c.in-Some.call) (sym c.in-Some.ensures) in
    let few = few_calls c.args.calls.now in
    omega (arith, within, few)

pub loop-call-smaller : goal.loop-call-smaller
loop-call-smaller g c =
    let within = call_within (calls_in c.args.calls.now) c.loop-call.index (call_of c.in-Some.call) (sym c.in-Some.ensures) in
    omega (arith, within)

pub returns-in-Refused-clause-stops : goal.returns-in-Refused-clause-stops
returns-in-Refused-clause-stops g c =
    let x = c.loop-call.invariant in
    let after : Outside = record { written = g.K.Sink.written c.make_call.new.sink; faults = g.K.Sink.faults c.make_call.new.sink } in
    ends_bad (program_of c.args.program.now) (calls_in c.args.calls.now) c.args.input.now (lists_of c.args.answers.now) c.loop-call.index c.args.machine.now c.loop-call.machine c.loop-call.supply
    _ _ x c.requires.program (call_of c.in-Some.call) after c.in-Some.ensures (c.in-Refused.ensures.makes x.stands.world x.stands.shows)

pub returns-in-Called-Ended-clause-stops : goal.returns-in-Called-Ended-clause-stops
returns-in-Called-Ended-clause-stops g c =
    let x = c.loop-call.invariant in
    let after : Outside = record { written = g.K.Sink.written c.make_call.new.sink; faults = g.K.Sink.faults c.make_call.new.sink } in
    let ended : stop_in c.in-Called-Ended.field-0 ≡ Some c.in-Called-Ended.stop = search rules in
    ends_in (program_of c.args.program.now) (calls_in c.args.calls.now) c.args.input.now (lists_of c.args.answers.now) c.loop-call.index c.args.machine.now c.loop-call.machine c.loop-call.supply
    _ _ x c.requires.program (call_of c.in-Some.call) c.make_call.new.machine c.make_call.new.supply after c.in-Called-Ended.field-0 c.in-Called-Ended.stop ended c.in-Some.ensures
    (c.in-Called-Ended.ensures.makes x.stands.world x.stands.shows)

pub loop-call-preserved : goal.loop-call-preserved
loop-call-preserved g c =
    let x = c.loop-call.invariant in
    let after : Outside = record { written = g.K.Sink.written c.make_call.new.sink; faults = g.K.Sink.faults c.make_call.new.sink } in
    let back : stop_in c.in-Called-Back.field-0 ≡ None = search rules in
    goes_next (calls_in c.args.calls.now) _ c.loop-call.index c.args.machine.now c.loop-call.machine c.loop-call.supply _ _ x
    (call_of c.in-Some.call) c.make_call.new.machine c.make_call.new.supply after c.in-Called-Back.field-0 back (sym c.in-Some.ensures) c.make_call.ensures.hosted c.make_call.ensures.setup
    (c.in-Called-Back.ensures.makes x.stands.world x.stands.shows)

pub returns-in-Ok-clause-stops : goal.returns-in-Ok-clause-stops
returns-in-Ok-clause-stops g c =
    let x = c.loop-call.invariant in
    let after : Outside = record { written = g.K.Sink.written c.write_held.new.sink; faults = g.K.Sink.faults c.write_held.new.sink } in
    ends_done (program_of c.args.program.now) (calls_in c.args.calls.now) c.args.input.now (lists_of c.args.answers.now) c.loop-call.index c.args.machine.now c.loop-call.machine c.loop-call.supply
    _ _ x c.requires.program after c.in_default.ensures (c.in-Ok.ensures.ok x.stands.world.objects x.stands.shows.objects) c.write_held.ensures.counted

pub returns-in-Err-clause-stops : goal.returns-in-Err-clause-stops
returns-in-Err-clause-stops g c =
    let x = c.loop-call.invariant in
    let after : Outside = record { written = g.K.Sink.written c.write_held.new.sink; faults = g.K.Sink.faults c.write_held.new.sink } in
    ends_cut (program_of c.args.program.now) (calls_in c.args.calls.now) c.args.input.now (lists_of c.args.answers.now) c.loop-call.index c.args.machine.now c.loop-call.machine c.loop-call.supply
    _ _ x c.requires.program after c.in_default.ensures (c.in-Err.ensures.part x.stands.world.objects x.stands.shows.objects) c.write_held.ensures.counted c.in-Err.ensures.failed
