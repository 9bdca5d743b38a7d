use Rattle.std.proofs.Common.{◌≡◌, ◌∙◌, [], None, Some, refl, arith}
use Rattle.vlt_steps.specs.Writing.{Outside}
use Rattle.vlt_interp.specs.Tasks.Shown.{tasks_left}
use Rattle.vlt_interp.proofs.Running.{can_move, goes_on, ends_so, same_heap, some_left, none_left, come_so}
use Rattle.vlt_interp.proofs.run.finish.Goals as goal

pub loop-run-init : goal.loop-run-init
loop-run-init g c = record { heap = refl; running = λ goal w r. r (record { written = g.K.Sink.written c.args.sink.now; faults = g.K.Sink.faults c.args.sink.now }) }

pub step-requires : goal.step-requires
step-requires g c =
    let before : Outside = record { written = g.K.Sink.written c.args.sink.now; faults = g.K.Sink.faults c.args.sink.now } in
    let here : Outside = record { written = g.K.Sink.written c.loop-run.sink; faults = g.K.Sink.faults c.loop-run.sink } in
    let h = c.requires.goal in
    record { can = can_move c.args.rules.now h.goal h.world before here here c.loop-run.run c.loop-run.run (c.loop-run.invariant.running h.goal h.world h.running) }

pub loop-run-preserved : goal.loop-run-preserved
loop-run-preserved g c =
    let before : Outside = record { written = g.K.Sink.written c.args.sink.now; faults = g.K.Sink.faults c.args.sink.now } in
    let here : Outside = record { written = g.K.Sink.written c.loop-run.sink; faults = g.K.Sink.faults c.loop-run.sink } in
    let there : Outside = record { written = g.K.Sink.written c.step.new.sink; faults = g.K.Sink.faults c.step.new.sink } in
    record {
      heap = same_heap c.args.rules.now here there c.loop-run.run c.step.new.run None (some_left c.loop-run.run (omega (arith, c.loop-run-test.true))) c.in_default.ensures ∙ c.loop-run.invariant.heap;
      running = λ goal w r. (goes_on c.args.rules.now goal w before here there c.loop-run.run c.step.new.run (c.loop-run.invariant.running goal w r) c.in_default.ensures).goes;
    }

pub loop-run-smaller : goal.loop-run-smaller
loop-run-smaller g c =
    let before : Outside = record { written = g.K.Sink.written c.args.sink.now; faults = g.K.Sink.faults c.args.sink.now } in
    let here : Outside = record { written = g.K.Sink.written c.loop-run.sink; faults = g.K.Sink.faults c.loop-run.sink } in
    let there : Outside = record { written = g.K.Sink.written c.step.new.sink; faults = g.K.Sink.faults c.step.new.sink } in
    let h = c.requires.goal in
    (goes_on c.args.rules.now h.goal h.world before here there c.loop-run.run c.step.new.run (c.loop-run.invariant.running h.goal h.world h.running) c.in_default.ensures).falls

pub returns-in-Some : goal.returns-in-Some
returns-in-Some g c =
    let before : Outside = record { written = g.K.Sink.written c.args.sink.now; faults = g.K.Sink.faults c.args.sink.now } in
    let here : Outside = record { written = g.K.Sink.written c.loop-run.sink; faults = g.K.Sink.faults c.loop-run.sink } in
    let there : Outside = record { written = g.K.Sink.written c.step.new.sink; faults = g.K.Sink.faults c.step.new.sink } in
    let some : tasks_left c.loop-run.run ≡ [] → ⊥ = some_left c.loop-run.run (omega (arith, c.loop-run-test.true)) in
    record {
      heap = same_heap c.args.rules.now here there c.loop-run.run c.step.new.run (Some c.in-Some.stop) some c.in-Some.ensures ∙ c.loop-run.invariant.heap;
      comes = λ goal w r. ends_so c.args.rules.now goal w before here there c.loop-run.run c.step.new.run (c.loop-run.invariant.running goal w r) c.in-Some.stop some c.in-Some.ensures;
    }

pub returns : goal.returns
returns g c =
    let before : Outside = record { written = g.K.Sink.written c.args.sink.now; faults = g.K.Sink.faults c.args.sink.now } in
    let here : Outside = record { written = g.K.Sink.written c.loop-run.sink; faults = g.K.Sink.faults c.loop-run.sink } in
    record {
      heap = c.loop-run.invariant.heap;
      comes = λ goal w r. come_so c.args.rules.now goal w before here c.loop-run.run (c.loop-run.invariant.running goal w r) (none_left c.loop-run.run (omega (arith, c.loop-run-test.false)));
    }
