use Rattle.c_interp.specs.Running.{start_of, run_of}
use Rattle.c_interp.proofs.Running.{goes_on, ends_so}
use Rattle.c_interp.proofs.run.finish.Goals as goal

pub loop-stop-init : goal.loop-stop-init
loop-stop-init g c = record {
  room = c.requires.room;
  running = c.requires.start (record { written = g.K.Sink.written c.args.sink.now; faults = g.K.Sink.faults c.args.sink.now });
}

pub loop-stop-preserved : goal.loop-stop-preserved
loop-stop-preserved g c =
    let on = goes_on c.args.rules.now (run_of c.args.rules.now c.args.world.now) (start_of c.args.world.now) (record { written = g.K.Sink.written c.args.sink.now; faults = g.K.Sink.faults c.args.sink.now })
    (record { written = g.K.Sink.written c.loop-stop.sink; faults = g.K.Sink.faults c.loop-stop.sink }) (record { written = g.K.Sink.written c.step.new.sink; faults = g.K.Sink.faults c.step.new.sink })
    c.loop-stop.tasks.items c.step.new.tasks.items c.loop-stop.frames c.step.new.frames c.loop-stop.world c.step.new.world _ _ c.loop-stop.invariant.running c.loop-stop.invariant.room c.in-None.ensures in
    record { room = on.fits; running = on.goes }

pub loop-stop-smaller : goal.loop-stop-smaller
loop-stop-smaller g c =
    (goes_on c.args.rules.now (run_of c.args.rules.now c.args.world.now) (start_of c.args.world.now) (record { written = g.K.Sink.written c.args.sink.now; faults = g.K.Sink.faults c.args.sink.now })
    (record { written = g.K.Sink.written c.loop-stop.sink; faults = g.K.Sink.faults c.loop-stop.sink }) (record { written = g.K.Sink.written c.step.new.sink; faults = g.K.Sink.faults c.step.new.sink })
    c.loop-stop.tasks.items c.step.new.tasks.items c.loop-stop.frames c.step.new.frames c.loop-stop.world c.step.new.world _ _ c.loop-stop.invariant.running c.loop-stop.invariant.room c.in-None.ensures).falls

pub returns-in-Some : goal.returns-in-Some
returns-in-Some g c =
    ends_so c.args.rules.now (run_of c.args.rules.now c.args.world.now) (start_of c.args.world.now) (record { written = g.K.Sink.written c.args.sink.now; faults = g.K.Sink.faults c.args.sink.now })
    (record { written = g.K.Sink.written c.loop-stop.sink; faults = g.K.Sink.faults c.loop-stop.sink }) (record { written = g.K.Sink.written c.step.new.sink; faults = g.K.Sink.faults c.step.new.sink })
    c.loop-stop.tasks.items c.step.new.tasks.items c.loop-stop.frames c.step.new.frames c.loop-stop.world c.step.new.world _ _ c.loop-stop.invariant.running c.loop-stop.invariant.room c.in-Some.stop c.in-Some.ensures
