use Rattle.std.proofs.Common.{◌++◌, codes, arith}
use Rattle.std.specs.List.{flat_map}
use Rattle.vlt_core.specs.View.{program_of}
use Rattle.vlt_host_meaning.specs.HostFrame.{held_objects}
use Rattle.vlt_host.proofs.OfRuns.Written.{part_first, on_err, on_err_more, on_ok_more}
use Rattle.vlt_host.proofs.OfRuns.HeldObjects.{text_of, index_below, object_cut, object_written, line_written, line_cut}
use Rattle.vlt_host.proofs.runs.held_line.write_held.Goals as goal

pub returns-in_err-write-clause-part : goal.returns-in_err-write-clause-part
returns-in_err-write-clause-part g c = λ objects shows.
    on_err c.from_residual.result _
    (part_first (g.K.Sink.written c.args.sink.now) (g.K.Sink.written c.write.new.self) (codes "held")
    (flat_map (text_of (program_of c.args.program.now)) (held_objects objects) ++ codes "\n") c.in_err-write.ensures.part)

pub returns-in_err-write_object-clause-part : goal.returns-in_err-write_object-clause-part
returns-in_err-write_object-clause-part g c = λ objects shows.
    on_err c.from_residual-in_err-write_object.result _
    (object_cut c.args.machine.now (program_of c.args.program.now) objects shows c.loop-object.index c.in-Some.object
    (g.K.Sink.written c.args.sink.now) (g.K.Sink.written c.loop-object.sink) (g.K.Sink.written c.write_object.new.sink)
    (c.in-Some.ensures objects shows) (c.loop-object.invariant.wrote objects shows) c.in_err-write_object.ensures.part)

pub overflow_add-index : goal.overflow_add-index
overflow_add-index g c =
    let below = index_below c.args.machine.now (program_of c.args.program.now) c.requires.shows.0 c.requires.shows.1 c.loop-object.index c.in-Some.object c.requires.hosted
    (c.in-Some.ensures c.requires.shows.0 c.requires.shows.1) in
    omega (arith, below)

pub loop-object-smaller : goal.loop-object-smaller
loop-object-smaller g c =
    let below = index_below c.args.machine.now (program_of c.args.program.now) c.requires.shows.0 c.requires.shows.1 c.loop-object.index c.in-Some.object c.requires.hosted
    (c.in-Some.ensures c.requires.shows.0 c.requires.shows.1) in
    omega (arith, below)

pub loop-object-preserved : goal.loop-object-preserved
loop-object-preserved g c = record {
  wrote = λ objects shows.
      object_written c.args.machine.now (program_of c.args.program.now) objects shows c.loop-object.index c.in-Some.object
      (g.K.Sink.written c.args.sink.now) (g.K.Sink.written c.loop-object.sink) (g.K.Sink.written c.write_object.new.sink)
      (c.in-Some.ensures objects shows) (c.loop-object.invariant.wrote objects shows) c.in_ok-write_object.ensures.ok;
  counted = omega (arith, c.loop-object.invariant.counted, c.write_object.ensures.counted);
}

pub returns-clause-ok : goal.returns-clause-ok
returns-clause-ok g c = λ objects shows.
    on_ok_more c.write-2.result _ _
    (line_written c.args.machine.now (program_of c.args.program.now) objects shows c.loop-object.index
    (g.K.Sink.written c.args.sink.now) (g.K.Sink.written c.loop-object.sink) (g.K.Sink.written c.write-2.new.self)
    (c.in_default.ensures objects shows) (c.loop-object.invariant.wrote objects shows))
    c.write-2.ensures.ok

pub returns-clause-part : goal.returns-clause-part
returns-clause-part g c = λ objects shows.
    on_err_more c.write-2.result _ _
    (line_cut c.args.machine.now (program_of c.args.program.now) objects shows c.loop-object.index
    (g.K.Sink.written c.args.sink.now) (g.K.Sink.written c.loop-object.sink) (g.K.Sink.written c.write-2.new.self)
    (c.in_default.ensures objects shows) (c.loop-object.invariant.wrote objects shows))
    c.write-2.ensures.part
