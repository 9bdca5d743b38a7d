use Rattle.std.proofs.Common.{rules, Ok, Err, None, SFits, w64, map, subst}
use Rattle.std.proofs.lemmas.Int.{to_z-of_z}
use Rattle.vlt_io.specs.Outside.{Grew, GrewByPart}
use Rattle.c_syntax.specs.View.{arg_of}
use Rattle.c_meaning.specs.World.{printed, line_of}
use Rattle.c_values.specs.Shown.{shown_vars}
use Rattle.c_primitives.specs.declared.halt.Halt.TheVariants.{Stopped}
use Rattle.vlt_steps.specs.declared.stop.Stop.TheVariants.{SinkFault}
use Rattle.c_primitives.proofs.Coming.{same_room, number_come, number_breaks}
use Rattle.c_primitives.proofs.Telling.{print_come, print_cut}
use Rattle.c_primitives.proofs.world.World.print.Goals as goal

pub returns-in-Ok-write_number : goal.returns-in-Ok-write_number
returns-in-Ok-write_number g c = let fits : SFits w64 c.in-Ok.z = search rules in record {
  ready = c.requires.ready;
  room = same_room c.args.self.now;
  comes = λ ts w h made. number_come ts c.args.self.now w (record { written = g.K.Sink.written c.args.sink.now; faults = g.K.Sink.faults c.args.sink.now }) (record { written = g.K.Sink.written c.write_number.new.sink; faults = g.K.Sink.faults c.write_number.new.sink }) (map arg_of c.args.args.now) (shown_vars c.args.vars) (Ok None) c.one_number.result c.in-Ok.z _ c.in-Ok.is (c.one_number.ensures ts made) (print_come ts c.args.self.now w (record { written = g.K.Sink.written c.args.sink.now; faults = g.K.Sink.faults c.args.sink.now }) (record { written = g.K.Sink.written c.write_number.new.sink; faults = g.K.Sink.faults c.write_number.new.sink }) h c.in-Ok.z (subst (λ z. Grew (g.K.Sink.written c.args.sink.now) (g.K.Sink.written c.write_number.new.sink) (line_of (printed z))) (to_z-of_z w64 c.in-Ok.z fits) c.in-Ok-write_number.ensures.ok) c.in-Ok-write_number.ensures.counted);
}

pub returns-in-Err-write_number : goal.returns-in-Err-write_number
returns-in-Err-write_number g c = let fits : SFits w64 c.in-Ok.z = search rules in record {
  ready = c.requires.ready;
  room = same_room c.args.self.now;
  comes = λ ts w h made. number_come ts c.args.self.now w (record { written = g.K.Sink.written c.args.sink.now; faults = g.K.Sink.faults c.args.sink.now }) (record { written = g.K.Sink.written c.write_number.new.sink; faults = g.K.Sink.faults c.write_number.new.sink }) (map arg_of c.args.args.now) (shown_vars c.args.vars) (Err (Stopped SinkFault)) c.one_number.result c.in-Ok.z _ c.in-Ok.is (c.one_number.ensures ts made) (print_cut ts c.args.self.now w (record { written = g.K.Sink.written c.args.sink.now; faults = g.K.Sink.faults c.args.sink.now }) (record { written = g.K.Sink.written c.write_number.new.sink; faults = g.K.Sink.faults c.write_number.new.sink }) h c.in-Ok.z (subst (λ z. GrewByPart (g.K.Sink.written c.args.sink.now) (g.K.Sink.written c.write_number.new.sink) (line_of (printed z))) (to_z-of_z w64 c.in-Ok.z fits) c.in-Err-write_number.ensures.part) c.in-Err-write_number.ensures.failed c.in-Err-write_number.ensures.counted);
}

pub returns-in-Err : goal.returns-in-Err
returns-in-Err g c = record {
  ready = c.requires.ready;
  room = same_room c.args.self.now;
  comes = λ ts w h made. number_breaks ts c.args.self.now w (record { written = g.K.Sink.written c.args.sink.now; faults = g.K.Sink.faults c.args.sink.now }) (map arg_of c.args.args.now) (shown_vars c.args.vars) c.in-Err.rule h c.one_number.result _ c.in-Err.is (c.one_number.ensures ts made);
}
