use Rattle.std.proofs.Common.{refl}
use Rattle.vlt_core.specs.View.{program_of, func_of, keys_of}
use Rattle.vlt_interp.proofs.OfCalls.Sizes.{result_fits, value_room, line_room}
use Rattle.vlt_interp.proofs.OfCalls.Outside.{can_call_out, called_out}
use Rattle.vlt_interp.proofs.calls.external.call_out.Goals as goal

pub call_external-requires-clause-room : goal.call_external-requires-clause-room
call_external-requires-clause-room g c =
    value_room (program_of c.args.rules.now.program.now) (func_of c.args.callee.now) c.requires.can.ready.callee c.args.rules.now.depth c.args.run.now c.requires.can.ready.room c.requires.can.ready.own c.requires.can.ready.values

pub call_external-requires-clause-line : goal.call_external-requires-clause-line
call_external-requires-clause-line g c =
    line_room (program_of c.args.rules.now.program.now) (func_of c.args.callee.now) c.requires.can.ready.callee c.args.rules.now.depth c.args.run.now c.requires.can.ready.room c.requires.can.ready.own

pub call_external-requires-clause-fits : goal.call_external-requires-clause-fits
call_external-requires-clause-fits g c =
    result_fits (program_of c.args.rules.now.program.now) (func_of c.args.callee.now) c.requires.can.ready.callee c.args.run.now.values.width c.requires.can.ready.room.wide

pub call_external-requires-clause-can : goal.call_external-requires-clause-can
call_external-requires-clause-can g c =
    can_call_out c.args.rules.now c.args.run.now (func_of c.args.callee.now) c.args.target (keys_of c.args.keys.now) c.requires.external c.requires.can

pub returns : goal.returns
returns g c =
    called_out c.args.rules.now c.args.run.now (record c.args.run.now { values = c.call_external.new.values; heap = c.call_external.new.heap; host = c.call_external.new.host }) (func_of c.args.callee.now) c.args.target (keys_of c.args.keys.now) c.requires.external c.requires.can
    (record { written = g.K.Sink.written c.args.sink.now; faults = g.K.Sink.faults c.args.sink.now }) (record { written = g.K.Sink.written c.call_external.new.sink; faults = g.K.Sink.faults c.call_external.new.sink })
    (record { func = refl; tasks = refl; going = refl; depth = refl; fuel = refl }) c.call_external.ensures.same c.call_external.result c.or_halt.result c.or_halt.ensures
    c.call_external.ensures.sound c.call_external.ensures.size c.call_external.ensures.line c.call_external.ensures.long c.call_external.ensures.calls
