use Rattle.std.proofs.Common.{◌∙◌, sym, ap, subst, arith, length}
use Rattle.std.specs.Vec.{vec_capacity}
use Rattle.vlt_io.specs.Outside.{Grew, GrewByPart}
use Rattle.vlt_host_meaning.specs.Lines.{call_line}
use Rattle.vlt_host.specs.Machine.Calling.{args_in}
use Rattle.vlt_host.proofs.OfMachine.Making.{line_room, ends_without_fuel, ends_at_line, ends_without_depth}
use Rattle.vlt_host.proofs.machine.calling.Calling.announce.Goals as goal

pub returns-then-fuel-eq0-clause-announced : goal.returns-then-fuel-eq0-clause-announced
returns-then-fuel-eq0-clause-announced g c = λ w e.
    ends_without_fuel c.args.self.now w (record { written = g.K.Sink.written c.args.sink.now; faults = g.K.Sink.faults c.args.sink.now }) c.args.fuel.now (sym e) (e ∙ c.if-fuel-eq0.true)

pub write_call-requires : goal.write_call-requires
write_call-requires g c =
    line_room c.args.self.now (length c.as_slice.result.now) (vec_capacity c.args.line.now) c.requires.few (ap length c.as_slice.ensures) c.requires.line

pub returns-in-Err-clause-announced : goal.returns-in-Err-clause-announced
returns-in-Err-clause-announced g c = λ w e.
    ends_at_line c.args.self.now w (record { written = g.K.Sink.written c.args.sink.now; faults = g.K.Sink.faults c.args.sink.now })
    (record { written = g.K.Sink.written c.write_call.new.sink; faults = g.K.Sink.faults c.write_call.new.sink }) _ (let n = c.if-fuel-eq0.false in omega (arith, e, n))
    (subst (λ n. GrewByPart (g.K.Sink.written c.args.sink.now) (g.K.Sink.written c.write_call.new.sink) (call_line n (args_in c.args.self.now))) c.as_slice.ensures c.in-Err.ensures.part)
    c.in-Err.ensures.failed c.in-Err.ensures.counted

pub returns-then-self-eq0-clause-announced : goal.returns-then-self-eq0-clause-announced
returns-then-self-eq0-clause-announced g c = λ w e.
    ends_without_depth c.args.self.now w (record { written = g.K.Sink.written c.args.sink.now; faults = g.K.Sink.faults c.args.sink.now })
    (record { written = g.K.Sink.written c.write_call.new.sink; faults = g.K.Sink.faults c.write_call.new.sink }) _ (let n = c.if-fuel-eq0.false in omega (arith, e, n))
    c.if-self-eq0.true (omega (arith, e))
    (subst (λ n. Grew (g.K.Sink.written c.args.sink.now) (g.K.Sink.written c.write_call.new.sink) (call_line n (args_in c.args.self.now))) c.as_slice.ensures c.in-Ok.ensures.ok)
    c.in-Ok.ensures.counted
