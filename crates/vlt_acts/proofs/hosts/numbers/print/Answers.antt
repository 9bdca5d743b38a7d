use Rattle.std.proofs.Common.{rules, SFits, w64, refl, subst}
use Rattle.std.proofs.lemmas.Int.{to_z-of_z}
use Rattle.vlt_io.specs.Outside.{Grew, GrewByPart}
use Rattle.vlt_core.specs.View.{expr_of}
use Rattle.vlt_meaning.specs.World.{line_of, printed}
use Rattle.vlt_acts.proofs.OfHosts.Talking.{print_went, print_cut, print_trapped}
use Rattle.vlt_acts.proofs.hosts.numbers.print.Goals as goal

pub returns-in-Ok-write_number : goal.returns-in-Ok-write_number
returns-in-Ok-write_number g c = λ host s w n d same hosts. let fits : SFits w64 c.in-Ok.z = search rules in
    print_went c.args.heap.now c.args.values.now s host (record { written = g.K.Sink.written c.args.sink.now; faults = g.K.Sink.faults c.args.sink.now }) (record { written = g.K.Sink.written c.write_number.new.sink; faults = g.K.Sink.faults c.write_number.new.sink }) w n d (expr_of c.args.e.now) c.number.result same (c.number.ensures s)
    c.in-Ok.z c.in-Ok.is hosts (subst (λ z. Grew (g.K.Sink.written c.args.sink.now) (g.K.Sink.written c.write_number.new.sink) (line_of (printed z))) (to_z-of_z w64 c.in-Ok.z fits) c.in-Ok-write_number.ensures.ok) c.in-Ok-write_number.ensures.counted

pub returns-in-Err-write_number : goal.returns-in-Err-write_number
returns-in-Err-write_number g c = λ host s w n d same hosts. let fits : SFits w64 c.in-Ok.z = search rules in
    print_cut c.args.heap.now c.args.values.now s host (record { written = g.K.Sink.written c.args.sink.now; faults = g.K.Sink.faults c.args.sink.now }) (record { written = g.K.Sink.written c.write_number.new.sink; faults = g.K.Sink.faults c.write_number.new.sink }) w n d (expr_of c.args.e.now) c.number.result same (c.number.ensures s)
    c.in-Ok.z c.in-Ok.is (subst (λ z. GrewByPart (g.K.Sink.written c.args.sink.now) (g.K.Sink.written c.write_number.new.sink) (line_of (printed z))) (to_z-of_z w64 c.in-Ok.z fits) c.in-Err-write_number.ensures.part) c.in-Err-write_number.ensures.failed c.in-Err-write_number.ensures.counted

pub returns-in-Err : goal.returns-in-Err
returns-in-Err g c = λ host s w n d same hosts.
    print_trapped c.args.heap.now c.args.values.now s host (record { written = g.K.Sink.written c.args.sink.now; faults = g.K.Sink.faults c.args.sink.now }) (record { written = g.K.Sink.written c.args.sink.now; faults = g.K.Sink.faults c.args.sink.now }) w n d (expr_of c.args.e.now) c.number.result same (c.number.ensures s)
    c.in-Err.t c.in-Err.is refl
