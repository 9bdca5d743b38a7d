use Rattle.std.proofs.Common.{◌≡◌, ◌++◌, ◌+◌, pos, codes, sym, subst, rules}
use Rattle.std.specs.Fmt.{signed_decimal}
use Rattle.vlt_io.specs.Outside.{GrewByPart}
use Rattle.vlt_core.specs.View.{program_of}
use Rattle.vlt_host_meaning.specs.Lines.{state_text}
use Rattle.vlt_host.proofs.OfRuns.Written.{part_first, on_err, on_err_more}
use Rattle.vlt_host.proofs.OfRuns.Pieces.{second_cut, third_cut, fourth_cut}
use Rattle.vlt_host.proofs.runs.held_line.write_object.Goals as goal

pub returns-in_err-write-clause-part : goal.returns-in_err-write-clause-part
returns-in_err-write-clause-part g c = λ o type state.
    let a = g.K.Sink.written c.args.sink.now in
    let b = g.K.Sink.written c.write.new.self in
    on_err c.from_residual.result _
    (part_first a b (codes " #") (signed_decimal (pos (c.args.object.position + 1)) ++ state_text (program_of c.args.program.now) o) c.in_err-write.ensures.part)

pub returns-in_err-write-2-clause-part : goal.returns-in_err-write-2-clause-part
returns-in_err-write-2-clause-part g c = λ o type state.
    let a = g.K.Sink.written c.args.sink.now in
    let b = g.K.Sink.written c.write.new.self in
    let d = g.K.Sink.written c.write-2.new.self in
    let number = signed_decimal (pos (c.args.object.position + 1)) in
    let same : c.as_bytes.result.now ≡ number = search rules in
    on_err c.from_residual-in_err-write-2.result _
    (second_cut a b d (codes " #") number (state_text (program_of c.args.program.now) o) c.in_ok-write.ensures.ok
    (subst (λ l. GrewByPart b d l) same c.in_err-write-2.ensures.part))

pub returns-in_err-write-in-Some-clause-part : goal.returns-in_err-write-in-Some-clause-part
returns-in_err-write-in-Some-clause-part g c = λ o type state.
    let a = g.K.Sink.written c.args.sink.now in
    let b = g.K.Sink.written c.write.new.self in
    let d = g.K.Sink.written c.write-2.new.self in
    let e = g.K.Sink.written c.write-in-Some.new.self in
    let number = signed_decimal (pos (c.args.object.position + 1)) in
    let same : c.as_bytes.result.now ≡ number = search rules in
    let named : state_text (program_of c.args.program.now) o ≡ codes "@" ++ c.in-Some.name.now = c.in-Some.ensures o type state in
    on_err c.from_residual-in_err-write-in-Some.result _
    (subst (λ l. GrewByPart a e (codes " #" ++ (number ++ l))) (sym named)
    (third_cut a b d e (codes " #") number (codes "@") c.in-Some.name.now c.in_ok-write.ensures.ok (rw same at c.in_ok-write-2.ensures.ok) c.in_err-write-in-Some.ensures.part))

pub returns-in_ok-write-in-Some-clause-part : goal.returns-in_ok-write-in-Some-clause-part
returns-in_ok-write-in-Some-clause-part g c = λ o type state.
    let a = g.K.Sink.written c.args.sink.now in
    let b = g.K.Sink.written c.write.new.self in
    let d = g.K.Sink.written c.write-2.new.self in
    let e = g.K.Sink.written c.write-in-Some.new.self in
    let f = g.K.Sink.written c.write-in-Some-2.new.self in
    let number = signed_decimal (pos (c.args.object.position + 1)) in
    let same : c.as_bytes.result.now ≡ number = search rules in
    let named : state_text (program_of c.args.program.now) o ≡ codes "@" ++ c.in-Some.name.now = c.in-Some.ensures o type state in
    on_err_more c.write-in-Some-2.result _ _
    (λ part. subst (λ l. GrewByPart a f (codes " #" ++ (number ++ l))) (sym named)
    (fourth_cut a b d e f (codes " #") number (codes "@") c.in-Some.name.now c.in_ok-write.ensures.ok (rw same at c.in_ok-write-2.ensures.ok) c.in_ok-write-in-Some.ensures.ok part))
    c.write-in-Some-2.ensures.part
