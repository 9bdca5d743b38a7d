use Rattle.std.proofs.Common.{rules, ◌<◌, length, arith}
use Rattle.vlt_core.specs.View.{func_of}
use Rattle.cert_values.specs.Declarations.Names.{HasTextFunc}
use Rattle.cert_values.proofs.OfDeclarations.Each.{all_at}
use Rattle.cert_write.proofs.Tables.{fns_more}
use Rattle.cert_write.proofs.program.put_fns.Goals as goal

pub loop-f-preserved : goal.loop-f-preserved
loop-f-preserved c =
    let lt : c.loop-f.f-index < length c.args.fns.now = omega (arith, c.loop-f-test.true) in
    fns_more c.args.fns.now c.args.notes.now c.args.out.now c.loop-f.f-index c.loop-f.left.now c.next_annotations.result.1.now c.next_annotations.result.0.now
    c.loop-f.out c.put_fn.new.out c.f-item.result lt c.f-item.is c.next_annotations.ensures.first c.next_annotations.ensures.rest
    c.loop-f.invariant c.in_ok-put_fn.ensures.rows

pub returns-in_err-put_fn-clause-named : goal.returns-in_err-put_fn-clause-named
returns-in_err-put_fn-clause-named c = λ all.
    let lt : c.loop-f.f-index < length c.args.fns.now = omega (arith, c.loop-f-test.true) in
    let own : HasTextFunc (func_of c.f-item.result) = all_at HasTextFunc func_of c.args.fns.now c.loop-f.f-index c.f-item.result lt c.f-item.is all in
    search (rules, own)
