use Rattle.std.proofs.Common.{rules, ◌<◌, length, arith}
use Rattle.vlt_core.specs.View.{set_of}
use Rattle.cert_values.specs.Declarations.Names.{HasTextSet}
use Rattle.cert_values.proofs.OfDeclarations.Each.{all_at}
use Rattle.cert_write.proofs.program.put_sets.Goals as goal

pub returns-in_err-put_set-clause-named : goal.returns-in_err-put_set-clause-named
returns-in_err-put_set-clause-named c = λ all.
    let lt : c.loop-set.set-index < length c.args.sets.now = omega (arith, c.loop-set-test.true) in
    let own : HasTextSet (set_of c.set-item.result) = all_at HasTextSet set_of c.args.sets.now c.loop-set.set-index c.set-item.result lt c.set-item.is all in
    search (rules, own)
