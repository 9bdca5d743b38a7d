use Rattle.std.proofs.Common.{rules, ◌<◌, length, arith}
use Rattle.vlt_core.specs.View.{type_of}
use Rattle.cert_values.specs.Declarations.Names.{HasTextType}
use Rattle.cert_values.proofs.OfDeclarations.Each.{all_at}
use Rattle.cert_write.proofs.Tables.{types_more}
use Rattle.cert_write.proofs.program.put_types.Goals as goal

pub loop-declared-preserved : goal.loop-declared-preserved
loop-declared-preserved c =
    let lt : c.loop-declared.declared-index < length c.args.types.now = omega (arith, c.loop-declared-test.true) in
    types_more c.args.types.now c.args.out.now c.loop-declared.declared-index c.loop-declared.out c.put_type.new.out c.declared-item.result lt c.declared-item.is c.loop-declared.invariant c.in_ok-put_type.ensures.rows

pub returns-in_err-put_type-clause-named : goal.returns-in_err-put_type-clause-named
returns-in_err-put_type-clause-named c = λ all.
    let lt : c.loop-declared.declared-index < length c.args.types.now = omega (arith, c.loop-declared-test.true) in
    let own : HasTextType (type_of c.declared-item.result) = all_at HasTextType type_of c.args.types.now c.loop-declared.declared-index c.declared-item.result lt c.declared-item.is all in
    search (rules, own)
