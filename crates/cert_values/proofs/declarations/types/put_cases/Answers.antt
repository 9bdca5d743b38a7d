use Rattle.std.proofs.Common.{rules, ◌<◌, length, arith}
use Rattle.std.specs.Str.{IsUtf8}
use Rattle.vlt_core.specs.View.{case_of}
use Rattle.cert_values.proofs.OfDeclarations.Each.{all_at}
use Rattle.cert_values.proofs.declarations.types.put_cases.Goals as goal

pub returns-in_err-put_case-clause-named : goal.returns-in_err-put_case-clause-named
returns-in_err-put_case-clause-named c = λ all.
    let lt : c.loop-case.case-index < length c.args.cases.now = omega (arith, c.loop-case-test.true) in
    let own : IsUtf8 c.case-item.result.name = all_at (λ d. IsUtf8 d.name) case_of c.args.cases.now c.loop-case.case-index c.case-item.result lt c.case-item.is all in
    search (rules, own)
