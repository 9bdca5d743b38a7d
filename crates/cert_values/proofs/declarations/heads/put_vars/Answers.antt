use Rattle.std.proofs.Common.{rules, ◌<◌, length, arith}
use Rattle.std.specs.Str.{IsUtf8}
use Rattle.vlt_core.specs.View.{var_of}
use Rattle.cert_values.proofs.OfDeclarations.Each.{all_at}
use Rattle.cert_values.proofs.declarations.heads.put_vars.Goals as goal

pub returns-in_err-put_var-clause-named : goal.returns-in_err-put_var-clause-named
returns-in_err-put_var-clause-named c = λ all.
    let lt : c.loop-var.var-index < length c.args.vars.now = omega (arith, c.loop-var-test.true) in
    let own : IsUtf8 c.var-item.result.name = all_at (λ d. IsUtf8 d.name) var_of c.args.vars.now c.loop-var.var-index c.var-item.result lt c.var-item.is all in
    search (rules, own)
