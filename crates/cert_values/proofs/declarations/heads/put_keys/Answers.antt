use Rattle.std.proofs.Common.{rules, ◌<◌, length, arith}
use Rattle.std.specs.Str.{IsUtf8}
use Rattle.vlt_core.specs.View.{key_of}
use Rattle.cert_values.proofs.OfDeclarations.Each.{all_at}
use Rattle.cert_values.proofs.declarations.heads.put_keys.Goals as goal

pub returns-in_err-put_key-clause-named : goal.returns-in_err-put_key-clause-named
returns-in_err-put_key-clause-named c = λ all.
    let lt : c.loop-key.key-index < length c.args.keys.now = omega (arith, c.loop-key-test.true) in
    let own : IsUtf8 c.key-item.result.name = all_at (λ d. IsUtf8 d.name) key_of c.args.keys.now c.loop-key.key-index c.key-item.result lt c.key-item.is all in
    search (rules, own)
