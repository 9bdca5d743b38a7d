use Rattle.std.proofs.Common.{rules, ◌<◌, length, arith}
use Rattle.std.specs.Str.{IsUtf8}
use Rattle.vlt_core.specs.View.{field_of}
use Rattle.cert_values.proofs.OfDeclarations.Each.{all_at}
use Rattle.cert_values.proofs.declarations.types.put_fields.Goals as goal

pub returns-in_err-put_field-clause-named : goal.returns-in_err-put_field-clause-named
returns-in_err-put_field-clause-named c = λ all.
    let lt : c.loop-field.field-index < length c.args.fields.now = omega (arith, c.loop-field-test.true) in
    let own : IsUtf8 c.field-item.result.name = all_at (λ d. IsUtf8 d.name) field_of c.args.fields.now c.loop-field.field-index c.field-item.result lt c.field-item.is all in
    search (rules, own)
