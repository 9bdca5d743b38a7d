use Rattle.std.proofs.Common.{◌≡◌, Err, refl, sym, subst, rules, arith}
use Rattle.std.proofs.lemmas.Grind.{common_steps}
use Rattle.cert_emit.specs.declared.errors.CertificateError.TheVariants.{Name}
use Rattle.cert_emit.proofs.EachFunction.{handed_on}
use Rattle.vlt_core.specs.View.{program_of}
use Rattle.cert_write.specs.Notes.{notes_in}
use Rattle.cert_least_texts.specs.Annotated.{AreAnnotatedBy}
use Rattle.cert_emit.proofs.certificate_text.Goals as goal

pub returns-clause-text : goal.returns-clause-text
returns-clause-text c = λ of.
    let p = c.args.p.now in
    let all = c.as_slice.result.now in
    let are = subst (AreAnnotatedBy p p.fns) (sym c.as_slice.ensures) c.in_ok-all.ensures.ok in
    record {
      notes = notes_in (program_of p).fns all;
      least = c.annotations_are_least.ensures p all of are;
      is = c.in_ok-to_text.ensures.text.compact;
    }

pub returns-in_err-all-clause-name : goal.returns-in_err-all-clause-name
returns-in_err-all-clause-name c =
    let e = c.in_err-all.field-0.0 in
    let is : c.from_residual.result ≡ Err e = first_of (search rules, grind (arith, common_steps)) in
    handed_on Name e _ c.from_residual.result refl is c.in_err-all.ensures.named (λ never. absurd never)
