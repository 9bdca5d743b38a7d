use Rattle.std.proofs.Common.{◌≡◌, Err, rules, arith}
use Rattle.std.proofs.lemmas.Grind.{common_steps}
use Rattle.cert_emit.specs.Causes.{error_of_stop}
use Rattle.cert_emit.proofs.EachFunction.{refused_by, unfit_by, named_by, unnoted}
use Rattle.cert_emit.proofs.annotating.annotation_in.Goals as goal

pub returns-in_err-annotation-clause-refused : goal.returns-in_err-annotation-clause-refused
returns-in_err-annotation-clause-refused c =
    let s = c.in_err-annotation.field-0.0 in
    let is : c.from_residual.result ≡ Err (error_of_stop s) = first_of (search rules, grind (arith, common_steps)) in
    refused_by s c.from_residual.result is c.in_err-annotation.ensures.refused (λ q. record { origin = c.args.origin; is = c.requires; holds = q })

pub returns-in_err-annotation-clause-unfit : goal.returns-in_err-annotation-clause-unfit
returns-in_err-annotation-clause-unfit c =
    let s = c.in_err-annotation.field-0.0 in
    let is : c.from_residual.result ≡ Err (error_of_stop s) = first_of (search rules, grind (arith, common_steps)) in
    unfit_by s c.from_residual.result is c.in_err-annotation.ensures.unfit (λ q. record { origin = c.args.origin; is = c.requires; holds = unnoted c.args.p.now c.args.f.now c.args.origin q })

pub returns-in_err-annotation-clause-named : goal.returns-in_err-annotation-clause-named
returns-in_err-annotation-clause-named c =
    let s = c.in_err-annotation.field-0.0 in
    let is : c.from_residual.result ≡ Err (error_of_stop s) = first_of (search rules, grind (arith, common_steps)) in
    named_by s c.from_residual.result is

pub returns-clause-ok : goal.returns-clause-ok
returns-clause-ok c = record { least = c.in_ok-annotation.ensures.least; listed = c.in_ok-annotation.ensures.order }
