use Rattle.std.proofs.Common.{◌≡◌, ◌<◌, Err, arith, length, refl, subst, ◌∙◌, rules}
use Rattle.std.proofs.lemmas.Grind.{common_steps}
use Rattle.std.proofs.lemmas.List.{get_or_default}
use Rattle.vlt_core.specs.View.{program_of, func_of}
use Rattle.vlt_core_laws.proofs.Origins.{listed_at, origin_is}
use Rattle.cert_emit.specs.declared.errors.CertificateError.TheVariants.{Refused, Unfit, Name}
use Rattle.cert_least_texts.specs.Annotated.{AreAnnotatedIn}
use Rattle.cert_emit.proofs.EachFunction.{walking_first, walking_more, walking_ends, handed_on}
use Rattle.cert_emit.proofs.annotating.instance_annotations.Goals as goal

pub loop-origin-init : goal.loop-origin-init
loop-origin-init c = walking_first c.args.p.now c.args.f.now _ _ c.new-own.ensures

pub annotation_in-requires : goal.annotation_in-requires
annotation_in-requires c =
    let lt : c.loop-origin.origin-index < length c.as_slice-origin-items.result.now = omega (arith, c.loop-origin-test.true) in
    origin_is (program_of c.args.p.now) (func_of c.args.f.now) _ _
    (listed_at (program_of c.args.p.now) (func_of c.args.f.now) _ _ _ (c.as_slice-origin-items.ensures ∙ c.in_ok-origins.ensures) lt (get_or_default _ _ _ _ lt))

pub loop-origin-preserved : goal.loop-origin-preserved
loop-origin-preserved c =
    let lt : c.loop-origin.origin-index < length c.as_slice-origin-items.result.now = omega (arith, c.loop-origin-test.true) in
    rw c.in_ok-push.ensures.ok
    (walking_more c.args.p.now c.args.f.now _ _ _ _ _ lt (get_or_default _ _ _ _ lt) c.loop-origin.invariant c.in_ok-annotation_in.ensures.ok)

pub returns-clause-ok : goal.returns-clause-ok
returns-clause-ok c =
    subst (λ os. AreAnnotatedIn c.args.p.now c.args.f.now os c.loop-origin.own) (c.as_slice-origin-items.ensures ∙ c.in_ok-origins.ensures)
    (walking_ends c.args.p.now c.args.f.now _ _ _ (omega (arith, c.loop-origin-test.false)) c.loop-origin.invariant)

pub returns-in_err-annotation_in-clause-refused : goal.returns-in_err-annotation_in-clause-refused
returns-in_err-annotation_in-clause-refused c =
    let e = c.in_err-annotation_in.field-0.0 in
    let is : c.from_residual-in_err-annotation_in.result ≡ Err e = first_of (search rules, grind (arith, common_steps)) in
    handed_on Refused e _ c.from_residual-in_err-annotation_in.result refl is c.in_err-annotation_in.ensures.refused (λ q. q)

pub returns-in_err-annotation_in-clause-unfit : goal.returns-in_err-annotation_in-clause-unfit
returns-in_err-annotation_in-clause-unfit c =
    let e = c.in_err-annotation_in.field-0.0 in
    let is : c.from_residual-in_err-annotation_in.result ≡ Err e = first_of (search rules, grind (arith, common_steps)) in
    handed_on Unfit e _ c.from_residual-in_err-annotation_in.result refl is c.in_err-annotation_in.ensures.unfit (λ q. q)

pub returns-in_err-annotation_in-clause-named : goal.returns-in_err-annotation_in-clause-named
returns-in_err-annotation_in-clause-named c =
    let e = c.in_err-annotation_in.field-0.0 in
    let is : c.from_residual-in_err-annotation_in.result ≡ Err e = first_of (search rules, grind (arith, common_steps)) in
    handed_on Name e _ c.from_residual-in_err-annotation_in.result refl is c.in_err-annotation_in.ensures.named (λ q. q)
