use Rattle.std.proofs.Common.{◌≡◌, ◌<◌, Err, arith, ap, length, refl, rules}
use Rattle.std.proofs.lemmas.Grind.{common_steps}
use Rattle.vlt_core.specs.View.{program_of}
use Rattle.cert_emit.specs.Causes.{IsRefused, IsUnfit}
use Rattle.cert_emit.specs.declared.errors.CertificateError.TheVariants.{Refused, Unfit, Name}
use Rattle.cert_emit.proofs.EachFunction.{begins, goes_on, ends, found_at, handed_on}
use Rattle.cert_emit.proofs.annotating.annotations.Goals as goal

pub loop-f-init : goal.loop-f-init
loop-f-init c = begins c.args.p.now c.args.p.now.fns _ c.new-all.ensures

pub loop-f-preserved : goal.loop-f-preserved
loop-f-preserved c =
    let lt : c.loop-f.f-index < length c.args.p.now.fns = omega (arith, ap length c.as_slice-f-items.ensures) in
    let read = rw c.as_slice-f-items.ensures at c.f-item.is in
    rw c.in_ok-push.ensures.ok (goes_on c.args.p.now c.args.p.now.fns _ _ _ _ lt read c.loop-f.invariant c.in_ok-annotations_of.ensures.ok)

pub returns-clause-ok : goal.returns-clause-ok
returns-clause-ok c =
    ends c.args.p.now c.args.p.now.fns _ _ (omega (arith, c.loop-f-test.false, ap length c.as_slice-f-items.ensures)) c.loop-f.invariant

pub returns-in_err-annotations_of-clause-refused : goal.returns-in_err-annotations_of-clause-refused
returns-in_err-annotations_of-clause-refused c =
    let lt : c.loop-f.f-index < length c.args.p.now.fns = omega (arith, ap length c.as_slice-f-items.ensures) in
    let read = rw c.as_slice-f-items.ensures at c.f-item.is in
    let e = c.in_err-annotations_of.field-0.0 in
    let is : c.from_residual.result ≡ Err e = first_of (search rules, grind (arith, common_steps)) in
    handed_on Refused e _ c.from_residual.result refl is c.in_err-annotations_of.ensures.refused
    (λ q. found_at c.args.p.now c.args.p.now.fns (IsRefused (program_of c.args.p.now)) _ _ lt read refl q.0 q.1)

pub returns-in_err-annotations_of-clause-unfit : goal.returns-in_err-annotations_of-clause-unfit
returns-in_err-annotations_of-clause-unfit c =
    let lt : c.loop-f.f-index < length c.args.p.now.fns = omega (arith, ap length c.as_slice-f-items.ensures) in
    let read = rw c.as_slice-f-items.ensures at c.f-item.is in
    let e = c.in_err-annotations_of.field-0.0 in
    let is : c.from_residual.result ≡ Err e = first_of (search rules, grind (arith, common_steps)) in
    handed_on Unfit e _ c.from_residual.result refl is c.in_err-annotations_of.ensures.unfit
    (λ q. found_at c.args.p.now c.args.p.now.fns (IsUnfit (program_of c.args.p.now)) _ _ lt read refl q.0 q.1)

pub returns-in_err-annotations_of-clause-named : goal.returns-in_err-annotations_of-clause-named
returns-in_err-annotations_of-clause-named c =
    let e = c.in_err-annotations_of.field-0.0 in
    let is : c.from_residual.result ≡ Err e = first_of (search rules, grind (arith, common_steps)) in
    handed_on Name e _ c.from_residual.result refl is c.in_err-annotations_of.ensures.named (λ q. q)
