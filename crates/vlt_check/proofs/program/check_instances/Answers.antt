use Rattle.std.proofs.Common.{◌<◌, arith, length, refl, subst, ◌∙◌}
use Rattle.std.proofs.lemmas.List.{get_or_default}
use Rattle.vlt_core.specs.View.{program_of, func_of}
use Rattle.vlt_core_laws.proofs.Origins.{listed_at, origin_is}
use Rattle.vlt_check.specs.Checks.{AreLeastIn}
use Rattle.vlt_check.proofs.Listed.{walking_first, walking_more, walking_ends, told_on, unfit_on}
use Rattle.vlt_check.proofs.program.check_instances.Goals as goal

pub loop-origin-init : goal.loop-origin-init
loop-origin-init c = walking_first (program_of c.args.p.now) (func_of c.args.f.now) _ _ c.new-maps.ensures

pub check_instance-requires : goal.check_instance-requires
check_instance-requires c =
    let lt : c.loop-origin.origin-index < length c.as_slice-origin-items.result.now = omega (arith, c.loop-origin-test.true) in
    origin_is (program_of c.args.p.now) (func_of c.args.f.now) _ _
    (listed_at (program_of c.args.p.now) (func_of c.args.f.now) _ _ _ (c.as_slice-origin-items.ensures ∙ c.in_ok-origins.ensures) lt (get_or_default _ _ _ _ lt))

pub loop-origin-preserved : goal.loop-origin-preserved
loop-origin-preserved c =
    let lt : c.loop-origin.origin-index < length c.as_slice-origin-items.result.now = omega (arith, c.loop-origin-test.true) in
    rw c.in_ok-push-in-Ok.ensures.ok
    (walking_more (program_of c.args.p.now) (func_of c.args.f.now) _ _ _ _ _ lt (get_or_default _ _ _ _ lt) c.loop-origin.invariant c.in-Ok.ensures.ok)

pub returns-clause-ok : goal.returns-clause-ok
returns-clause-ok c =
    subst (λ os. AreLeastIn (program_of c.args.p.now) (func_of c.args.f.now) os c.loop-origin.maps) (c.as_slice-origin-items.ensures ∙ c.in_ok-origins.ensures)
    (walking_ends (program_of c.args.p.now) (func_of c.args.f.now) _ _ _ (omega (arith, c.loop-origin-test.false)) c.loop-origin.invariant)

pub returns-in-Err-clause-refused : goal.returns-in-Err-clause-refused
returns-in-Err-clause-refused c = told_on c.in-Err.error _ _ c.check_instance.result _ c.in-Err.is refl c.check_instance.ensures.refused (λ x q. q)

pub returns-in-Err-clause-unfit : goal.returns-in-Err-clause-unfit
returns-in-Err-clause-unfit c = unfit_on c.in-Err.error c.check_instance.result _ c.in-Err.is refl c.check_instance.ensures.unfit (λ q. q)
