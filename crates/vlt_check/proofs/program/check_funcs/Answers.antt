use Rattle.std.proofs.Common.{◌≡◌, ◌<◌, ◌+◌, arith, ap, length, refl, rules, subst, ◌∙◌}
use Rattle.vlt_core.specs.View.{program_of, func_of}
use Rattle.vlt_check.specs.Checks.{fault_of}
use Rattle.vlt_check.specs.Tellings.{IsTold}
use Rattle.vlt_check.proofs.Listed.{checking_first, checking_more, checking_ends, refused_at, first_at, told_on, unfit_at, unfit_on}
use Rattle.vlt_check.proofs.program.check_funcs.Goals as goal

pub loop-f-init : goal.loop-f-init
loop-f-init c = (checking_first func_of (program_of c.args.p.now) c.args.p.now.fns _ c.new-all.ensures, refl)

pub loop-f-preserved : goal.loop-f-preserved
loop-f-preserved c =
    let lt : c.loop-f.f-index < length c.args.p.now.fns = omega (arith, ap length c.as_slice-f-items.ensures) in
    let read = rw c.as_slice-f-items.ensures at c.f-item.is in
    let next : c.in-Some.next ≡ c.loop-f.number + 1 = search rules in (
      rw c.in_ok-push-in-Ok.ensures.ok (checking_more func_of (program_of c.args.p.now) c.args.p.now.fns _ _ _ _ lt read c.loop-f.invariant.0 c.in-Ok.ensures.ok),
      next ∙ ap (λ n. n + 1) c.loop-f.invariant.1,
    )

pub returns-clause-ok : goal.returns-clause-ok
returns-clause-ok c =
    checking_ends func_of (program_of c.args.p.now) c.args.p.now.fns _ _
    (omega (arith, c.loop-f-test.false, ap length c.as_slice-f-items.ensures)) refl c.loop-f.invariant.0

pub returns-in-Err-clause-refused : goal.returns-in-Err-clause-refused
returns-in-Err-clause-refused c =
    let lt : c.loop-f.f-index < length c.args.p.now.fns = omega (arith, ap length c.as_slice-f-items.ensures) in
    let read = rw c.as_slice-f-items.ensures at c.f-item.is in
    told_on c.in-Err.error _ _ c.check_func.result _ c.in-Err.is refl c.check_func.ensures.refused
    (λ x q. refused_at func_of (program_of c.args.p.now) c.args.p.now.fns _ _ _ lt read refl (q.1.function ∙ c.loop-f.invariant.1) q.0)

pub returns-in-Err-clause-first : goal.returns-in-Err-clause-first
returns-in-Err-clause-first c =
    let lt : c.loop-f.f-index < length c.args.p.now.fns = omega (arith, ap length c.as_slice-f-items.ensures) in
    let read = rw c.as_slice-f-items.ensures at c.f-item.is in
    told_on c.in-Err.error _ _ c.check_func.result _ c.in-Err.is refl c.check_func.ensures.refused
    (λ x q. first_at func_of (program_of c.args.p.now) c.args.p.now.fns _ _ _ (fault_of x) lt read refl c.loop-f.invariant.0 q.0
    (subst (λ n. IsTold (program_of c.args.p.now) (func_of c.f-item.result) n (fault_of x)) c.loop-f.invariant.1 q.1))

pub returns-in-Err-clause-unfit : goal.returns-in-Err-clause-unfit
returns-in-Err-clause-unfit c =
    let lt : c.loop-f.f-index < length c.args.p.now.fns = omega (arith, ap length c.as_slice-f-items.ensures) in
    let read = rw c.as_slice-f-items.ensures at c.f-item.is in
    unfit_on c.in-Err.error c.check_func.result _ c.in-Err.is refl c.check_func.ensures.unfit
    (λ q. unfit_at func_of (program_of c.args.p.now) c.args.p.now.fns _ _ lt read refl q.0 q.1)
