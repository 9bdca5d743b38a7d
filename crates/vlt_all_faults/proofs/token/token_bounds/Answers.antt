use Rattle.std.proofs.Common.{◌<◌, arith, ap, length, ◌∙◌}
use Rattle.std.proofs.lemmas.List.{get_or_default}
use Rattle.vlt_core.specs.View.{program_of, func_of}
use Rattle.vlt_core.specs.Core.{a_key}
use Rattle.vlt_core_laws.proofs.Origins.{listed_at}
use Rattle.vlt_faults.proofs.OfJudge.Unfitting.{handed_unfit}
use Rattle.vlt_all_faults.proofs.Bounds.{bounds_first, bounds_more, bounds_end}
use Rattle.vlt_all_faults.proofs.Tokens.{untold_at}
use Rattle.vlt_all_faults.proofs.token.token_bounds.Goals as goal

pub loop-origin-init : goal.loop-origin-init
loop-origin-init c = bounds_first (program_of c.args.p.now) (func_of c.args.f.now) _ _

pub loop-origin-preserved : goal.loop-origin-preserved
loop-origin-preserved c =
    let lt : c.loop-origin.origin-index < length c.as_slice-origin-items.result.now = omega (arith, c.loop-origin-test.true) in
    bounds_more (program_of c.args.p.now) (func_of c.args.f.now) _ _ _ _ _ _ _ _
    (listed_at (program_of c.args.p.now) (func_of c.args.f.now) _ _ _ (c.as_slice-origin-items.ensures ∙ c.in_ok-origins.ensures) lt (get_or_default _ _ _ _ lt))
    c.larger-keys.ensures c.larger-vars.ensures c.in_ok-bounds.ensures.bounds c.loop-origin.invariant

pub returns-clause-bounds : goal.returns-clause-bounds
returns-clause-bounds c =
    bounds_end (program_of c.args.p.now) (func_of c.args.f.now) _ _ _
    (omega (arith, c.loop-origin-test.false, ap length (c.as_slice-origin-items.ensures ∙ c.in_ok-origins.ensures))) c.loop-origin.invariant

pub returns-in_err-bounds-clause-unfit : goal.returns-in_err-bounds-clause-unfit
returns-in_err-bounds-clause-unfit c =
    let lt : c.loop-origin.origin-index < length c.as_slice-origin-items.result.now = omega (arith, c.loop-origin-test.true) in
    handed_unfit _ _ c.from_residual-in_err-bounds.ensures.1
    (λ u. untold_at (program_of c.args.p.now) (func_of c.args.f.now) (a_key 0) _ _
    (listed_at (program_of c.args.p.now) (func_of c.args.f.now) _ _ _ (c.as_slice-origin-items.ensures ∙ c.in_ok-origins.ensures) lt (get_or_default _ _ _ _ lt)) u)
    c.in_err-bounds.ensures.unfit
