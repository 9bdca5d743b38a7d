use Rattle.std.proofs.Common.{◌<◌, arith, ap, length, ◌∙◌}
use Rattle.std.proofs.lemmas.List.{get_or_default}
use Rattle.vlt_core.specs.View.{program_of, func_of, tok_of}
use Rattle.vlt_core_laws.proofs.Origins.{listed_at}
use Rattle.vlt_faults.proofs.OfJudge.Unfitting.{handed_unfit}
use Rattle.vlt_all_faults.proofs.Tokens.{judged_first, judged_more, judged_ends, untold_at}
use Rattle.vlt_all_faults.proofs.token.first_fault.Goals as goal

pub loop-origin-init : goal.loop-origin-init
loop-origin-init c = judged_first (program_of c.args.p.now) (func_of c.args.f.now) (tok_of c.args.tok)

pub loop-origin-preserved : goal.loop-origin-preserved
loop-origin-preserved c =
    let lt : c.loop-origin.origin-index < length c.as_slice-origin-items.result.now = omega (arith, c.loop-origin-test.true) in
    judged_more (program_of c.args.p.now) (func_of c.args.f.now) (tok_of c.args.tok) _ _
    (listed_at (program_of c.args.p.now) (func_of c.args.f.now) _ _ _ (c.as_slice-origin-items.ensures ∙ c.in_ok-origins.ensures) lt (get_or_default _ _ _ _ lt)) _ _ _
    c.in_ok-blame_of.ensures.own c.in_ok-blame_of.ensures.first c.first_blame-first.ensures c.loop-origin.invariant

pub returns-clause-first : goal.returns-clause-first
returns-clause-first c =
    judged_ends (program_of c.args.p.now) (func_of c.args.f.now) (tok_of c.args.tok) _ _
    (omega (arith, c.loop-origin-test.false, ap length (c.as_slice-origin-items.ensures ∙ c.in_ok-origins.ensures))) c.loop-origin.invariant

pub returns-in_err-blame_of-clause-unfit : goal.returns-in_err-blame_of-clause-unfit
returns-in_err-blame_of-clause-unfit c =
    let lt : c.loop-origin.origin-index < length c.as_slice-origin-items.result.now = omega (arith, c.loop-origin-test.true) in
    handed_unfit _ _ c.from_residual-in_err-blame_of.ensures.1
    (λ u. untold_at (program_of c.args.p.now) (func_of c.args.f.now) (tok_of c.args.tok) _ _
    (listed_at (program_of c.args.p.now) (func_of c.args.f.now) _ _ _ (c.as_slice-origin-items.ensures ∙ c.in_ok-origins.ensures) lt (get_or_default _ _ _ _ lt)) u)
    c.in_err-blame_of.ensures.unfit
