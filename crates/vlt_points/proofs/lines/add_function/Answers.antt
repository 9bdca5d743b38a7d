use Rattle.std.proofs.Common.{◌<◌, length, arith, ap, ◌∙◌}
use Rattle.std.proofs.lemmas.List.{get_or_default}
use Rattle.vlt_core.specs.Instances.{origins}
use Rattle.vlt_core_laws.proofs.Origins.{listed_at}
use Rattle.vlt_faults.proofs.OfFinding.Sweeps.{split_at}
use Rattle.vlt_faults.proofs.OfJudge.Unfitting.{handed_unfit}
use Rattle.vlt_points.specs.Writing.{program_in, func_in}
use Rattle.vlt_points.proofs.Functions.{origins_first, origins_more, origins_end, untold_at, split_as, function_lines, external_lines}
use Rattle.vlt_points.proofs.lines.add_function.Goals as goal

pub loop-origin-init : goal.loop-origin-init
loop-origin-init c = origins_first c.args.source.now.text.now (program_in c.args.source.now) (func_in c.args.source.now) c.args.variable.now (origins (program_in c.args.source.now) (func_in c.args.source.now)) c.args.lines.items

pub loop-origin-preserved : goal.loop-origin-preserved
loop-origin-preserved c =
    let lt : c.loop-origin.origin-index < length c.as_slice-origin-items.result.now = omega (arith, c.loop-origin-test.true) in
    origins_more c.args.source.now.text.now (program_in c.args.source.now) (func_in c.args.source.now) c.args.variable.now (origins (program_in c.args.source.now) (func_in c.args.source.now)) c.loop-origin.origin-index _ c.args.lines.items c.loop-origin.lines.items _
    (split_as _ _ _ _ (c.as_slice-origin-items.ensures ∙ c.in_ok-origins.ensures) (split_at _ _ _ lt (get_or_default _ _ _ _ lt))) c.loop-origin.invariant c.in_ok-lines.ensures.lines

pub returns-clause-lines : goal.returns-clause-lines
returns-clause-lines c =
    function_lines c.args.source.now.text.now (program_in c.args.source.now) (func_in c.args.source.now) c.args.variable.now c.args.lines.items c.loop-origin.lines.items c.if-source.false
    (origins_end c.args.source.now.text.now (program_in c.args.source.now) (func_in c.args.source.now) c.args.variable.now (origins (program_in c.args.source.now) (func_in c.args.source.now)) c.loop-origin.origin-index c.args.lines.items c.loop-origin.lines.items
    (omega (arith, c.loop-origin-test.false, ap length (c.as_slice-origin-items.ensures ∙ c.in_ok-origins.ensures))) c.loop-origin.invariant)

pub returns-in_err-lines-clause-unfit : goal.returns-in_err-lines-clause-unfit
returns-in_err-lines-clause-unfit c =
    let lt : c.loop-origin.origin-index < length c.as_slice-origin-items.result.now = omega (arith, c.loop-origin-test.true) in
    handed_unfit _ _ c.from_residual-in_err-lines.ensures.1
    (λ u. (c.if-source.false, untold_at (program_in c.args.source.now) (func_in c.args.source.now) _ _ (listed_at (program_in c.args.source.now) (func_in c.args.source.now) _ _ _ (c.as_slice-origin-items.ensures ∙ c.in_ok-origins.ensures) lt (get_or_default _ _ _ _ lt)) u)) c.in_err-lines.ensures.unfit

pub returns-then-source-clause-lines : goal.returns-then-source-clause-lines
returns-then-source-clause-lines c = external_lines c.args.source.now.text.now (program_in c.args.source.now) (func_in c.args.source.now) c.args.variable.now c.args.lines.items c.if-source.true
