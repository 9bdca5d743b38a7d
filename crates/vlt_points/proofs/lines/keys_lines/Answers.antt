use Rattle.std.proofs.Common.{◌<◌, length, ap, arith}
use Rattle.vlt_core.specs.View.{program_of}
use Rattle.vlt_points.specs.Lines.{names_by}
use Rattle.vlt_faults.proofs.OfFinding.Sweeps.{split_at}
use Rattle.vlt_faults.proofs.OfJudge.Unfitting.{handed_unfit}
use Rattle.vlt_points.proofs.Functions.{functions_first, functions_more, functions_end, split_as, unlisted_at}
use Rattle.vlt_points.proofs.lines.keys_lines.Goals as goal

pub loop-number-init : goal.loop-number-init
loop-number-init c = rw c.new-lines.ensures.items (functions_first c.args.text.now (program_of c.args.p.now) (names_by c.args.variables.now) c.args.p.now.fns)

pub loop-number-preserved : goal.loop-number-preserved
loop-number-preserved c =
    let lt : c.loop-number.number < length c.as_slice-func-items.result.now = omega (arith, c.loop-number-test.true) in
    functions_more c.args.text.now (program_of c.args.p.now) (names_by c.args.variables.now) c.args.p.now.fns c.loop-number.number c.func-item.result c.loop-number.lines.items c.in_ok-lines.lines.items
    (split_as _ _ _ _ c.as_slice-func-items.ensures (split_at _ _ c.func-item.result lt c.func-item.is)) c.loop-number.invariant (rw c.name_at.ensures at c.in_ok-lines.ensures.lines)

pub returns-clause-lines : goal.returns-clause-lines
returns-clause-lines c =
    functions_end c.args.text.now (program_of c.args.p.now) (names_by c.args.variables.now) c.args.p.now.fns c.loop-number.number c.loop-number.lines.items
    (omega (arith, c.loop-number-test.false, ap length c.as_slice-func-items.ensures)) c.loop-number.invariant

pub returns-in_err-lines-clause-unfit : goal.returns-in_err-lines-clause-unfit
returns-in_err-lines-clause-unfit c =
    let lt : c.loop-number.number < length c.args.p.now.fns = omega (arith, c.loop-number-test.true, ap length c.as_slice-func-items.ensures) in
    let read = rw c.as_slice-func-items.ensures at c.func-item.is in
    handed_unfit _ _ c.from_residual.ensures.1 (λ u. unlisted_at c.args.p.now c.func-item.result c.loop-number.number lt read u) c.in_err-lines.ensures.unfit
