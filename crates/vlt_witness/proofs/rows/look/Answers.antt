use Rattle.std.proofs.Common.{◌<◌, ◌≤◌, ◌+◌, sym, subst, length, arith}
use Rattle.vlt_core.specs.View.{tok_of}
use Rattle.vlt_core.specs.HeldView.{row_of}
use Rattle.vlt_faults.specs.Finding.Ones.{many_of}
use Rattle.vlt_faults.proofs.OfFinding.Passing.{going_more, going_ends}
use Rattle.vlt_faults.proofs.OfFinding.Sweeps.{split_at}
use Rattle.vlt_witness.proofs.Rowing.{Looking, looking_first, looking_more, looking_ends}
use Rattle.vlt_witness.proofs.rows.look.Goals as goal

pub loop-row-init : goal.loop-row-init
loop-row-init c = record { ones = record { each = λ o. (λ x. x, λ x. x) }; met = looking_first c.args.aim c.args.at c.args.rows.now (many_of c.args.m) }

pub loop-row-preserved : goal.loop-row-preserved
loop-row-preserved c =
    let lt : c.loop-row.row-index < length c.args.rows.now = omega arith in
    let split = split_at c.args.rows.now c.loop-row.row-index c.row-item.result lt c.row-item.is in
    let cur = many_of c.loop-row.ones in
    let new = many_of c.pass_row-ones.result in
    record {
      ones = going_more (tok_of c.args.aim.tok) row_of c.args.rows.now (many_of c.args.m) c.loop-row.row-index cur new c.row-item.result split c.loop-row.invariant.ones c.pass_row-ones.ensures;
      met = subst (λ b. Looking c.args.aim c.args.at c.args.rows.now (many_of c.args.m) (c.loop-row.row-index + 1) new b) (sym c.either-met.ensures)
          (looking_more c.args.aim c.args.at c.args.rows.now (many_of c.args.m) c.loop-row.row-index cur new c.loop-row.met c.is_met_at_row.result c.row-item.result split c.loop-row.invariant.met c.pass_row-ones.ensures c.is_met_at_row.ensures);
    }

pub returns : goal.returns
returns c =
    let past : length c.args.rows.now ≤ c.loop-row.row-index = omega arith in
    record {
      ones = going_ends (tok_of c.args.aim.tok) row_of c.args.rows.now (many_of c.args.m) c.loop-row.row-index (many_of c.loop-row.ones) past c.loop-row.invariant.ones;
      met = looking_ends c.args.aim c.args.at c.args.rows.now (many_of c.args.m) c.loop-row.row-index (many_of c.loop-row.ones) c.loop-row.met past c.loop-row.invariant.met;
    }
