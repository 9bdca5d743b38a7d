use Rattle.std.proofs.Common.{length}
use Rattle.std.proofs.lemmas.List.{length-map}
use Rattle.vlt_core.specs.HeldView.{row_of}
use Rattle.vlt_rows.specs.FlowView.{rows_view}
use Rattle.vlt_witness.proofs.Between.{passed}
use Rattle.vlt_witness.proofs.search.pass_rows.Goals as goal

pub returns : goal.returns
returns c =
    let long = length-map c.args.rows.now row_of in
    passed c.args.aim c.args.at c.args.number (length c.args.rows.now) (rows_view c.args.rows.now) c.args.ways c.in_ok-next.next c.args.met.now c.pass.new.met c.counted.result long c.in_ok-next.ensures.walks c.in_ok-next.ensures.sees c.counted.ensures
