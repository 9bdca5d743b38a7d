use Rattle.std.proofs.Common.{◌≡◌, refl, ap}
use Rattle.std.proofs.lemmas.Result.{on_ok_weaker}
use Rattle.vlt_core.specs.View.{tok_of}
use Rattle.vlt_core.specs.FaultView.{choices_of}
use Rattle.vlt_rows.specs.FlowView.{rows_view}
use Rattle.vlt_witness.specs.declared.ways.Way.{Way}
use Rattle.vlt_witness.specs.Ways.{On, IsWay}
use Rattle.vlt_witness.specs.Search.{Passes}
use Rattle.vlt_witness.proofs.Algebra.{walks_joined}
use Rattle.vlt_witness.proofs.Rowing.{way_passes}
use Rattle.vlt_witness.proofs.rows.pass_way.Goals as goal

pub returns : goal.returns
returns c =
    let x = c.args.way.now in
    let y : Way = record { from = x.from; ones = c.look.result.ones; path = c.in_ok-path.path } in
    let path : choices_of c.in_ok-path.path ≡ choices_of x.path = rw c.as_slice.ensures at (ap choices_of c.in_ok-path.ensures) in
    let t = tok_of c.args.aim.tok in
    let rs = rows_view c.args.rows.now in
    on_ok_weaker c.add.result (λ j. walks_joined (Passes t rs) (IsWay x) (On c.args.list.now) (IsWay y) (On c.add.new.list) (way_passes t rs x y refl path c.look.ensures.ones) j) c.add.ensures.joined
