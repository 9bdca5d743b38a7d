use Rattle.std.proofs.Common.{refl, ap}
use Rattle.std.proofs.lemmas.Result.{on_ok_weaker}
use Rattle.vlt_core.specs.FaultView.{choices_of}
use Rattle.vlt_witness.specs.declared.ways.Way.{Way}
use Rattle.vlt_witness.specs.Ways.{On, one_of}
use Rattle.vlt_witness.proofs.Steps.{alone}
use Rattle.vlt_witness.proofs.ways.add_single.Goals as goal

pub returns : goal.returns
returns c =
    let x : Way = record { from = c.args.single; ones = c.only.result; path = c.new.result } in
    on_ok_weaker c.add.result (λ j. alone (On c.args.list.now) (On c.add.new.list) x (one_of c.args.single) refl c.only.ensures (ap choices_of c.new.ensures) j) c.add.ensures.joined
