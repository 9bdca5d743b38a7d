use Rattle.std.proofs.Common.{length}
use Rattle.std.proofs.lemmas.List.{length-map}
use Rattle.vlt_core.specs.View.{tok_of}
use Rattle.vlt_core.specs.HeldView.{toks_of}
use Rattle.vlt_witness.proofs.Between.{jump_searched}
use Rattle.vlt_witness.proofs.search.search_jump.Goals as goal

pub returns : goal.returns
returns c =
    let long = length-map c.args.left.now tok_of in
    let walks = rw (c.as_slice.ensures, c.in_ok-rows.ensures) at c.in_ok-gone.ensures.walks in
    let sees = rw (c.as_slice.ensures, c.in_ok-rows.ensures) at c.in_ok-gone.ensures.sees in
    let landed = rw c.as_slice-2.ensures at c.in_ok-land.ensures in
    jump_searched c.args.continues c.args.aim c.args.at c.args.number (toks_of c.args.left.now) c.args.ways c.in_ok-gone.gone c.new.result c.args.jumps.now c.land.new.jumps c.args.met.now c.pass.new.met (length c.args.left.now) c.counted.result long walks sees landed c.new.ensures c.counted.ensures
