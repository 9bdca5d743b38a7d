use Rattle.vlt_witness.proofs.Between.{arrived}
use Rattle.vlt_witness.proofs.search.arrive.Goals as goal

pub returns : goal.returns
returns c =
    let seen = rw c.as_slice.ensures at c.in_ok-see_join.ensures in
    arrived c.args.aim c.args.at c.args.number c.args.ways c.args.met.now c.see_join.new.list c.counted.result seen c.counted.ensures
