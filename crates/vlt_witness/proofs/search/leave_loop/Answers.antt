use Rattle.vlt_witness.proofs.Between.{left_loop}
use Rattle.vlt_witness.proofs.search.leave_loop.Goals as goal

pub returns : goal.returns
returns c =
    let closed = rw c.as_slice.ensures at c.in_ok-heads.ensures in
    let mets = rw (c.as_slice-2.ensures, c.as_slice-3.ensures) at c.in_ok-compose_seen.ensures in
    let outs = rw (c.as_slice-4.ensures, c.as_slice-5.ensures) at c.in_ok-next.ensures in
    left_loop c.args.aim c.args.end c.args.turned.now c.args.ways.now c.in_ok-heads.heads c.in_ok-next.next c.args.met.now c.compose_seen.new.list c.arrive.new.met c.arrive.result closed mets outs c.arrive.ensures
