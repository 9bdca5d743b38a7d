use Rattle.std.proofs.Common.{arith}
use Rattle.vlt_host_acts.proofs.OfPermits.Seen.{tells_not, none_yet, somewhere}
use Rattle.vlt_host_acts.proofs.permits.hosted.Hosted.place_of.Goals as goal

pub loop-c-preserved : goal.loop-c-preserved
loop-c-preserved c =
    let heap = c.args.self.now.heap.now in
    none_yet heap c.args.number c.loop-c.c c.loop-c.invariant
    (tells_not heap c.loop-c.c c.args.number c.is_held-in-loop-c.result c.if-is_held-2.false c.is_held-in-loop-c.ensures.items)

pub unreachable-requires : goal.unreachable-requires
unreachable-requires c =
    somewhere c.args.self.now c.requires.hosted c.args.number c.requires.held (λ d k. c.loop-c.invariant d (omega (arith, k, c.loop-c-test.false)))
