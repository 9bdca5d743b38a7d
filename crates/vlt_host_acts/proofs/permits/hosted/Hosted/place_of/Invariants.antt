use Rattle.std.proofs.Common.{ℕ, ◌<◌}
use Rattle.vlt_host_acts.proofs.OfPermits.Seen.{IsNotAt}
use Rattle.vlt_host_acts.proofs.permits.hosted.Hosted.place_of.Given as goal

abbrev pub invariant-loop-c : goal.invariant-loop-c
invariant-loop-c l = (d : ℕ) → d < l.c → IsNotAt l.self.heap.now d l.number
