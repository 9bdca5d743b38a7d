use Rattle.std.proofs.Common.{◌≡◌, ◌++◌, length, reverse}
use Rattle.cert_read_bodies.proofs.forms.reversed_arms.Given as goal

abbrev pub invariant-loop-x : goal.invariant-loop-x
invariant-loop-x l = l.out ++ reverse l.rest ≡ reverse l.fn.arms

abbrev pub decreases-loop-x : goal.decreases-loop-x
decreases-loop-x l = length l.rest
