use Rattle.std.proofs.Common.{◌≡◌, replicate, None}
use Rattle.c_primitives.proofs.world.unset.Given as goal

abbrev pub invariant-loop-done : goal.invariant-loop-done
invariant-loop-done g l = l.registers.items ≡ replicate l.done None
