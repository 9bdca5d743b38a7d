use Rattle.std.proofs.Common.{◌≡◌, ℕ, length, ◌-◌, ◌+◌}
use Rattle.vlt_trace_worlds.specs.View.{key_in}
use Rattle.vlt_trace_worlds.proofs.frames.grow_keys.Given as goal

abbrev pub invariant-loop-keys : goal.invariant-loop-keys
invariant-loop-keys l = (x : ℕ) → key_in l.keys x ≡ key_in l.fn.keys x

abbrev pub decreases-loop-keys : goal.decreases-loop-keys
decreases-loop-keys l = l.n + 1 - length l.keys
