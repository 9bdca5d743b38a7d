use Rattle.std.proofs.Common.{◌≡◌, ℕ, length, ◌-◌, ◌+◌}
use Rattle.vlt_trace_worlds.specs.View.{var_in}
use Rattle.vlt_trace_worlds.proofs.frames.grow_vars.Given as goal

abbrev pub invariant-loop-vars : goal.invariant-loop-vars
invariant-loop-vars l = (x : ℕ) → var_in l.vars x ≡ var_in l.fn.vars x

abbrev pub decreases-loop-vars : goal.decreases-loop-vars
decreases-loop-vars l = l.n + 1 - length l.vars
