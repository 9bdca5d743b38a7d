use Rattle.std.proofs.Common.{◌≡◌, ◌-◌, ◌++◌, drop, length}
use Rattle.cert_kinds.specs.Starts.{last_first, keys_of_vars}
use Rattle.cert_kinds.proofs.starts.put_types.Given as goal

abbrev pub invariant-loop-i : goal.invariant-loop-i
invariant-loop-i l = last_first l.keys ≡ keys_of_vars (drop (length l.vars - l.i) l.vars) ++ last_first l.initial.keys
