use Rattle.std.proofs.Common.{◌≡◌, ◌-◌, ◌++◌, drop, length}
use Rattle.cert_kinds.specs.Starts.{last_first, keys_of_clause}
use Rattle.cert_kinds.proofs.starts.put_clause.Given as goal

abbrev pub invariant-loop-i : goal.invariant-loop-i
invariant-loop-i l = last_first l.keys ≡ keys_of_clause (drop (length l.clause - l.i) l.clause) ++ last_first l.initial.keys
