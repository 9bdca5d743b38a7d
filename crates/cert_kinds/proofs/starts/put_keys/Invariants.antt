use Rattle.std.proofs.Common.{◌≡◌, ◌-◌, ◌++◌, drop, length}
use Rattle.vlt_core.specs.View.{keys_of}
use Rattle.cert_kinds.specs.Starts.{last_first}
use Rattle.cert_kinds.proofs.starts.put_keys.Given as goal

abbrev pub invariant-loop-i : goal.invariant-loop-i
invariant-loop-i l = last_first l.keys ≡ keys_of (drop (length l.before - l.i) l.before) ++ last_first l.initial.keys
