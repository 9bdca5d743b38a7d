use Rattle.std.proofs.Common.{◌≡◌, ◌-◌, reverse}
use Rattle.std.specs.List.{range_with_len}
use Rattle.vlt_core.specs.View.{vars_of}
use Rattle.cert_kinds.proofs.starts.first_vars.Given as goal

abbrev pub invariant-loop-i : goal.invariant-loop-i
invariant-loop-i l = reverse (vars_of l.vars) ≡ range_with_len (l.count - l.i) l.i
