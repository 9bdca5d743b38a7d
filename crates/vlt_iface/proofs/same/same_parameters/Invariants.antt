use Rattle.std.proofs.Common.{◌≡◌, ◌≤◌, ◌-◌, drop, map, length}
use Rattle.vlt_syntax.specs.View.{parameter_of}
use Rattle.vlt_iface.specs.Rules as r
use Rattle.vlt_iface.proofs.same.same_parameters.Given as goal

abbrev pub decreases-loop-i : goal.decreases-loop-i
decreases-loop-i l = length l.a - l.i

abbrev pub invariant-loop-i : goal.invariant-loop-i
invariant-loop-i l = record {
  same : r.same_each r.same_parameter (map parameter_of l.a) (map parameter_of l.b) ≡ r.same_each r.same_parameter (map parameter_of (drop l.i l.a)) (map parameter_of (drop l.i l.b));
  first : l.i ≤ length l.a;
  second : l.i ≤ length l.b;
}
