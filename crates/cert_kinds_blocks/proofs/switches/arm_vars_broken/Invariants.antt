use Rattle.std.proofs.Common.{◌≡◌, drop}
use Rattle.vlt_core.specs.View.{func_of, vars_of}
use Rattle.vlt_core.specs.KindedBodies.{arm_vars_broken, with_vars}
use Rattle.cert_kinds_types.specs.Least.{least, lesser}
use Rattle.cert_kinds_exprs.specs.Scopes.{ids_of}
use Rattle.cert_kinds_exprs.specs.Wanted.{wanted_types}
use Rattle.cert_kinds_blocks.proofs.switches.arm_vars_broken.Given as goal

abbrev pub invariant-loop-i : goal.invariant-loop-i
invariant-loop-i l = record {
  broken : least (arm_vars_broken (func_of l.f) (ids_of l.initial.ids) (wanted_types l.wanted) (vars_of l.vars))
      ≡ lesser l.found (least (arm_vars_broken (func_of l.f) (ids_of l.ids) (drop l.i (wanted_types l.wanted)) (vars_of (drop l.i l.vars))));
  bound : with_vars (func_of l.f) (vars_of l.vars) (ids_of l.initial.ids) ≡ with_vars (func_of l.f) (vars_of (drop l.i l.vars)) (ids_of l.ids);
}
