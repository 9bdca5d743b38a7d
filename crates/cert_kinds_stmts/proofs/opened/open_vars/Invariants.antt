use Rattle.std.proofs.Common.{◌≡◌, drop}
use Rattle.vlt_core.specs.View.{program_of, func_of, vars_of}
use Rattle.vlt_core.specs.KindedStatements.{opened_broken, opened_types, with_bindings}
use Rattle.cert_kinds_types.specs.Least.{least, lesser}
use Rattle.cert_kinds_exprs.specs.Scopes.{ids_of}
use Rattle.cert_kinds_stmts.specs.Objects.{object_some}
use Rattle.cert_kinds_stmts.proofs.opened.open_vars.Given as goal

abbrev pub invariant-loop-i : goal.invariant-loop-i
invariant-loop-i l = record {
  broken : least (opened_broken (program_of l.p) (func_of l.f) (ids_of l.initial.ids) (opened_types (program_of l.p) (object_some l.object)) (vars_of l.vars))
      ≡ lesser l.found (least (opened_broken (program_of l.p) (func_of l.f) (ids_of l.ids) (drop l.i (opened_types (program_of l.p) (object_some l.object))) (vars_of (drop l.i l.vars))));
  bound : with_bindings (func_of l.f) (vars_of l.vars) (ids_of l.initial.ids) ≡ with_bindings (func_of l.f) (vars_of (drop l.i l.vars)) (ids_of l.ids);
}
