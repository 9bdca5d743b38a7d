use Rattle.std.proofs.Common.{◌≡◌, ◌++◌, length, drop, map}
use Rattle.vlt_syntax.specs.View.{names_of}
use Rattle.vlt_core.specs.View.{ty_of, vars_of}
use Rattle.vlt_kinds_types.specs.Seen.{kinds_seen}
use Rattle.vlt_resolve_exprs.specs.Seen.{scope_seen}
use Rattle.vlt_resolve_exprs.specs.Bindings as b
use Rattle.vlt_resolve_exprs.specs.Least.{new_vars_found}
use Rattle.vlt_resolve_exprs.proofs.bindings.add_new_vars.Given as goal

abbrev pub invariant-loop-i : goal.invariant-loop-i
invariant-loop-i l = record {
  refused : new_vars_found (kinds_seen l.kinds) (scope_seen l.scope) (names_of (drop l.i l.names)) (map ty_of (drop l.i l.types)) l.found.least
      ≡ new_vars_found (kinds_seen l.kinds) (scope_seen l.initial.scope) (names_of l.names) (map ty_of l.types) l.initial.found.least;
  scope : b.with_vars (scope_seen l.scope) (names_of (drop l.i l.names)) (map ty_of (drop l.i l.types))
      ≡ b.with_vars (scope_seen l.initial.scope) (names_of l.names) (map ty_of l.types);
  numbers : vars_of l.vars ++ b.numbers_from (length l.scope.vars) (names_of (drop l.i l.names)) (map ty_of (drop l.i l.types))
      ≡ b.numbers_from (length l.initial.scope.vars) (names_of l.names) (map ty_of l.types);
}
