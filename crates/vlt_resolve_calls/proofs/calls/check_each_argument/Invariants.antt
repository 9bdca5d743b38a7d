use Rattle.std.proofs.Common.{◌≡◌, drop, map}
use Rattle.vlt_syntax.specs.View.{expr_of}
use Rattle.vlt_core.specs.View.{ty_of}
use Rattle.vlt_kinds_types.specs.Seen.{kinds_seen}
use Rattle.vlt_resolve_exprs.specs.Seen.{scope_seen}
use Rattle.vlt_resolve_calls.specs.Least.{arguments_found}
use Rattle.vlt_resolve_calls.proofs.calls.check_each_argument.Given as goal

abbrev pub invariant-loop-i : goal.invariant-loop-i
invariant-loop-i l =
    arguments_found (kinds_seen l.kinds) (scope_seen l.scope) (map ty_of (drop l.i l.params)) (map expr_of (drop l.i l.args)) l.found.least
    ≡ arguments_found (kinds_seen l.kinds) (scope_seen l.scope) (map ty_of l.params) (map expr_of l.args) l.initial.found.least
