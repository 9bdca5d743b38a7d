use Rattle.std.proofs.Common.{◌≡◌, drop}
use Rattle.std.specs.List.{enumerate_from}
use Rattle.vlt_core.specs.View.{func_of, keys_of}
use Rattle.vlt_core.specs.KindedCalls.{caller_keys_broken}
use Rattle.cert_kinds_types.specs.Least.{least, lesser}
use Rattle.cert_kinds_exprs.specs.Scopes.{ids_of}
use Rattle.cert_kinds_calls.proofs.clauses.caller_keys_broken.Given as goal

abbrev pub invariant-loop-i : goal.invariant-loop-i
invariant-loop-i l =
    least (caller_keys_broken (func_of l.f) (ids_of l.ids) (func_of l.g) (enumerate_from 0 (keys_of l.keys)))
    ≡ lesser l.found (least (caller_keys_broken (func_of l.f) (ids_of l.ids) (func_of l.g) (enumerate_from l.i (keys_of (drop l.i l.keys)))))
