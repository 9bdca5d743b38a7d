use Rattle.std.proofs.Common.{◌≡◌, map, drop}
use Rattle.vlt_core.specs.View.{program_of, func_of, keys_of, operand_of}
use Rattle.vlt_core.specs.KindedHeads.{parameters_of}
use Rattle.vlt_core.specs.KindedCalls.{arguments_broken, caller_type}
use Rattle.cert_kinds_types.specs.Least.{least, lesser}
use Rattle.cert_kinds_exprs.specs.Scopes.{ids_of}
use Rattle.cert_kinds_calls.proofs.arguments.arguments_broken.Given as goal

abbrev pub invariant-loop-i : goal.invariant-loop-i
invariant-loop-i l =
    least (arguments_broken (program_of l.p) (func_of l.f) (ids_of l.ids) (map (caller_type (keys_of l.keys)) (parameters_of (func_of l.g))) (map operand_of l.args))
    ≡ lesser l.found (least (arguments_broken (program_of l.p) (func_of l.f) (ids_of l.ids) (drop l.i (map (caller_type (keys_of l.keys)) (parameters_of (func_of l.g)))) (map operand_of (drop l.i l.args))))
