use Rattle.std.proofs.Common.{◌≡◌, ◌-◌, filter}
use Rattle.std.specs.List.{range_with_len}
use Rattle.vlt_core.specs.Lookups.{var_type}
use Rattle.vlt_core.specs.View.{func_of}
use Rattle.c_lower.specs.Glue.{first_or_0, is_tracked_by, params_of}
use Rattle.c_lower_program.proofs.glue.keys.key_param.Given as goal

abbrev pub invariant-loop-v : goal.invariant-loop-v
invariant-loop-v l =
    first_or_0 (filter (λ v. is_tracked_by l.key.0 (var_type (func_of l.func) v)) (range_with_len l.v (l.func.params - l.v)))
    ≡ first_or_0 (filter (λ v. is_tracked_by l.key.0 (var_type (func_of l.func) v)) (params_of (func_of l.func)))
