use Rattle.std.proofs.Common.{◌≡◌, ◌-◌}
use Rattle.std.specs.List.{list_all, range_with_len}
use Rattle.vlt_core.specs.View.{func_of}
use Rattle.vlt_core.specs.KindedHeads.{has}
use Rattle.cert_kinds_calls.specs.Fitting.{callee_keys}
use Rattle.cert_kinds_calls.proofs.fitting.are_callee_keys.Given as goal

abbrev pub invariant-loop-k : goal.invariant-loop-k
invariant-loop-k l = list_all (has (callee_keys (func_of l.g))) (range_with_len 0 l.count) ≡ list_all (has (callee_keys (func_of l.g))) (range_with_len l.k (l.count - l.k))
