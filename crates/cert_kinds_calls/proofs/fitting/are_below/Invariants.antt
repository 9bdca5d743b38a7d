use Rattle.std.proofs.Common.{◌≡◌, nat_lt, drop}
use Rattle.std.specs.List.{list_all}
use Rattle.vlt_core.specs.View.{keys_of}
use Rattle.cert_kinds_calls.proofs.fitting.are_below.Given as goal

abbrev pub invariant-loop-k : goal.invariant-loop-k
invariant-loop-k l = list_all (λ k. nat_lt k l.count) (keys_of l.keys) ≡ list_all (λ k. nat_lt k l.count) (keys_of (drop l.k-index l.keys))
