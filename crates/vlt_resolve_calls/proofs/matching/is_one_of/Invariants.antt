use Rattle.std.proofs.Common.{◌≡◌, ◌==◌, drop}
use Rattle.std.specs.List.{list_any}
use Rattle.vlt_resolve_calls.proofs.matching.is_one_of.Given as goal

abbrev pub invariant-loop-other : goal.invariant-loop-other
invariant-loop-other l = list_any (λ k. l.key == k) l.keys ≡ list_any (λ k. l.key == k) (drop l.other-index l.keys)
