use Rattle.std.proofs.Common.{◌≡◌, nat_lt, drop}
use Rattle.std.specs.List.{list_all}
use Rattle.cert_kinds_blocks.specs.Switches.{cases_of}
use Rattle.cert_kinds_blocks.proofs.switches.cases_below.Given as goal

abbrev pub invariant-loop-arm : goal.invariant-loop-arm
invariant-loop-arm l = list_all (λ c. nat_lt c l.count) (cases_of l.arms) ≡ list_all (λ c. nat_lt c l.count) (cases_of (drop l.arm-index l.arms))
