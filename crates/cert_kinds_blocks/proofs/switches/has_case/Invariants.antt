use Rattle.std.proofs.Common.{◌≡◌, drop}
use Rattle.vlt_core.specs.KindedHeads.{has}
use Rattle.cert_kinds_blocks.specs.Switches.{cases_of}
use Rattle.cert_kinds_blocks.proofs.switches.has_case.Given as goal

abbrev pub invariant-loop-arm : goal.invariant-loop-arm
invariant-loop-arm l = has (cases_of l.arms) l.case ≡ has (cases_of (drop l.arm-index l.arms)) l.case
