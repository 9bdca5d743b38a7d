use Rattle.std.proofs.Common.{◌≡◌, false, drop}
use Rattle.vlt_core.specs.View.{stmts_of, arms_of}
use Rattle.vlt_core.specs.KindedBodies.{list_ends, arms_end}
use Rattle.cert_kinds_blocks.proofs.ends.+ending.Given as goal

abbrev pub invariant-list_ends-loop-stmt : goal.invariant-list_ends-loop-stmt
invariant-list_ends-loop-stmt l = list_ends false (stmts_of l.stmts) ≡ list_ends l.ended (stmts_of (drop l.stmt-index l.stmts))

abbrev pub invariant-arms_end-loop-arm : goal.invariant-arms_end-loop-arm
invariant-arms_end-loop-arm l = arms_end (arms_of l.arms) ≡ arms_end (arms_of (drop l.arm-index l.arms))
