use Rattle.std.proofs.Common.{◌≡◌, drop, false}
use Rattle.vlt_core.specs.View.{stmts_of, arms_of}
use Rattle.vlt_core.specs.KindedBodies as b
use Rattle.cert_write.proofs.ends.+ends.Given as goal

abbrev pub invariant-block_ends-loop-stmt : goal.invariant-block_ends-loop-stmt
invariant-block_ends-loop-stmt l =
    b.list_ends l.last (stmts_of (drop l.stmt-index l.stmt-items)) ≡ b.list_ends false (stmts_of l.stmt-items)

abbrev pub invariant-arms_end-loop-arm : goal.invariant-arms_end-loop-arm
invariant-arms_end-loop-arm l = b.arms_end (arms_of l.arms) ≡ b.arms_end (arms_of (drop l.arm-index l.arms))
