use Rattle.std.proofs.Common.{◌≡◌, drop, false}
use Rattle.vlt_syntax.specs.View.{stmts_of, arms_of}
use Rattle.vlt_elaboration.specs.Blocks as b
use Rattle.vlt_resolve_bodies.proofs.blocks.+ends.Given as goal

abbrev pub invariant-block_ends-loop-stmt : goal.invariant-block_ends-loop-stmt
invariant-block_ends-loop-stmt l =
    b.end_with l.last (stmts_of (drop l.stmt-index l.stmt-items)) ≡ b.end_with false (stmts_of l.stmt-items)

abbrev pub invariant-arms_end-loop-arm : goal.invariant-arms_end-loop-arm
invariant-arms_end-loop-arm l = b.arms_end (arms_of l.arms) ≡ b.arms_end (arms_of (drop l.arm-index l.arms))
