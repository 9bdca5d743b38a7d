use Rattle.std.proofs.Common.{◌≡◌, drop}
use Rattle.vlt_syntax.specs.View.{stmts_of, arms_of}
use Rattle.vlt_printer.specs.Layout.{stmts_after, arms_after}
use Rattle.vlt_printer.proofs.stmts.+statements.Given as goal

-- what is left, after what was written, is the whole
abbrev pub invariant-write_stmts-loop-stmt : goal.invariant-write_stmts-loop-stmt
invariant-write_stmts-loop-stmt l =
    stmts_after l.indent (stmts_of (drop l.stmt-index l.stmts)) l.out.items ≡ stmts_after l.indent (stmts_of l.stmts) l.initial.out.items

abbrev pub invariant-write_arms-loop-arm : goal.invariant-write_arms-loop-arm
invariant-write_arms-loop-arm l =
    arms_after l.indent (arms_of (drop l.arm-index l.arms)) l.out.items ≡ arms_after l.indent (arms_of l.arms) l.initial.out.items
