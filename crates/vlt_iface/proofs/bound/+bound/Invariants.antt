use Rattle.std.proofs.Common.{◌≡◌, ◌++◌, drop, map}
use Rattle.std.specs.List.{flat_map}
use Rattle.vlt_syntax.specs.View as view
use Rattle.vlt_iface.specs.Texts.{texts_seen, stmt_texts, arm_texts}
use Rattle.vlt_iface.proofs.bound.+bound.Given as goal

abbrev pub invariant-add_stmts-loop-stmt : goal.invariant-add_stmts-loop-stmt
invariant-add_stmts-loop-stmt l =
    texts_seen l.texts ++ flat_map stmt_texts (map view.stmt_of (drop l.stmt-index l.stmts)) ≡
    texts_seen l.initial.texts ++ flat_map stmt_texts (map view.stmt_of l.stmts)

abbrev pub invariant-add_arms-loop-arm : goal.invariant-add_arms-loop-arm
invariant-add_arms-loop-arm l =
    texts_seen l.texts ++ flat_map arm_texts (map view.arm_of (drop l.arm-index l.arms)) ≡
    texts_seen l.initial.texts ++ flat_map arm_texts (map view.arm_of l.arms)
