use Rattle.std.proofs.Common.{◌≡◌, drop, map, option_map, false}
use Rattle.vlt_syntax.specs.View.{stmts_of, arms_of}
use Rattle.vlt_core.specs.View.{stmt_of, arm_of, ty_of}
use Rattle.vlt_kinds_types.specs.Seen.{kinds_seen}
use Rattle.vlt_resolve_exprs.specs.Seen.{scope_seen}
use Rattle.vlt_resolve_stmts.specs.Seen.{around_seen}
use Rattle.vlt_elaboration.specs.Walk.{walk_stmts, walk_arms}
use Rattle.vlt_resolve.proofs.Walking.{following, after_arms}
use Rattle.vlt_resolve.proofs.walk.+walk.Given as goal

abbrev pub invariant-walk_stmts-loop-stmt : goal.invariant-walk_stmts-loop-stmt
invariant-walk_stmts-loop-stmt l =
    walk_stmts (kinds_seen l.kinds) (around_seen l.around) (scope_seen l.initial.scope) false (stmts_of l.stmts)
    ≡ following (map stmt_of l.made)
    (walk_stmts (kinds_seen l.kinds) (around_seen l.around) (scope_seen l.scope) l.ended (stmts_of (drop l.stmt-index l.stmts)))

abbrev pub invariant-walk_arms-loop-arm : goal.invariant-walk_arms-loop-arm
invariant-walk_arms-loop-arm l =
    walk_arms (kinds_seen l.kinds) (around_seen l.around) (scope_seen l.initial.scope) (option_map ty_of l.ty) (arms_of l.arms)
    ≡ after_arms (map arm_of l.made)
    (walk_arms (kinds_seen l.kinds) (around_seen l.around) (scope_seen l.scope) (option_map ty_of l.ty) (arms_of (drop l.arm-index l.arms)))
