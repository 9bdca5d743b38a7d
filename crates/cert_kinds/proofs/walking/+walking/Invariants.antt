use Rattle.std.proofs.Common.{◌≡◌, drop, false}
use Rattle.vlt_core.specs.View.{stmts_of, arms_of}
use Rattle.vlt_core.specs.KindedBodies as s
use Rattle.cert_kinds_types.specs.Least.{least, lesser}
use Rattle.cert_kinds_exprs.specs.Scopes.{ids_of}
use Rattle.cert_kinds_blocks.specs.Scoped.{program_in, func_in}
use Rattle.cert_kinds_blocks.specs.Flat.{around_of}
use Rattle.cert_kinds_tallies.specs.Tallies.{tally_of, tallied}
use Rattle.cert_kinds.proofs.walking.+walking.Given as goal

abbrev pub invariant-walk_stmts-loop-stmt : goal.invariant-walk_stmts-loop-stmt
invariant-walk_stmts-loop-stmt l = record {
  tally : tallied (tally_of l.fn.tally) (s.stmts_rows (program_in l.scope) (func_in l.scope) (around_of l.around) (ids_of l.initial.ids) false (stmts_of l.stmts))
      ≡ tallied (tally_of l.all) (s.stmts_rows (program_in l.scope) (func_in l.scope) (around_of l.around) (ids_of l.ids) l.ended (stmts_of (drop l.stmt-index l.stmts)));
  bound : s.ids_following_stmts (program_in l.scope) (func_in l.scope) (stmts_of l.stmts) (ids_of l.initial.ids)
      ≡ s.ids_following_stmts (program_in l.scope) (func_in l.scope) (stmts_of (drop l.stmt-index l.stmts)) (ids_of l.ids);
}

abbrev pub invariant-walk_arms-loop-arm : goal.invariant-walk_arms-loop-arm
invariant-walk_arms-loop-arm l = record {
  rule : least (s.arms_broken (program_in l.scope) (func_in l.scope) (ids_of l.initial.ids) l.v.0 (arms_of l.arms))
      ≡ lesser l.all.rule (least (s.arms_broken (program_in l.scope) (func_in l.scope) (ids_of l.ids) l.v.0 (arms_of (drop l.arm-index l.arms))));
  tally : tallied (tally_of l.fn.tally) (s.arms_rows (program_in l.scope) (func_in l.scope) (around_of l.around) (ids_of l.initial.ids) (arms_of l.arms))
      ≡ tallied (tally_of l.all.tally) (s.arms_rows (program_in l.scope) (func_in l.scope) (around_of l.around) (ids_of l.ids) (arms_of (drop l.arm-index l.arms)));
  bound : s.ids_following_arms (program_in l.scope) (func_in l.scope) (arms_of l.arms) (ids_of l.initial.ids)
      ≡ s.ids_following_arms (program_in l.scope) (func_in l.scope) (arms_of (drop l.arm-index l.arms)) (ids_of l.ids);
}
