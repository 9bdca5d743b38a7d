use Rattle.std.proofs.Common.{◌≡◌, ◌≤◌, max, drop}
use Rattle.vlt_core.specs.View.{stmts_of, arms_of}
use Rattle.vlt_meaning_laws.specs.Machine.Bounds.{need, need_arms}
use Rattle.vlt_interp.proofs.rooms.tasks.+need.Given as goal

abbrev pub invariant-need-loop-s : goal.invariant-need-loop-s
invariant-need-loop-s l = record {
  most : max l.most (need (stmts_of (drop l.s-index l.stmts))) ≡ need (stmts_of l.stmts);
  some : 1 ≤ l.most;
}

abbrev pub invariant-need_arms-loop-a : goal.invariant-need_arms-loop-a
invariant-need_arms-loop-a l = max l.most (need_arms (arms_of (drop l.a-index l.arms))) ≡ need_arms (arms_of l.arms)
