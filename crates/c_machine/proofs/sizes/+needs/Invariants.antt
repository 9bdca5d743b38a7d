use Rattle.std.proofs.Common.{◌≡◌, ◌≤◌, max, drop}
use Rattle.c_syntax.specs.View.{stmts_of}
use Rattle.c_machine.specs.Bounds.{need}
use Rattle.c_machine.proofs.sizes.+needs.Given as goal

abbrev pub invariant-list_need-loop-x : goal.invariant-list_need-loop-x
invariant-list_need-loop-x l = record {
  most : max l.most (need (stmts_of (drop l.x-index l.stmts))) ≡ need (stmts_of l.stmts);
  some : 1 ≤ l.most;
}
