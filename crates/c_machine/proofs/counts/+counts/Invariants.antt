use Rattle.std.proofs.Common.{◌≡◌, ◌≤◌, ◌+◌, min, drop}
use Rattle.c_syntax.specs.View.{stmts_of}
use Rattle.c_meaning.specs.Run.{count_in}
use Rattle.c_machine.proofs.counts.+counts.Given as goal

abbrev pub invariant-list_count-loop-x : goal.invariant-list_count-loop-x
invariant-list_count-loop-x l = record {
  same : min (l.count + count_in (stmts_of (drop l.x-index l.stmts))) 4294967295 ≡ min (count_in (stmts_of l.stmts)) 4294967295;
  few : l.count ≤ 4294967295;
}
