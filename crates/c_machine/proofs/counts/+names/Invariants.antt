use Rattle.std.proofs.Common.{◌≡◌, max, drop}
use Rattle.c_syntax.specs.View.{stmts_of}
use Rattle.c_machine.specs.Within.{name_in}
use Rattle.c_machine.proofs.counts.+names.Given as goal

abbrev pub invariant-list_name-loop-x : goal.invariant-list_name-loop-x
invariant-list_name-loop-x l = max l.most (name_in (stmts_of (drop l.x-index l.stmts))) ≡ name_in (stmts_of l.stmts)
