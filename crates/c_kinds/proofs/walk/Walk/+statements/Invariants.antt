use Rattle.std.proofs.Common.{◌≡◌, drop}
use Rattle.c_syntax.specs.Kinds as k
use Rattle.c_syntax.specs.View.{stmts_of}
use Rattle.c_kinds.specs.View.{scope_of, walk_of}
use Rattle.c_kinds.proofs.walk.Walk.+statements.Given as goal

abbrev pub invariant-stmts-loop-stmt : goal.invariant-stmts-loop-stmt
invariant-stmts-loop-stmt l =
    k.stmts_judged (scope_of l.scope) l.in_loop (stmts_of (drop l.stmt-index l.stmts)) (walk_of l.self) ≡ k.stmts_judged (scope_of l.scope) l.in_loop (stmts_of l.stmts) (walk_of l.initial.self)
