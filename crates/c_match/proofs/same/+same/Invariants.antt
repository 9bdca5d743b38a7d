use Rattle.std.proofs.Common.{◌≡◌, ◌↔◌, drop}
use Rattle.c_syntax.specs.View.{stmts_of}
use Rattle.c_match.proofs.same.+same.Given as goal

-- what is left of both is the same exactly where the wholes are
abbrev pub invariant-same_stmts-loop-x : goal.invariant-same_stmts-loop-x
invariant-same_stmts-loop-x l = (stmts_of l.a ≡ stmts_of l.b) ↔ (stmts_of (drop l.x-index l.a) ≡ stmts_of l.left)
