use Rattle.std.proofs.Common.{◌≡◌, ◌↔◌, drop}
use Rattle.c_match.proofs.same.same_vars.Given as goal

-- what is left of both is the same exactly where the wholes are
abbrev pub invariant-loop-x : goal.invariant-loop-x
invariant-loop-x l = (l.a ≡ l.b) ↔ (drop l.x-index l.a ≡ l.left)
