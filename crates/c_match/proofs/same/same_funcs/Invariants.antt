use Rattle.std.proofs.Common.{◌≡◌, ◌↔◌, map, drop}
use Rattle.c_syntax.specs.View.{func_of}
use Rattle.c_match.proofs.same.same_funcs.Given as goal

-- what is left of both is the same exactly where the wholes are
abbrev pub invariant-loop-x : goal.invariant-loop-x
invariant-loop-x l = (map func_of l.a ≡ map func_of l.b) ↔ (map func_of (drop l.x-index l.a) ≡ map func_of l.left)
