use Rattle.std.proofs.Common.{◌≡◌, ◌↔◌, map, drop}
use Rattle.c_syntax.specs.View.{arg_of}
use Rattle.c_match.proofs.same.same_args.Given as goal

-- what is left of both is the same exactly where the wholes are
abbrev pub invariant-loop-x : goal.invariant-loop-x
invariant-loop-x l = (map arg_of l.a ≡ map arg_of l.b) ↔ (map arg_of (drop l.x-index l.a) ≡ map arg_of l.left)
