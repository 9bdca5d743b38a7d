use Rattle.std.proofs.Common.{◌≡◌, ◌↔◌, drop}
use Rattle.c_match.specs.Seen.{heads_seen}
use Rattle.c_match.proofs.apart.same_heads.Given as goal

-- what is left of both is the same exactly where the wholes are
abbrev pub invariant-loop-x : goal.invariant-loop-x
invariant-loop-x l = (heads_seen l.a ≡ heads_seen l.b) ↔ (heads_seen (drop l.x-index l.a) ≡ heads_seen l.left)
