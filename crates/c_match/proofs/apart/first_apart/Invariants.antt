use Rattle.std.proofs.Common.{◌≡◌, ◌<◌, ℕ, map, slice_get}
use Rattle.c_match.specs.Seen.{piece_seen}
use Rattle.c_match.proofs.apart.first_apart.Given as goal

-- the pieces before are the same
abbrev pub invariant-loop-at : goal.invariant-loop-at
invariant-loop-at l = (j : ℕ) → j < l.at → slice_get (map piece_seen l.a) j ≡ slice_get (map piece_seen l.b) j
