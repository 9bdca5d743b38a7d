use Rattle.std.proofs.Common.{◌≡◌, drop, map}
use Rattle.c_syntax.specs.Kinds as k
use Rattle.c_parser.specs.View.{head_of}
use Rattle.c_kinds.proofs.heads.any_head.Given as goal

abbrev pub invariant-loop-other : goal.invariant-loop-other
invariant-loop-other l = k.has_head (head_of l.head) (map head_of (drop l.other-index l.heads)) ≡ k.has_head (head_of l.head) (map head_of l.heads)
