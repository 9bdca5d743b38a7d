use Rattle.std.proofs.Common.{◌≡◌, drop, map}
use Rattle.c_syntax.specs.Kinds as k
use Rattle.c_parser.specs.View.{head_of}
use Rattle.c_kinds.proofs.heads.first_head.Given as goal

abbrev pub invariant-loop-head : goal.invariant-loop-head
invariant-loop-head l = k.head_of l.name (map head_of (drop l.head-index l.heads)) ≡ k.head_of l.name (map head_of l.heads)
