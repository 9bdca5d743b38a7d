use Rattle.std.proofs.Common.{◌≡◌, drop, map}
use Rattle.c_syntax.specs.Kinds as k
use Rattle.c_parser.specs.View.{body_of, head_of}
use Rattle.c_kinds.proofs.heads.any_body.Given as goal

abbrev pub invariant-loop-body : goal.invariant-loop-body
invariant-loop-body l = k.has_head (head_of l.head) (k.heads_of (map body_of (drop l.body-index l.bodies))) ≡ k.has_head (head_of l.head) (k.heads_of (map body_of l.bodies))
