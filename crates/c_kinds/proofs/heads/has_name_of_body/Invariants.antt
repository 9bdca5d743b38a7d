use Rattle.std.proofs.Common.{◌≡◌, drop, map}
use Rattle.c_syntax.specs.Kinds as k
use Rattle.c_parser.specs.View.{body_of}
use Rattle.c_kinds.proofs.heads.has_name_of_body.Given as goal

abbrev pub invariant-loop-body : goal.invariant-loop-body
invariant-loop-body l = k.has_name l.name (k.heads_of (map body_of (drop l.body-index l.bodies))) ≡ k.has_name l.name (k.heads_of (map body_of l.bodies))
