use Rattle.std.proofs.Common.{◌≡◌, drop, map}
use Rattle.c_syntax.specs.Kinds as k
use Rattle.c_parser.specs.View.{declaration_of}
use Rattle.c_kinds.proofs.heads.same_params.Given as goal

abbrev pub invariant-loop-param : goal.invariant-loop-param
invariant-loop-param l = k.same_params (map declaration_of (drop l.param-index l.params)) (map declaration_of l.left) ≡ k.same_params (map declaration_of l.params) (map declaration_of l.others)
