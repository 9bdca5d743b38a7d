use Rattle.std.proofs.Common.{◌≡◌, drop, map}
use Rattle.c_syntax.specs.Kinds as k
use Rattle.c_syntax.specs.View.{arg_of}
use Rattle.c_kinds.specs.View.{scope_of, wanted_of}
use Rattle.c_kinds.proofs.calls.all_fit.Given as goal

abbrev pub invariant-loop-want : goal.invariant-loop-want
invariant-loop-want l = k.all_fit (scope_of l.scope) (map wanted_of (drop l.want-index l.wanted)) (map arg_of l.left) ≡ k.all_fit (scope_of l.scope) (map wanted_of l.wanted) (map arg_of l.args)
