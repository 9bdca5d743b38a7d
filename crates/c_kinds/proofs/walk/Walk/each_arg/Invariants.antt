use Rattle.std.proofs.Common.{◌≡◌, drop, map}
use Rattle.c_syntax.specs.Kinds as k
use Rattle.c_syntax.specs.View.{arg_of}
use Rattle.c_kinds.specs.View.{scope_of, walk_of}
use Rattle.c_kinds.proofs.walk.Walk.each_arg.Given as goal

abbrev pub invariant-loop-arg : goal.invariant-loop-arg
invariant-loop-arg l =
    k.each_arg_judged (scope_of l.scope) (map arg_of (drop l.arg-index l.args)) (walk_of l.self) ≡ k.each_arg_judged (scope_of l.scope) (map arg_of l.args) (walk_of l.initial.self)
