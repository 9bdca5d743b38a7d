use Rattle.std.proofs.Common.{◌≡◌, ◌++◌, drop, map}
use Rattle.c_syntax.specs.View.{arg_of}
use Rattle.c_lower.specs.Expressions.{atom_arg}
use Rattle.c_lower_exprs.specs.Coded.{atom_of}
use Rattle.c_lower_calls.proofs.calls.push_args.Given as goal

abbrev pub invariant-loop-atom : goal.invariant-loop-atom
invariant-loop-atom l =
    map arg_of l.args ++ map atom_arg (map atom_of (drop l.atom-index l.atoms)) ≡ map arg_of l.initial.args ++ map atom_arg (map atom_of l.atoms)
