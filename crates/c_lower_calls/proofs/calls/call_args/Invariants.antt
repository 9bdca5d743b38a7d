use Rattle.std.proofs.Common.{◌≡◌, ◌++◌, drop, map}
use Rattle.std.specs.List.{flat_map}
use Rattle.c_syntax.specs.View.{arg_of}
use Rattle.c_lower.specs.Expressions.{atom_arg}
use Rattle.c_lower_exprs.specs.Coded.{atom_of}
use Rattle.c_lower_calls.proofs.calls.call_args.Given as goal

abbrev pub invariant-loop-atoms : goal.invariant-loop-atoms
invariant-loop-atoms l =
    map arg_of l.args ++ flat_map (map atom_arg) (map (map atom_of) (drop l.atoms-index l.all)) ≡ flat_map (map atom_arg) (map (map atom_of) l.all)
