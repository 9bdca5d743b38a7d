use Rattle.std.proofs.Common.{◌≡◌, ◌++◌, drop, map}
use Rattle.c_lower.specs.Expressions.{first_atom}
use Rattle.c_lower_exprs.specs.Coded.{atom_of}
use Rattle.c_lower_stmts.proofs.variants.first_atoms.Given as goal

abbrev pub invariant-loop-atoms : goal.invariant-loop-atoms
invariant-loop-atoms l =
    map atom_of l.firsts ++ map first_atom (map (map atom_of) (drop l.atoms-index l.all)) ≡ map first_atom (map (map atom_of) l.all)
