use Rattle.std.proofs.Common.{◌≡◌, drop, map}
use Rattle.c_lower.specs.Statements.{atom_for}
use Rattle.c_lower_exprs.specs.Tables.{sort_of}
use Rattle.c_lower_exprs.specs.Coded.{atom_of}
use Rattle.c_lower_stmts.proofs.variants.atom_for.Given as goal

abbrev pub invariant-loop-position : goal.invariant-loop-position
invariant-loop-position l =
    atom_for (sort_of l.sort) l.at (drop l.position-index l.positions) (map atom_of l.rest) ≡ atom_for (sort_of l.sort) l.at l.positions (map atom_of l.fn.atoms)
