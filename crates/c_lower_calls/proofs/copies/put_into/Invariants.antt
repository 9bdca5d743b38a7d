use Rattle.std.proofs.Common.{◌≡◌, ◌++◌, drop, map}
use Rattle.c_syntax.specs.View.{stmt_of}
use Rattle.c_lower.specs.Statements.{puts}
use Rattle.c_lower_exprs.specs.Coded.{atom_of}
use Rattle.c_lower_calls.proofs.copies.put_into.Given as goal

abbrev pub invariant-loop-cell : goal.invariant-loop-cell
invariant-loop-cell l =
    map stmt_of l.out ++ puts (drop l.cell-index l.cells) (map atom_of l.rest) ≡ map stmt_of l.initial.out ++ puts l.cells (map atom_of l.fn.atoms)
