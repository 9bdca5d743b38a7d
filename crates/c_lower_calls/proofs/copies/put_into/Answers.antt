use Rattle.std.proofs.Common.{List, drop, map}
use Rattle.c_lower.specs.Statements.{puts}
use Rattle.c_lower_exprs.specs.declared.atom.Atom.{Atom}
use Rattle.c_lower_exprs.specs.Coded.{atom_of}
use Rattle.c_lower_calls.proofs.Ends.{ended, no_puts}
use Rattle.c_lower_calls.proofs.copies.put_into.Goals as goal

pub returns-in-None : goal.returns-in-None
returns-in-None c =
    ended (λ (atoms : List Atom). puts (drop c.loop-cell.cell-index c.args.cells.now) (map atom_of atoms)) c.loop-cell.rest.now _ _ c.in-None.ensures.cases (no_puts _) c.loop-cell.invariant
