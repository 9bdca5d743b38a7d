use Rattle.std.proofs.Common.{List, drop, map, ap}
use Rattle.c_lower.specs.Statements.{owner_atoms_in}
use Rattle.c_lower_exprs.specs.Tables.{sort_of}
use Rattle.c_lower_exprs.specs.declared.atom.Atom.{Atom}
use Rattle.c_lower_exprs.specs.Coded.{atom_of}
use Rattle.c_lower_calls.specs.Written.{owned_by}
use Rattle.c_lower_calls.proofs.Ends.{ended, no_owners}
use Rattle.c_lower_calls.proofs.objects.own_field.Goals as goal

pub returns-in-None : goal.returns-in-None
returns-in-None c =
    ended (λ (atoms : List Atom). owned_by c.args.block (owner_atoms_in (map sort_of (drop c.loop-sort.sort-index c.args.sorts.now)) (map atom_of atoms))) c.loop-sort.rest.now _ _ c.in-None.ensures.cases (ap (owned_by c.args.block) (no_owners _)) c.loop-sort.invariant
