use Rattle.std.proofs.Common.{◌≡◌, ◌++◌, drop, map}
use Rattle.c_syntax.specs.View.{stmt_of}
use Rattle.c_lower.specs.Statements.{owner_atoms_in}
use Rattle.c_lower_exprs.specs.Tables.{sort_of}
use Rattle.c_lower_exprs.specs.Coded.{atom_of}
use Rattle.c_lower_calls.specs.Written.{owned_by}
use Rattle.c_lower_calls.proofs.objects.own_field.Given as goal

abbrev pub invariant-loop-sort : goal.invariant-loop-sort
invariant-loop-sort l =
    map stmt_of l.out ++ owned_by l.block (owner_atoms_in (map sort_of (drop l.sort-index l.sorts)) (map atom_of l.rest))
    ≡ map stmt_of l.initial.out ++ owned_by l.block (owner_atoms_in (map sort_of l.sorts) (map atom_of l.fn.atoms))
