use Rattle.std.proofs.Common.{◌≡◌, ◌++◌, drop, map}
use Rattle.c_syntax.specs.View.{stmt_of}
use Rattle.c_lower.specs.Statements.{owner_atoms}
use Rattle.c_lower_exprs.specs.Scopes.{program_in}
use Rattle.c_lower_exprs.specs.Coded.{atom_of}
use Rattle.c_lower_calls.specs.Written.{owned_by}
use Rattle.c_lower_calls.proofs.objects.own_fields.Given as goal

abbrev pub invariant-loop-atoms : goal.invariant-loop-atoms
invariant-loop-atoms l = record {
  place : l.position ≡ l.atoms-index;
  stmts :
      map stmt_of l.out ++ owned_by l.block (owner_atoms (program_in l.scope) l.t.0 l.position (map (map atom_of) (drop l.atoms-index l.fields)))
      ≡ map stmt_of l.initial.out ++ owned_by l.block (owner_atoms (program_in l.scope) l.t.0 0 (map (map atom_of) l.fields));
}
