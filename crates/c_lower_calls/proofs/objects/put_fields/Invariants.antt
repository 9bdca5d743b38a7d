use Rattle.std.proofs.Common.{◌≡◌, ◌++◌, drop, map}
use Rattle.c_syntax.specs.View.{stmt_of}
use Rattle.c_lower.specs.Statements.{field_puts}
use Rattle.c_lower_exprs.specs.Scopes.{program_in}
use Rattle.c_lower_exprs.specs.Coded.{atom_of}
use Rattle.c_lower_calls.proofs.objects.put_fields.Given as goal

abbrev pub invariant-loop-atoms : goal.invariant-loop-atoms
invariant-loop-atoms l = record {
  place : l.position ≡ l.atoms-index;
  stmts :
      map stmt_of l.out ++ field_puts (program_in l.scope) l.t.0 l.base l.position (map (map atom_of) (drop l.atoms-index l.fields))
      ≡ map stmt_of l.initial.out ++ field_puts (program_in l.scope) l.t.0 l.base 0 (map (map atom_of) l.fields);
}
