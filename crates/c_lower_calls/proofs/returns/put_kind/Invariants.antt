use Rattle.std.proofs.Common.{◌≡◌, ◌≤◌, ◌++◌, drop, map}
use Rattle.c_syntax.specs.View.{stmt_of}
use Rattle.c_lower_exprs.specs.Coded.{atom_of}
use Rattle.c_lower_calls.specs.Values.{kind_puts}
use Rattle.c_lower_calls.proofs.returns.put_kind.Given as goal

abbrev pub invariant-loop-atom : goal.invariant-loop-atom
invariant-loop-atom l = record {
  place : l.number ≤ l.atom-index;
  stmts :
      map stmt_of l.out ++ kind_puts l.references l.number (map atom_of (drop l.atom-index l.atoms))
      ≡ map stmt_of l.initial.out ++ kind_puts l.references 0 (map atom_of l.atoms);
}
