use Rattle.std.proofs.Common.{◌≡◌, ◌++◌, drop, map}
use Rattle.vlt_core.specs.View.{field_of, vars_of}
use Rattle.c_syntax.specs.View.{stmt_of}
use Rattle.c_lower.specs.Statements.{open_fields}
use Rattle.c_lower_exprs.specs.Scopes.{func_in, program_in}
use Rattle.c_lower_stmts.specs.Exchanges.{owning_from}
use Rattle.c_lower_stmts.proofs.exchanges.open_fields.Given as goal

abbrev pub invariant-loop-field : goal.invariant-loop-field
invariant-loop-field l = record {
  place : l.position ≡ l.field-index;
  stmts :
      map stmt_of l.out
      ++ open_fields (program_in l.scope) (func_in l.scope) l.x.0 (owning_from l.position (map field_of (drop l.field-index l.fields))) (vars_of l.rest)
      ≡ map stmt_of l.initial.out ++ open_fields (program_in l.scope) (func_in l.scope) l.x.0 (owning_from 0 (map field_of l.fields)) (vars_of l.fn.vars);
}
