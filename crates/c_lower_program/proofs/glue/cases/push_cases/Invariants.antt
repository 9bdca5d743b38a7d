use Rattle.std.proofs.Common.{◌≡◌, ◌++◌, drop, map}
use Rattle.vlt_core.specs.View.{case_of, keys_of}
use Rattle.c_syntax.specs.View.{stmt_of}
use Rattle.c_lower_exprs.specs.Scopes.{func_in, program_in}
use Rattle.c_lower_program.specs.Glue.Parts.{cases_code}
use Rattle.c_lower_program.proofs.glue.cases.push_cases.Given as goal

abbrev pub invariant-loop-case : goal.invariant-loop-case
invariant-loop-case l = record {
  place : l.number ≡ l.case-index;
  stmts :
      map stmt_of l.out
      ++ cases_code l.part (program_in l.scope) (func_in l.scope) l.variant.type_id.0 (keys_of l.variant.args.now) l.variant.slots.now l.number
      (map case_of (drop l.case-index l.cases))
      ≡ map stmt_of l.initial.out
      ++ cases_code l.part (program_in l.scope) (func_in l.scope) l.variant.type_id.0 (keys_of l.variant.args.now) l.variant.slots.now 0 (map case_of l.cases);
}
