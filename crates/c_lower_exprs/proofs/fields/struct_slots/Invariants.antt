use Rattle.std.proofs.Common.{◌≡◌, ◌++◌, drop, map}
use Rattle.vlt_core.specs.View.{program_of, field_of}
use Rattle.c_lower.specs.Slots.{first_numbers}
use Rattle.c_lower_exprs.specs.Tables.{numbers_of, field_view, fields_laid, past_fields}
use Rattle.c_lower_exprs.proofs.fields.struct_slots.Given as goal

abbrev pub invariant-loop-decl : goal.invariant-loop-decl
invariant-loop-decl l = record {
  fields :
      map field_view l.fields ++ fields_laid (program_of l.program) (numbers_of l.counts) (map field_of (drop l.decl-index l.decls))
      ≡ fields_laid (program_of l.program) first_numbers (map field_of l.decls);
  counts :
      past_fields (program_of l.program) (numbers_of l.counts) (map field_of (drop l.decl-index l.decls))
      ≡ past_fields (program_of l.program) first_numbers (map field_of l.decls);
}
