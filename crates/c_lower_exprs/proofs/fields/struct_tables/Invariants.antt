use Rattle.std.proofs.Common.{◌≡◌, ◌++◌, map, drop, Some}
use Rattle.vlt_core.specs.View.{program_of, type_of}
use Rattle.vlt_core.specs.Lookups.{fields_in}
use Rattle.c_lower_exprs.specs.Tables.{struct_view, struct_laid}
use Rattle.c_lower_exprs.proofs.fields.struct_tables.Given as goal

abbrev pub invariant-loop-decl : goal.invariant-loop-decl
invariant-loop-decl l =
    map struct_view l.table ++ map (λ d. struct_laid (program_of l.program) (fields_in (Some d))) (map type_of (drop l.decl-index l.decl-items))
    ≡ map (λ d. struct_laid (program_of l.program) (fields_in (Some d))) (program_of l.program).types
