use Rattle.std.proofs.Common.{◌≡◌, ◌++◌, map, drop}
use Rattle.vlt_core.specs.View.{program_of, type_of}
use Rattle.c_lower_exprs.specs.Tables.{widths_view, widths_in}
use Rattle.c_lower_exprs.proofs.variants.variant_tables.Given as goal

abbrev pub invariant-loop-decl : goal.invariant-loop-decl
invariant-loop-decl l =
    map widths_view l.table ++ map widths_in (map type_of (drop l.decl-index l.decl-items)) ≡ map widths_in (program_of l.program).types
