use Rattle.std.proofs.Common.{◌≡◌, ◌++◌, drop, map, length, All}
use Rattle.vlt_syntax.specs.View as view
use Rattle.vlt_syntax.specs.Lists.{Each}
use Rattle.vlt_syntax.specs.Grammar.{IsDecl, language}
use Rattle.vlt_core.specs.View as core_view
use Rattle.vlt_kinds_types.specs.Names.Refusals.{of_each}
use Rattle.vlt_kinds_types.specs.Types as t
use Rattle.vlt_kinds_types.specs.Seen.{file_seen}
use Rattle.vlt_kinds_decls.specs.Decls as d
use Rattle.vlt_kinds_decls.specs.Made as m
use Rattle.vlt_kinds_queries.specs.Known.{HasKnownSet}
use Rattle.vlt_kinds_decls.specs.declared.parts.Part.TheVariants as part
use Rattle.vlt_kinds_decls.proofs.made.core_types.Given as goal

abbrev pub invariant-loop-decl : goal.invariant-loop-decl
invariant-loop-decl l = record {
  types : map core_view.type_of l.types ++ of_each (m.core_types_in (file_seen l.file)) (map view.decl_of (drop l.decl-index l.decls))
      ≡ of_each (m.core_types_in (file_seen l.file)) (map view.decl_of l.decls);
  known : All (HasKnownSet (length l.file.sets)) l.types;
  right : Each (IsDecl language) (map view.decl_of (drop l.decl-index l.decls));
}
