use Rattle.std.proofs.Common.{◌≡◌, ◌++◌, drop, map}
use Rattle.vlt_syntax.specs.View as view
use Rattle.vlt_syntax.specs.Lists.{Each}
use Rattle.vlt_syntax.specs.Grammar.{IsDecl, language}
use Rattle.vlt_core.specs.View.{set_of}
use Rattle.vlt_kinds_types.specs.Names.Refusals.{of_each}
use Rattle.vlt_kinds_types.specs.Files as f
use Rattle.vlt_kinds_queries.specs.Small.{AreSmallSets}
use Rattle.vlt_kinds_types.proofs.tables.sets_of.Given as goal

abbrev pub invariant-loop-decl : goal.invariant-loop-decl
invariant-loop-decl l = record {
  sets : map set_of l.sets ++ of_each f.sets_in (map view.decl_of (drop l.decl-index l.decls)) ≡ of_each f.sets_in (map view.decl_of l.decls);
  small : AreSmallSets l.sets;
  right : Each (IsDecl language) (map view.decl_of (drop l.decl-index l.decls));
}
