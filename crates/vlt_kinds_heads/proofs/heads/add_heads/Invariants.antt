use Rattle.std.proofs.Common.{◌≡◌, ◌++◌, drop, map}
use Rattle.vlt_syntax.specs.View as view
use Rattle.vlt_syntax.specs.Lists.{Each}
use Rattle.vlt_syntax.specs.Grammar.{IsDecl, language}
use Rattle.vlt_core.specs.View as core_view
use Rattle.vlt_kinds_types.specs.Names.Refusals.{of_each, found_each}
use Rattle.vlt_kinds_types.specs.Seen.{file_seen}
use Rattle.vlt_kinds_heads.specs.Places as p
use Rattle.vlt_kinds_heads.specs.Keys as k
use Rattle.vlt_kinds_heads.specs.Heads as h
use Rattle.vlt_kinds_heads.specs.Externals as e
use Rattle.vlt_kinds_heads.specs.Phase as q
use Rattle.vlt_kinds_heads.proofs.heads.add_heads.Given as goal

abbrev pub invariant-loop-decl : goal.invariant-loop-decl
invariant-loop-decl l = record {
  heads : map core_view.func_of l.heads ++ of_each (q.core_heads_in (file_seen l.file)) (map view.decl_of (drop l.decl-index l.decls))
      ≡ of_each (q.core_heads_in (file_seen l.file)) (map view.decl_of l.decls);
  refused : found_each (q.heads_refused_in (file_seen l.file) (map core_view.type_of l.types)) (map view.decl_of (drop l.decl-index l.decls)) l.found.least
      ≡ found_each (q.heads_refused_in (file_seen l.file) (map core_view.type_of l.types)) (map view.decl_of l.decls) l.initial.found.least;
  right : Each (IsDecl language) (map view.decl_of (drop l.decl-index l.decls));
}
