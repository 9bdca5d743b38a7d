use Rattle.std.proofs.Common.{◌≡◌, map, drop}
use Rattle.std.specs.List.{list_any}
use Rattle.vlt_syntax.specs.View.{decl_of}
use Rattle.vlt_kinds_decls.specs.Names.{is_main}
use Rattle.vlt_kinds_decls.proofs.names.has_main.Given as goal

abbrev pub invariant-loop-decl : goal.invariant-loop-decl
invariant-loop-decl l =
    list_any is_main (map decl_of l.decls) ≡ list_any is_main (map decl_of (drop l.decl-index l.decls))
