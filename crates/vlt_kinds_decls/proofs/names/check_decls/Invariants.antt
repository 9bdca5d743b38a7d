use Rattle.std.proofs.Common.{◌≡◌, map, drop}
use Rattle.vlt_syntax.specs.View.{decl_of}
use Rattle.vlt_kinds_types.specs.Names.Refusals.{found_each}
use Rattle.vlt_kinds_types.specs.Names.Globals.{names_seen}
use Rattle.vlt_kinds_decls.specs.Names.{decl_refused}
use Rattle.vlt_kinds_decls.proofs.names.check_decls.Given as goal

abbrev pub invariant-loop-decl : goal.invariant-loop-decl
invariant-loop-decl l =
    found_each (decl_refused (names_seen l.known)) (map decl_of (drop l.decl-index l.decls)) l.found.least
    ≡ found_each (decl_refused (names_seen l.known)) (map decl_of l.decls) l.initial.found.least
