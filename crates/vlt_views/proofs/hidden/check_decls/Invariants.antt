use Rattle.std.proofs.Common.{◌≡◌, drop, map}
use Rattle.vlt_syntax.specs.View.{decl_of}
use Rattle.vlt_core.specs.View as core_view
use Rattle.vlt_kinds_types.specs.Names.Refusals.{least_from}
use Rattle.vlt_kinds_types.specs.Seen.{file_seen}
use Rattle.vlt_views.specs.Hidden as h
use Rattle.vlt_iface.specs.Texts.{texts_seen}
use Rattle.vlt_views.proofs.hidden.check_decls.Given as goal

abbrev pub invariant-loop-i : goal.invariant-loop-i
invariant-loop-i l =
    least_from l.found.least (h.own_refused (texts_seen l.names.keys) (map core_view.type_of l.types) (file_seen l.file) (drop l.i l.origins) (map decl_of (drop l.i l.decls)))
    ≡ least_from l.initial.found.least (h.own_refused (texts_seen l.names.keys) (map core_view.type_of l.types) (file_seen l.file) l.origins (map decl_of l.decls))
