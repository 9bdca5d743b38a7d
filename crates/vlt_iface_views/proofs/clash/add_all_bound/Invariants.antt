use Rattle.std.proofs.Common.{◌≡◌, ◌++◌, drop, map}
use Rattle.std.specs.List.{flat_map}
use Rattle.vlt_syntax.specs.View.{decl_of}
use Rattle.vlt_iface.specs.Texts.{texts_seen, decl_texts}
use Rattle.vlt_iface_views.proofs.clash.add_all_bound.Given as goal

abbrev pub invariant-loop-decl : goal.invariant-loop-decl
invariant-loop-decl l =
    texts_seen l.texts ++ flat_map decl_texts (map decl_of (drop l.decl-index l.decls)) ≡
    texts_seen l.initial.texts ++ flat_map decl_texts (map decl_of l.decls)
