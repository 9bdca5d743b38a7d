use Rattle.std.proofs.Common.{◌≡◌, ◌++◌, drop, map}
use Rattle.vlt_syntax.specs.View.{decl_of}
use Rattle.vlt_kinds_types.specs.Names.Globals.{decl_name}
use Rattle.vlt_iface.specs.Texts.{texts_of, texts_seen}
use Rattle.vlt_iface_views.proofs.clash.add_declared.Given as goal

abbrev pub invariant-loop-decl : goal.invariant-loop-decl
invariant-loop-decl l =
    texts_seen l.texts ++ texts_of (map decl_name (map decl_of (drop l.decl-index l.decls))) ≡
    texts_seen l.initial.texts ++ texts_of (map decl_name (map decl_of l.decls))
