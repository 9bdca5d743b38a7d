use Rattle.std.proofs.Common.{◌≡◌, map, filter, option_map, drop}
use Rattle.vlt_syntax.specs.View.{decl_of}
use Rattle.vlt_kinds_types.specs.Names.Globals.{decl_name}
use Rattle.vlt_iface.specs.Told.{least_name_from}
use Rattle.vlt_iface.specs.Texts.{text_seen, texts_seen, has_text}
use Rattle.vlt_iface_views.proofs.clash.least_of.Given as goal

abbrev pub invariant-loop-decl : goal.invariant-loop-decl
invariant-loop-decl l =
    least_name_from (option_map text_seen l.least) (filter (λ n. has_text (texts_seen l.others.keys) n.text) (map decl_name (map decl_of (drop l.decl-index l.decls)))) ≡
    least_name_from (option_map text_seen l.found) (filter (λ n. has_text (texts_seen l.others.keys) n.text) (map decl_name (map decl_of l.decls)))
