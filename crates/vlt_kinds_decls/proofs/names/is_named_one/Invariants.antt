use Rattle.std.proofs.Common.{◌≡◌, map, drop}
use Rattle.std.specs.List.{list_any}
use Rattle.vlt_syntax.specs.View.{name_of}
use Rattle.vlt_kinds_decls.specs.Names.{has_text}
use Rattle.vlt_kinds_decls.proofs.names.is_named_one.Given as goal

abbrev pub invariant-loop-other : goal.invariant-loop-other
invariant-loop-other g l =
    list_any (has_text (name_of l.name)) (map g.T.HasName.name l.others)
    ≡ list_any (has_text (name_of l.name)) (map g.T.HasName.name (drop l.other-index l.others))
