use Rattle.std.proofs.Common.{◌≡◌, map, drop}
use Rattle.vlt_syntax.specs.View.{decl_of}
use Rattle.vlt_printer.specs.Lists.{each_after}
use Rattle.vlt_printer.specs.Layout.{decl_line_after}
use Rattle.vlt_printer.proofs.decls.write_decls.Given as goal

-- what is left, after what was written, is the whole
abbrev pub invariant-loop-decl : goal.invariant-loop-decl
invariant-loop-decl l =
    each_after decl_line_after (map decl_of (drop l.decl-index l.decls)) l.out.items
    ≡ each_after decl_line_after (map decl_of l.decls) l.initial.out.items
