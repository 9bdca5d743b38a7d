use Rattle.std.proofs.Common.{◌≡◌, ◌++◌, drop, map}
use Rattle.vlt_syntax.specs.View.{decl_of}
use Rattle.vlt_syntax_copies.specs.Shifted.{shifted}
use Rattle.vlt_iface.specs.declared.places.TheConstants.{RAISE}
use Rattle.vlt_iface.specs.Seen.{decls_seen}
use Rattle.vlt_iface.specs.Given.{wants, others_by}
use Rattle.vlt_iface.proofs.view.add_others.Given as goal

abbrev pub invariant-loop-decl : goal.invariant-loop-decl
invariant-loop-decl l =
    map decl_of l.made ++ map (shifted RAISE) (others_by (wants l.wanted) (decls_seen (drop l.decl-index l.given))) ≡
    map decl_of l.initial.made ++ map (shifted RAISE) (others_by (wants l.initial.wanted) (decls_seen l.given))
