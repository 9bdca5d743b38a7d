use Rattle.std.proofs.Common.{drop, map}
use Rattle.vlt_syntax.specs.View.{decl_of}
use Rattle.vlt_views.specs.Hidden as h
use Rattle.vlt_iface.specs.Texts.{texts_seen}
use Rattle.vlt_views.proofs.Loops.{HasAfter}
use Rattle.vlt_views.proofs.hidden.hidden_names.Given as goal

abbrev pub invariant-loop-i : goal.invariant-loop-i
invariant-loop-i l =
    HasAfter (texts_seen l.names.keys) (h.hidden_names (drop l.i l.origins) (map decl_of (drop l.i l.decls)))
    (h.hidden_names l.origins (map decl_of l.decls))
