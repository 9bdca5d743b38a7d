use Rattle.std.proofs.Common.{◌≡◌, ◌++◌, drop, map}
use Rattle.vlt_syntax.specs.View.{decl_of}
use Rattle.vlt_iface.specs.Given.{giver_of, standing}
use Rattle.vlt_iface.proofs.view.add_given.Given as goal

abbrev pub invariant-loop-decl : goal.invariant-loop-decl
invariant-loop-decl l =
    map decl_of l.made ++ map (standing (giver_of l.given)) (map decl_of (drop l.decl-index l.wanted)) ≡
    map decl_of l.initial.made ++ map (standing (giver_of l.given)) (map decl_of l.wanted)
