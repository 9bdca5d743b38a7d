use Rattle.std.proofs.Common.{◌≡◌, drop, map}
use Rattle.vlt_syntax.specs.View.{decl_of}
use Rattle.vlt_kinds_types.specs.Names.Refusals.{found_each}
use Rattle.vlt_iface.specs.Given.{giver_of, refused_in}
use Rattle.vlt_iface_views.proofs.refused.check_all.Given as goal

abbrev pub invariant-loop-decl : goal.invariant-loop-decl
invariant-loop-decl l =
    found_each (refused_in (giver_of l.given)) (map decl_of (drop l.decl-index l.wanted)) l.found.least ≡
    found_each (refused_in (giver_of l.given)) (map decl_of l.wanted) l.initial.found.least
