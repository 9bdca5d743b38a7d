use Rattle.std.proofs.Common.{◌≡◌, ◌++◌, drop, map}
use Rattle.vlt_syntax.specs.View.{decl_of}
use Rattle.vlt_iface.specs.View.{origin_of}
use Rattle.vlt_iface.specs.Given.{giver_of}
use Rattle.vlt_iface.proofs.view.add_origins.Given as goal

abbrev pub invariant-loop-decl : goal.invariant-loop-decl
invariant-loop-decl l =
    l.origins ++ map (λ i. origin_of (giver_of l.given i)) (map decl_of (drop l.decl-index l.wanted)) ≡
    l.initial.origins ++ map (λ i. origin_of (giver_of l.given i)) (map decl_of l.wanted)
