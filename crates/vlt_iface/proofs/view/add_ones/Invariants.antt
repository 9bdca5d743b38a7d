use Rattle.std.proofs.Common.{◌≡◌, ◌++◌, drop, map}
use Rattle.vlt_syntax.specs.View.{decl_of}
use Rattle.vlt_iface.proofs.view.add_ones.Given as goal

abbrev pub invariant-loop-other : goal.invariant-loop-other
invariant-loop-other l =
    l.origins ++ map (λ d. 1) (map decl_of (drop l._other-index l.others)) ≡ l.initial.origins ++ map (λ d. 1) (map decl_of l.others)
