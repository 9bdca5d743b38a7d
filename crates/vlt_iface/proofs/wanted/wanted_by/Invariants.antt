use Rattle.std.proofs.Common.{◌≡◌, ◌||◌, drop, map}
use Rattle.std.specs.List.{list_any}
use Rattle.vlt_syntax.specs.View.{decl_of}
use Rattle.vlt_iface.specs.Given.{Key, wanted_key, same_key, wants}
use Rattle.vlt_iface.proofs.wanted.wanted_by.Given as goal

abbrev pub invariant-loop-decl : goal.invariant-loop-decl
invariant-loop-decl l =
    (k : Key) → (wants l.wanted k || list_any (λ i. same_key (wanted_key i) k) (map decl_of (drop l.decl-index l.decls))) ≡
    list_any (λ i. same_key (wanted_key i) k) (map decl_of l.decls)
