-- Of rows and what is there just one thing is told.
use Rattle.std.proofs.Common.{◌≡◌, List, [], ◌∷◌, Some, None, inl, inr, refl, sym, ap, ◌∙◌}
use Rattle.vlt_core.specs.Maps.{HeldMap, Row, CanPass, row_passed}
use Rattle.vlt_blame_meaning.specs.Blame.{Unmet, IsFirstUnmet}
use Rattle.vlt_blame_meaning.specs.Laws.{TellsOne}

one_unmet : (rs : List Row) (h : HeldMap) (u v : Unmet) → IsFirstUnmet rs h u → IsFirstUnmet rs h v → u ≡ v
one_unmet [] h u v p q = absurd p
one_unmet (r ∷ rs) h u v (inl p) (inl q) = p.0 ∙ sym q.0
one_unmet (r ∷ rs) h u v (inl p) (inr q) = absurd (p.1 q.0)
one_unmet (r ∷ rs) h u v (inr p) (inl q) = absurd (q.1 p.0)
one_unmet (r ∷ rs) h u v (inr p) (inr q) = one_unmet rs (row_passed r h) u v p.1 q.1

none_unmet : (rs : List Row) (h : HeldMap) (u : Unmet) → IsFirstUnmet rs h u → CanPass rs h → ⊥
none_unmet [] h u p can = p
none_unmet (r ∷ rs) h u (inl p) can = p.1 can.0
none_unmet (r ∷ rs) h u (inr p) can = none_unmet rs (row_passed r h) u p.1 can.1

pub tells_one : TellsOne
tells_one rs h (Some u) (Some v) p q = ap Some (one_unmet rs h u v p q)
tells_one rs h (Some u) None p q = absurd (none_unmet rs h u p q)
tells_one rs h None (Some v) p q = absurd (none_unmet rs h v q p)
tells_one rs h None None p q = refl
