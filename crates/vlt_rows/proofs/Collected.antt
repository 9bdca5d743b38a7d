-- The rows that a list has taken.
use Rattle.std.proofs.Common.{◌≡◌, List, [], ◌∷◌, ◌++◌, Ok, sym, ap, ◌∙◌}
use Rattle.std.proofs.lemmas.List.{append_assoc, append-nil}
use Rattle.vlt_core.specs.Maps.{Row}
use Rattle.vlt_rows.specs.declared.list.RowList.{RowList}
use Rattle.vlt_rows.specs.FlowView.{rows_view}
use Rattle.vlt_rows.specs.Taking.{TakesAll, TookOrStopped}
use Rattle.vlt_rows.specs.Unfit.{UnfitBy, IsWide}

gathered : (rs : List Row) (v w : RowList) → TakesAll (λ r v w. rows_view w.rows ≡ rows_view v.rows ++ r ∷ []) rs v w → rows_view w.rows ≡ rows_view v.rows ++ rs
gathered [] v w p = ap (λ x. rows_view x.rows) p ∙ sym (append-nil (rows_view v.rows))
gathered (r ∷ rs) v w p =
    gathered rs p.0 w p.2 ∙ ap (λ l. l ++ rs) p.1 ∙ append_assoc (rows_view v.rows) (r ∷ []) rs

pub collected : (rs : List Row) (v w : RowList) → v.rows ≡ [] → TookOrStopped (λ r v w. rows_view w.rows ≡ rows_view v.rows ++ r ∷ []) (λ r v e. UnfitBy (IsWide r) e) rs v w (Ok tt) → rows_view w.rows ≡ rs
collected rs v w none p = gathered rs v w p.took ∙ ap (λ l. rows_view l ++ rs) none
