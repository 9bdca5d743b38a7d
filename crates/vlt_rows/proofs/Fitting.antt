-- What is unfit in a part is unfit in the whole.
use Rattle.std.proofs.Common.{◌≡◌, List, [], ◌∷◌, Result, Ok, Err, MatchResult, inl, inr, subst, sym}
use Rattle.std.specs.Result.{IsErrAnd}
use Rattle.vlt_core.specs.Maps.{Row}
use Rattle.vlt_rows.specs.declared.sink.RowError.{RowError}
use Rattle.vlt_rows.specs.Taking.{Takes, StopsIn, TookOrStopped}
use Rattle.vlt_rows.specs.Unfit.{UnfitBy, IsWide, HasWide}

pub unfit_in : {A B : Type 0} (e : RowError) → (A → B) → UnfitBy A e → UnfitBy B e
unfit_in e f (inl m) = inl m
unfit_in e f (inr u) = inr (u.0, f u.1)

-- a `?` hands the error on
pub handed_on : {T A B : Type 0} (good : T → Type 0) (r : Result T RowError) (d : RowError) → IsErrAnd r (λ x. x ≡ d) → (A → B) → UnfitBy A d → MatchResult r good (UnfitBy B)
handed_on good (Ok x) d gives f u = absurd gives
handed_on {T} {A} {B} good (Err x) d gives f u = subst (UnfitBy B) (sym gives) (unfit_in d f u)

unfit_among : {V : Type 0} (takes : Takes V) (rs : List Row) (v : V) (e : RowError) → StopsIn takes (λ r v e. UnfitBy (IsWide r) e) rs v e → UnfitBy (HasWide rs) e
unfit_among takes [] v e p = absurd p
unfit_among takes (r ∷ rs) v e (inl p) = unfit_in e (λ w. inl w) p
unfit_among takes (r ∷ rs) v e (inr p) = unfit_in e (λ w. inr w) (unfit_among takes rs p.0 e p.2)

-- of the rows of a list that were not all taken one is wide
pub unlisted : {V T : Type 0} (takes : Takes V) (good : T → Type 0) (rs : List Row) (v w : V) (r : Result T RowError) (d : RowError) → IsErrAnd r (λ x. x ≡ d) → TookOrStopped takes (λ r v e. UnfitBy (IsWide r) e) rs v w (Err d) → MatchResult r good (UnfitBy (HasWide rs))
unlisted takes good rs v w r d gives p = handed_on good r d gives (λ x. x) (unfit_among takes rs v d p.stopped)
