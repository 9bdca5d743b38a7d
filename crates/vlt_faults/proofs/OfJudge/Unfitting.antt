-- A cause that is one of a wider kind, handed on.
use Rattle.std.proofs.Common.{◌≡◌, Result, Ok, Err, IfErr, sym, subst}
use Rattle.std.specs.Result.{IsErrAnd}
use Rattle.vlt_rows.specs.declared.sink.RowError.{RowError}
use Rattle.vlt_rows.specs.Unfit.{UnfitBy}
use Rattle.vlt_rows.proofs.Fitting.{unfit_in}

pub handed_unfit : {T A B : Type 0} (r : Result T RowError) (d : RowError) → IsErrAnd r (λ x. x ≡ d) → (A → B) → UnfitBy A d → IfErr r (UnfitBy B)
handed_unfit (Ok x) d gives f u = absurd gives
handed_unfit {T} {A} {B} (Err x) d gives f u = subst (UnfitBy B) (sym gives) (unfit_in d f u)

-- a tail call hands it on
pub unfit_through : {T A B : Type 0} (r : Result T RowError) → (A → B) → IfErr r (UnfitBy A) → IfErr r (UnfitBy B)
unfit_through (Ok x) f u = tt
unfit_through (Err e) f u = unfit_in e f u
