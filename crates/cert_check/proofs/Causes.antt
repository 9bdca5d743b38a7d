-- Errors before the tests of a body.
use Rattle.std.proofs.Common.{◌≡◌, inl, inr, Bool, true, false, IsTrue, Result, Err, MatchResult, subst, rules}
use Rattle.vlt_rows.specs.declared.sink.RowError.{RowError}
use Rattle.vlt_rows.specs.declared.sink.RowError.TheVariants as row
use Rattle.vlt_rows.specs.Unfit.{UnfitBy}
use Rattle.cert_check.specs.declared.errors.Stop.{Stop}
use Rattle.cert_check.specs.Outcomes.{IsUnlessMemory}

unfit_is : {A : Type 0} → UnfitBy A row.Unfit → A
unfit_is (inl m) = absurd (never m)
  where
    never : row.Unfit ≡ row.Memory → ⊥
    never e = cc
unfit_is (inr u) = u.1

pub unfit_cause : {T A : Type 0} (P : T → Type 0) (r : Result T RowError) → MatchResult r P (UnfitBy A) → r ≡ Err row.Unfit → A
unfit_cause {T} {A} P r q e = unfit_is (subst (λ r. MatchResult r P (UnfitBy A)) e q)

-- what an error says that a `?` hands on
pub error_is : {T : Type 0} (A : Type 0) (P : T → Type 0) (r : Result T Stop) (d : Stop) → r ≡ Err d → MatchResult r P (IsUnlessMemory A) → IsUnlessMemory A d
error_is {T} A P r d e q = subst (λ r. MatchResult r P (IsUnlessMemory A)) e q

pub not_true : (b : Bool) → b ≡ false → IsTrue b → ⊥
not_true true e t = cc
not_true false e t = search rules
