-- No search for the paths of a text's fault is refused.
use Rattle.std.proofs.Common.{◌≡◌, inl, inr}
use Rattle.vlt_core.specs.Core.{Program}
use Rattle.vlt_core.specs.Faults.{FlowFault}
use Rattle.vlt_rows.specs.declared.sink.RowError.TheVariants.{Memory, Unfit}
use Rattle.vlt_rows.specs.Unfit.{UnfitBy}
use Rattle.vlt_witness.specs.Unfit.{IsUnfitAt}
use Rattle.cert_text_laws.specs.Texts.{IsProgramOfTexts}
use Rattle.cert_verify_laws.specs.Causes.{TextsCanBeSearched}

unfit_is : {A : Type 0} → UnfitBy A Unfit → A
unfit_is (inl m) = absurd (never m)
  where
    never : Unfit ≡ Memory → ⊥
    never e = cc
unfit_is (inr u) = u.1

-- no fault of a text's program is where a search finds something unfit
pub searched : TextsCanBeSearched → (p : Program) (x : FlowFault) → IsProgramOfTexts p → UnfitBy (IsUnfitAt p x) Unfit → ⊥
searched law p x texts unfit =
    let found : IsUnfitAt p x = unfit_is unfit in
    law p texts x.function found.func x.origin found.there found.unfit.with_body found.unfit.origin found.unfit.unfit
