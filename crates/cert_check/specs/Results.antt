-- What the answers for functions mean; private contracts alone cite this.
use Rattle.std.specs.Prelude.{◌≡◌, ◌<◌, ◌+◌, ◌^◌, ℕ, List, Result, Ok, Err}
use Rattle.vlt_core.specs.Core.{Program}
use Rattle.vlt_core.specs.Least.{first_number}
use Rattle.cert_format.specs.Notes.{Note}
use Rattle.cert_fit_laws.specs.Annotation.{IsLocalCertificate}
use Rattle.cert_check.specs.Unfit as why
use Rattle.cert_check.specs.Whole.{refusal_in, HoldAt, IsRefusedAt, IsFirstRefusal}
use Rattle.cert_check.specs.declared.whole.LocalError.{LocalError}
use Rattle.cert_check.specs.declared.whole.LocalError.TheVariants.{Refused, Unfit, Memory}

-- of the function g, whose first statement has this number
abbrev pub IsOutcomeAt : Program → List (List Note) → (g first : ℕ) → Result ℕ LocalError → Type 0
IsOutcomeAt p all g first (Ok n) = (first + n ≡ first_number p (g + 1)) × (n < 2 ^ 62) × HoldAt p all g
IsOutcomeAt p all g first (Err (Refused x)) = (x.func ≡ g) × IsRefusedAt p all (refusal_in x)
IsOutcomeAt p all g first (Err Unfit) = why.IsUnfit p all
IsOutcomeAt p all g first (Err Memory) = Unit {0}

pub record IsTestedAt (p : Program) (all : List (List Note)) (g first : ℕ) (r : Result ℕ LocalError) : Type 0 where
  pub outcome : IsOutcomeAt p all g first r

abbrev pub IsOutcome : Program → List (List Note) → Result (Unit {0}) LocalError → Type 0
IsOutcome p all (Ok u) = IsLocalCertificate p all
IsOutcome p all (Err (Refused x)) = IsFirstRefusal p all (refusal_in x)
IsOutcome p all (Err Unfit) = why.IsUnfit p all
IsOutcome p all (Err Memory) = Unit {0}

pub record IsTested (p : Program) (all : List (List Note)) (r : Result (Unit {0}) LocalError) : Type 0 where
  pub outcome : IsOutcome p all r
