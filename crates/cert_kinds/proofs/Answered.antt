-- What the tally of all rows of a program says.
use Rattle.std.proofs.Common.{◌≡◌, refl, sym, ap, ◌∙◌, ℕ, Option, Some, None}
use Rattle.std.specs.Option.{option_map}
use Rattle.vlt_core.specs.Core.{Program}
use Rattle.vlt_core.specs.Kinded.{rows_broken, breaks, IsKinded}
use Rattle.cert_kinds.specs.Outcomes.{HasFirstBroken}
use Rattle.cert_kinds_tallies.specs.declared.tallies.Broken.{Broken}
use Rattle.cert_kinds_tallies.specs.declared.tallies.Tally.{Tally as CodeTally}
use Rattle.cert_kinds_tallies.specs.Tallies.{Place, Tally, clean, tallied, place_of, tally_of}
use Rattle.cert_kinds.proofs.Tallying.{counted, first_counted}

found_is : (p : Program) (t : Tally) → t ≡ tallied (clean 0) (rows_broken p) → t.found ≡ option_map counted (breaks p)
found_is p t is = ap {A = Tally} (λ u. u.found) is ∙ first_counted 0 (rows_broken p)

pub nothing_found : (p : Program) (x : CodeTally) → tally_of x ≡ tallied (clean 0) (rows_broken p) → x.found ≡ None → IsKinded p
nothing_found p x is none = by (breaks p) (sym (ap (option_map place_of) none) ∙ found_is p (tally_of x) is)
  where
    by : (b : Option Place) → None ≡ option_map counted b → b ≡ None
    by None e = refl
    by (Some y) e = absurd (cc)

abbrev place_or_first : Option Place → Place
place_or_first None = (0, 0)
place_or_first (Some x) = x

pub row_found : (p : Program) (x : CodeTally) (broken : Broken) → tally_of x ≡ tallied (clean 0) (rows_broken p) → x.found ≡ Some broken →
    HasFirstBroken p broken.row broken.rule
row_found p x broken is found = by (breaks p) refl (sym (ap (option_map place_of) found) ∙ found_is p (tally_of x) is)
  where
    by : (b : Option Place) → breaks p ≡ b → Some (broken.row, broken.rule) ≡ option_map counted b → HasFirstBroken p broken.row broken.rule
    by None eb e = absurd (cc)
    by (Some y) eb e =
        let same : (broken.row, broken.rule) ≡ counted y = ap place_or_first e in
        record {
          number = y.0;
          breaks = eb ∙ ap {A = ℕ} {B = Option Place} (λ r. Some (y.0, r)) (sym (ap {A = Place} (λ z. z.1) same));
          counted = ap {A = Place} (λ z. z.0) same;
        }
