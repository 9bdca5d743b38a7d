-- Numbers of options.
use Rattle.std.proofs.Common.{◌≡◌, ℕ, ◌<◌, ◌^◌, Bool, true, false, ◌&&◌, nat_le, List, length, None, refl, sym, subst, inl, inr, arith}
use Rattle.std.proofs.lemmas.Bool.Decides.{nat_tests, leb_tells}
use Rattle.std.specs.List.{list_all}
use Rattle.std.specs.Str.Parse.{IsNumeral, digits_value, without_leading_plus}
use Rattle.std.specs.Char.{is_ascii_digit}
use Rattle.vaultc_words.specs.Commands.{number_within}
use Rattle.vaultc_words.proofs.Digits.{all_digits, plus_free}

and_false : (a b : Bool) → b ≡ false → (a && b) ≡ false
and_false true b is = is
and_false false b is = refl

no_number_above : (low high : ℕ) (w : List ℕ) → high < digits_value 10 w → None ≡ number_within low high w
no_number_above low high w above =
    let test : nat_le (digits_value 10 w) high ≡ false = grind (arith, nat_tests) in
    rw (and_false (nat_le 1 (length w) && nat_le (length w) 19 && list_all is_ascii_digit w && nat_le low (digits_value 10 w)) (nat_le (digits_value 10 w) high) test) refl

-- digits that aren't read as a number of 64 bits are too large
pub number_unread : (low high : ℕ) (w : List ℕ) → 0 < length w → list_all is_ascii_digit w ≡ true → high < 2 ^ 64
    → (IsNumeral 10 (without_leading_plus w) × (digits_value 10 (without_leading_plus w) < 2 ^ 64) → ⊥) → None ≡ number_within low high w
number_unread low high w some all small never = elim (leb_tells (digits_value 10 w) high) [
  | inl within ↦ absurd (never (
    subst (λ v. IsNumeral 10 v) (sym (plus_free w all)) (some, all_digits w all),
    subst (λ v. digits_value 10 v < 2 ^ 64) (sym (plus_free w all)) (omega (arith, within.1, small)),
  ))
  | inr above ↦ no_number_above low high w (omega (arith, above.1))
]
