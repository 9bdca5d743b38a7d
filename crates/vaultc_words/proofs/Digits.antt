-- What std's reader of numbers makes of a run of digits.
use Rattle.std.proofs.Common.{◌≡◌, ℕ, ◌+◌, true, false, ◌&&◌, Bool, ◌==◌, List, [], ◌∷◌, refl, arith}
use Rattle.std.proofs.lemmas.Bool.Decides.{nat_tests}
use Rattle.std.proofs.lemmas.Str.{digit_value_digit}
use Rattle.std.specs.List.{list_all}
use Rattle.std.specs.Int.{IsInRange}
use Rattle.std.specs.Char.{is_ascii_digit, digit_value}
use Rattle.std.specs.Str.Parse.{AllDigits, without_leading_plus}

both : (a b : Bool) → (a && b) ≡ true → (a ≡ true) × (b ≡ true)
both true b is = (refl, is)
both false b is = cc

in_range : (c : ℕ) → is_ascii_digit c ≡ true → IsInRange 48 57 c
in_range c is = (grind (arith, nat_tests), grind (arith, nat_tests))

pub all_digits : (w : List ℕ) → list_all is_ascii_digit w ≡ true → AllDigits 10 w
all_digits [] all = tt
all_digits (c ∷ w) all =
    let is = both (is_ascii_digit c) (list_all is_ascii_digit w) all in
    let value : digit_value c + 48 ≡ c = digit_value_digit c (in_range c is.0) in
    let range : IsInRange 48 57 c = in_range c is.0 in
    (omega (arith, range.1), all_digits w is.1)

no_plus : (c : ℕ) (w : List ℕ) → is_ascii_digit c ≡ true → without_leading_plus (c ∷ w) ≡ c ∷ w
no_plus c w is =
    let range : IsInRange 48 57 c = in_range c is in
    let other : (c == 43) ≡ false = grind (arith, nat_tests, range.0) in
    rw other refl

pub plus_free : (w : List ℕ) → list_all is_ascii_digit w ≡ true → without_leading_plus w ≡ w
plus_free [] all = refl
plus_free (c ∷ w) all = no_plus c w (both (is_ascii_digit c) (list_all is_ascii_digit w) all).0
