-- What std says of `parse` and of UTF-8, in the words of `is_number` and `value_of`.
use Rattle.std.proofs.Common.{◌≡◌, ◌≢◌, ℕ, zero, suc, ◌<◌, ◌≤◌, ◌^◌, ◌&&◌, Bool, true, false, List, [], ◌∷◌, length, drop, get_or, ℤ, IsTrue, refl, ◌∙◌, arith, rules, eqb, nat_lt, Result, Ok, Err}
use Rattle.std.specs.Option.{SomeIff}
use Rattle.std.specs.Result.{OkIff, result_ok}
use Rattle.std.specs.Str.{IsAscii, IsUtf8, all_ascii_digits}
use Rattle.std.specs.Str.Parse.{ParsesSigned, starts_with_minus}
use Rattle.std.proofs.lemmas.Str.{IsUtf8-from_ascii}
use Rattle.std.proofs.lemmas.Str.Parse.{IsNumeralModel, numerals_by_weight, tells_all_ascii_digits, parse_signed_minus, parse_signed_plain}
use Rattle.std.proofs.lemmas.Fmt.{IsAscii-from_digits}
use Rattle.std.proofs.lemmas.Bool.{leb-true, ltb-true, le-leb, lt-ltb, eqb-true, eqb-false}
use mir.Syntax.{w64}
use Rattle.vlt_numbers.specs.Text.{magnitude_of, is_in_range, is_number, value_of}

numerals : IsNumeralModel (λ ds. all_ascii_digits ds ≡ true) magnitude_of
numerals = numerals_by_weight _ tells_all_ascii_digits magnitude_of (search rules)

-- a result that is read as an option, under a test that says the same
read_as : {E : Type 0} (r : Result ℤ E) (P : Type 0) (b : Bool) (v w : ℤ) → (P → IsTrue b) → (IsTrue b → P) → v ≡ w → OkIff r P v → SomeIff (result_ok r) (IsTrue b) w
read_as (Ok x) P b v w to from same h = (to h.0, h.1 ∙ same)
read_as (Err e) P b v w to from same h = λ t. h (from t)

all_three : (a b c : Bool) → (a && b && c) ≡ true → (a ≡ true) × (b ≡ true) × (c ≡ true)
all_three true true true h = (refl, refl, refl)
all_three true true false h = (cc)
all_three true false c h = (cc)
all_three false b c h = (cc)

-- the tests of `is_number`, as the facts of `parse`
below : (ds : List ℕ) → IsTrue (nat_lt 0 (length ds) && all_ascii_digits ds && is_in_range true (magnitude_of ds)) → (all_ascii_digits ds ≡ true) × (0 < length ds) × (magnitude_of ds ≤ 2 ^ 63)
below ds h = let k = all_three _ _ _ h in (k.1, ltb-true 0 (length ds) k.0, leb-true (magnitude_of ds) (2 ^ 63) k.2)

from_below : (ds : List ℕ) → (all_ascii_digits ds ≡ true) × (0 < length ds) × (magnitude_of ds ≤ 2 ^ 63) → IsTrue (nat_lt 0 (length ds) && all_ascii_digits ds && is_in_range true (magnitude_of ds))
from_below ds h = rw (h.0, lt-ltb 0 (length ds) h.1, le-leb (magnitude_of ds) (2 ^ 63) h.2)

above : (ds : List ℕ) → IsTrue (nat_lt 0 (length ds) && all_ascii_digits ds && is_in_range false (magnitude_of ds)) → (all_ascii_digits ds ≡ true) × (0 < length ds) × (magnitude_of ds < 2 ^ 63)
above ds h = let k = all_three _ _ _ h in (k.1, ltb-true 0 (length ds) k.0, ltb-true (magnitude_of ds) (2 ^ 63) k.2)

from_above : (ds : List ℕ) → (all_ascii_digits ds ≡ true) × (0 < length ds) × (magnitude_of ds < 2 ^ 63) → IsTrue (nat_lt 0 (length ds) && all_ascii_digits ds && is_in_range false (magnitude_of ds))
from_above ds h = rw (h.0, lt-ltb 0 (length ds) h.1, lt-ltb (magnitude_of ds) (2 ^ 63) h.2)

pub spelled : {E : Type 0} (word : List ℕ) (r : Result ℤ E) → ParsesSigned w64 10 word r → get_or word 0 0 ≢ 43 → SomeIff (result_ok r) (IsTrue (is_number word)) (value_of word)
spelled word r h plus = by_sign (starts_with_minus word) refl
  where
    by_sign : (t : Bool) → starts_with_minus word ≡ t → SomeIff (result_ok r) (IsTrue (is_number word)) (value_of word)
    by_sign true e =
        let first = eqb-true (get_or word 0 0) 45 e in
        rw e (read_as r _ _ _ _ (from_below (drop 1 word)) (below (drop 1 word)) refl (parse_signed_minus numerals w64 word r h first))
    by_sign false e =
        let first = eqb-false (get_or word 0 0) 45 e in
        rw e (read_as r _ _ _ _ (from_above word) (above word) refl (parse_signed_plain numerals w64 word r h plus first))

-- a number is ASCII
pub IsUtf8-number : (word : List ℕ) → IsTrue (is_number word) → IsUtf8 word
IsUtf8-number [] h = IsUtf8-from_ascii [] (search rules)
IsUtf8-number (first ∷ rest) h = by_sign (eqb first 45) refl
  where
    signed : first ≡ 45 → IsAscii rest → IsAscii (first ∷ rest)
    signed e ascii zero = omega arith
    signed e ascii (suc i) = ascii i

    by_sign : (t : Bool) → eqb first 45 ≡ t → IsUtf8 (first ∷ rest)
    by_sign true e =
        let k : IsTrue (nat_lt 0 (length rest) && all_ascii_digits rest && is_in_range true (magnitude_of rest)) = rw e at h in
        let ascii = IsAscii-from_digits rest (numerals.to rest (below rest k).0) in
        IsUtf8-from_ascii (first ∷ rest) (signed (eqb-true first 45 e) ascii)
    by_sign false e =
        let k : IsTrue (nat_lt 0 (length (first ∷ rest)) && all_ascii_digits (first ∷ rest) && is_in_range false (magnitude_of (first ∷ rest))) = rw e at h in
        IsUtf8-from_ascii (first ∷ rest) (IsAscii-from_digits (first ∷ rest) (numerals.to (first ∷ rest) (above (first ∷ rest) k).0))
