-- A number, or -1 in its place.
use Rattle.std.proofs.Common.{◌≡◌, refl, sym, ap, ◌^◌, ℕ, ℤ, zero, suc, pos, negsuc, ◌==◌, nat_lt, Bool, true, false, if◌then◌else◌, Option, Some, None, option_map, option_and_then, is_some, arith}
use Rattle.std.proofs.lemmas.Bool.Decides.{nat_tests}
use Rattle.serde_json.specs.Data.{Data, null, boolean, number, string, array, object, unsigned, negative, float}
use Rattle.serde_json.specs.Find.{as_number, as_i64}
use Rattle.cert_rows.specs.Parts.{minus_or, is_number}
use Rattle.cert_rows.specs.Values.{id}

abbrev pub by_sign : Option ℤ → Option (Option ℕ) → Option (Option ℕ)
by_sign (Some (negsuc zero)) o = Some None
by_sign _ o = o

unsigned_sign : (n : ℕ) (b : Bool) (o : Option (Option ℕ)) → by_sign (if b then Some (pos n) else None) o ≡ o
unsigned_sign n true o = refl
unsigned_sign n false o = refl

not_zero : (n : ℕ) → (suc n == 0) ≡ false
not_zero n = grind (arith, nat_tests)

pub minus_is_read : (d : Data) → (minus_or id).of_data d ≡ by_sign (option_and_then as_i64 (as_number d)) (option_map Some (id.of_data d))
minus_is_read null = refl
minus_is_read (boolean b) = refl
minus_is_read (number (unsigned n)) = sym (unsigned_sign n (nat_lt n (2 ^ 63)) (option_map Some (id.of_data (number (unsigned n)))))
minus_is_read (number (negative (pos n))) = refl
minus_is_read (number (negative (negsuc zero))) = refl
minus_is_read (number (negative (negsuc (suc n)))) = ap (λ b. if b then Some None else None) (not_zero n)
minus_is_read (number (float x)) = refl
minus_is_read (string s) = refl
minus_is_read (array ds) = refl
minus_is_read (object ms) = refl

-- whether a number stands there
pub zero_is_read : (d : Data) → is_number d ≡ is_some (as_number d)
zero_is_read null = refl
zero_is_read (boolean b) = refl
zero_is_read (number n) = refl
zero_is_read (string s) = refl
zero_is_read (array ds) = refl
zero_is_read (object ms) = refl
