-- Tokens that a certificate may have, and those of its numbers.
use Rattle.std.proofs.Common.{◌≡◌, ◌<◌, ◌^◌, ℕ, negsuc, nat_lt, Bool, true, false, if◌then◌else◌, List, [], ◌∷◌, ◌++◌, decimal, refl, arith}
use Rattle.std.proofs.lemmas.Bool.Decides.{nat_tests}
use Rattle.std.specs.Fmt.{signed_decimal}
use Rattle.json.specs.Token.{Token, number, bad}
use Rattle.cert_values.specs.Laid.{natural_token, below_token}
use Rattle.cert_values.specs.Texts.{IsFine, AreFine}

pub fine_more : (ts : List Token) (t : Token) → AreFine ts → IsFine t → AreFine (ts ++ t ∷ [])
fine_more [] t h own = (own, tt)
fine_more (x ∷ ts) t h own = (h.0, fine_more ts t h.1 own)

pub fine_parts : (ts : List Token) (t : Token) → AreFine (ts ++ t ∷ []) → AreFine ts × IsFine t
fine_parts [] t h = (tt, h.0)
fine_parts (x ∷ ts) t h = let p = fine_parts ts t h.1 in ((h.0, p.0), p.1)

-- ---- numbers

small_test : (b : Bool) (n top : ℕ) (s : List ℕ) → nat_lt n top ≡ b → IsFine (if b then number s else bad) → n < top
small_test true n top s is h = grind (arith, nat_tests, is)
small_test false n top s is h = absurd h

taken : (b : Bool) (n top : ℕ) (s : List ℕ) → nat_lt n top ≡ b → n < top → (if b then number s else bad) ≡ number s
taken true n top s is less = refl
taken false n top s is less = grind (arith, nat_tests, is, less)

pub natural_small : (n : ℕ) → IsFine (natural_token n) → n < 2 ^ 64
unfolding natural_token
natural_small n h = small_test (nat_lt n 18446744073709551616) n 18446744073709551616 (decimal n) refl h

pub natural_is : (n : ℕ) → n < 2 ^ 64 → natural_token n ≡ number (decimal n)
unfolding natural_token
natural_is n less = taken (nat_lt n 18446744073709551616) n 18446744073709551616 (decimal n) refl less

pub below_small : (n : ℕ) → IsFine (below_token n) → n < 2 ^ 63
unfolding below_token
below_small n h = small_test (nat_lt n 9223372036854775808) n 9223372036854775808 (signed_decimal (negsuc n)) refl h

pub below_is : (n : ℕ) → n < 2 ^ 63 → below_token n ≡ number (signed_decimal (negsuc n))
unfolding below_token
below_is n less = taken (nat_lt n 9223372036854775808) n 9223372036854775808 (signed_decimal (negsuc n)) refl less
