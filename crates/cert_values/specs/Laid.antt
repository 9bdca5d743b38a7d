-- The tokens that values of JSON leave after those before them. Of what a certificate doesn't have
-- the token is `bad`, which no writer has: objects, floats, and integers of more than 64 bits.
use Rattle.std.specs.Prelude.{ℕ, pos, negsuc, nat_lt, if◌then◌else◌, List, [], ◌∷◌, ◌++◌, codes, decimal}
use Rattle.std.specs.Fmt.{signed_decimal}
use Rattle.json.specs.Token as token
use Rattle.json.specs.Token.{Token, begin_array, end_array, bad}
use Rattle.cert_rows.specs.Parts.{nat}
use Rattle.cert_rows.specs.Values.{tagged_list, flag}
use Rattle.cert_rows.specs.Expressions.{magnitude, operator_data}
use Rattle.vlt_core.specs.Core as core
use Rattle.serde_json.specs.Data.{Data, null, boolean, number, string, array, object, unsigned, negative, float, Items, no_items, item}

unfoldable pub natural_token : ℕ → Token
natural_token n = if nat_lt n 18446744073709551616 then token.number (decimal n) else bad

-- of the number below zero that is so far from -1
unfoldable pub below_token : ℕ → Token
below_token n =
    if nat_lt n 9223372036854775808 then token.number (signed_decimal (negsuc n)) else bad

abbrev mutual
  pub laid : Data → List Token → List Token
  laid null out = out ++ bad ∷ []
  laid (boolean b) out = out ++ bad ∷ []
  laid (number (unsigned n)) out = out ++ natural_token n ∷ []
  laid (number (negative (pos n))) out = out ++ bad ∷ []
  laid (number (negative (negsuc n))) out = out ++ below_token n ∷ []
  laid (number (float x)) out = out ++ bad ∷ []
  laid (string s) out = out ++ token.string s ∷ []
  laid (array ds) out = items_laid ds (out ++ begin_array ∷ [])
  laid (object ms) out = out ++ bad ∷ []

  -- with the closing bracket
  pub items_laid : Items → List Token → List Token
  items_laid no_items out = out ++ end_array ∷ []
  items_laid (item d ds) out = items_laid ds (laid d out)

-- one after another
abbrev pub each_laid : List Data → List Token → List Token
each_laid [] out = out
each_laid (d ∷ ds) out = each_laid ds (laid d out)

-- the items of an expression
abbrev pub expr_laid : core.Expr → List Token → List Token
expr_laid (core.number z) out = laid (tagged_list (codes "n") (nat (magnitude z) ∷ [])) out
expr_laid (core.truth b) out = laid (tagged_list (codes "b") (flag.data_of b ∷ [])) out
expr_laid (core.var v) out = laid (tagged_list (codes "v") (nat v ∷ [])) out
expr_laid (core.field x i) out = laid (tagged_list (codes "f") (nat x ∷ nat i ∷ [])) out
expr_laid (core.unary o a) out = laid (operator_data o) (expr_laid a out)
expr_laid (core.binary o a b) out = laid (operator_data o) (expr_laid b (expr_laid a out))
