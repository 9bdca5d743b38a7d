-- What a head has before its parameters.
use Rattle.std.specs.Prelude.{List, ◌∷◌}
use Rattle.vlt_tokens.specs.declared.token.Mark.TheVariants as mark
use Rattle.vlt_syntax.specs.Tokens.{Token, sign}
use Rattle.vlt_syntax.specs.Tree.{Name, ResultType}
use Rattle.vlt_syntax.specs.Spelling.{name_then, result_type_then}
use Rattle.vlt_syntax.specs.Places.{Placing, without_tokens, ◌◂◌, ◌⊛◌, name_at, result_type_at}

-- what it gives, its name and the opening parenthesis
abbrev pub start_then : ResultType → Name → List Token → List Token
start_then r n rest = result_type_then r (name_then n (sign mark.OpenParen ∷ rest))

-- where these stand
abbrev pub start_at : ResultType × Name → Placing (ResultType × Name)
start_at h = without_tokens (λ r n. (r, n)) ⊛ result_type_at h.0 ⊛ name_at h.1 ◂ 1
