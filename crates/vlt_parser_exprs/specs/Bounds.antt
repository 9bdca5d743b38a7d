-- What an entry with a bound has after its opening parenthesis.
use Rattle.std.specs.Prelude.{List, ◌∷◌}
use Rattle.vlt_tokens.specs.declared.token.Mark.TheVariants as mark
use Rattle.vlt_syntax.specs.Tokens.{Token, sign}
use Rattle.vlt_syntax.specs.Tree.{Name}
use Rattle.vlt_syntax.specs.Spelling.{name_then}
use Rattle.vlt_syntax.specs.Places.{Placing, without_tokens, ◌◂◌, ◌⊛◌, name_at}

-- the variable, `<=`, the state and the closing parenthesis
abbrev pub bound_then : (variable state : Name) → List Token → List Token
bound_then v b rest = name_then v (sign mark.LessEqual ∷ name_then b (sign mark.CloseParen ∷ rest))

-- where these stand
abbrev pub bound_at : Name × Name → Placing (Name × Name)
bound_at x = without_tokens (λ v b. (v, b)) ⊛ name_at x.0 ◂ 1 ⊛ name_at x.1 ◂ 1
