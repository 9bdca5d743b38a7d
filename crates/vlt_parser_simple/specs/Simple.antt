-- What parts of the parser say of statements without blocks.
use Rattle.std.specs.Prelude.{ℕ, List, ◌∷◌}
use Rattle.vlt_tokens.specs.declared.token.Mark.TheVariants as mark
use Rattle.vlt_syntax.specs.Tokens.{Token, sign}
use Rattle.vlt_syntax.specs.Spelling.{right_then}
use Rattle.vlt_syntax.specs.Tree.{Expr, Right, Stmt}
use Rattle.vlt_syntax.specs.Grammar.{language, IsStmt}
use Rattle.vlt_syntax.specs.Places.{Placing, without_tokens, ◌◂◌, ◌⊛◌, expr_at, right_at}

-- a statement of the language that has no block in it, so it may stand at every depth
abbrev pub IsSimple : Stmt → Type 0
IsSimple s = (room : ℕ) → IsStmt language room s

-- an expression with its parentheses
abbrev pub condition_at : Expr → Placing Expr
condition_at e = without_tokens (λ x. x) ◂ 1 ⊛ expr_at e ◂ 1

-- what a variable is set to, with the signs around it
abbrev pub set_then : Right → List Token → List Token
set_then v rest = sign mark.Assign ∷ right_then v (sign mark.Semicolon ∷ rest)

abbrev pub set_at : Right → Placing Right
set_at v = without_tokens (λ x. x) ◂ 1 ⊛ right_at v ◂ 1
