-- What parts of the parser say of statements.
use Rattle.std.specs.Prelude.{List, ◌∷◌}
use Rattle.vlt_tokens.specs.declared.token.Mark.TheVariants as mark
use Rattle.vlt_tokens.specs.declared.token.Word.TheVariants as word
use Rattle.vlt_syntax.specs.Tokens.{Token, sign, keyword}
use Rattle.vlt_syntax.specs.Tree.{Name, Arms}
use Rattle.vlt_syntax.specs.Lists.{enclosed_then}
use Rattle.vlt_syntax.specs.Spelling.{name_then, case_name_then}
use Rattle.vlt_syntax.specs.Places.{Placing, without_tokens, ◌◂◌, ◌⊛◌, name_at, enclosed_at, arms_at}

-- `focus`, the variable, `as`, `tracked`, the key in parentheses, and the new name
abbrev pub focus_then : (variable key alias : Name) → List Token → List Token
focus_then x k z rest = keyword word.Focus ∷ name_then x (keyword word.As ∷ keyword word.Tracked ∷ sign mark.OpenParen ∷ name_then k (sign mark.CloseParen ∷ name_then z rest))

-- `switch`, the variable in parentheses, and the opening brace
abbrev pub switch_then : Name → List Token → List Token
switch_then x rest = keyword word.Switch ∷ sign mark.OpenParen ∷ name_then x (sign mark.CloseParen ∷ sign mark.OpenBrace ∷ rest)

-- `case`, the name, the variables of an arm, and the colon
abbrev pub case_then : Name → List Name → List Token → List Token
case_then c vs rest = keyword word.Case ∷ case_name_then c (enclosed_then name_then mark.OpenParen mark.CloseParen vs (sign mark.Colon ∷ rest))

-- arms with the closing brace after them
abbrev pub rows_at : Arms → Placing Arms
rows_at arms = arms_at arms ◂ 1

-- the names of a `focus`, up to its block
abbrev pub focus_at : Name × Name × Name → Placing (Name × Name × Name)
focus_at n = without_tokens (λ x k z. (x, k, z)) ◂ 1 ⊛ name_at n.0 ◂ 3 ⊛ name_at n.1 ◂ 1 ⊛ name_at n.2

-- the variable of a `switch`, with what stands around it
abbrev pub switch_at : Name → Placing Name
switch_at x = without_tokens (λ y. y) ◂ 2 ⊛ name_at x ◂ 2

-- the name and the variables of an arm, up to its block
abbrev pub case_at : Name × List Name → Placing (Name × List Name)
case_at c = without_tokens (λ name variables. (name, variables)) ◂ 1 ⊛ name_at c.0 ⊛ enclosed_at name_at c.1 ◂ 1
