-- What a part of the parser reads. Only private contracts cite this.
use Rattle.std.specs.Prelude.{◌≡◌, ◌<◌, ◌≤◌, ℕ, Bool, true, false, List, ◌∷◌, length}
use Rattle.c_syntax.specs.declared.program.CVar.{CVar}
use Rattle.c_syntax.specs.declared.token.CWord.{CWord}
use Rattle.c_syntax.specs.declared.token.CWord.TheVariants.{Numbers, References}
use Rattle.c_syntax.specs.Tokens.{Token}
use Rattle.c_syntax.specs.C.{Stmt}
use Rattle.c_syntax.specs.Unit.{Declaration, Head, Body}
use Rattle.c_syntax.specs.Spelling.{stmt_then, declaration_then, params_then, head_then, body_then}
use Rattle.c_lexer.specs.declared.token.Lexeme.{Lexeme}
use Rattle.c_lexer.specs.View.{tokens_from}

-- the word for the kind of a cell: of references, or of numbers
abbrev pub kind_word : Bool → CWord
kind_word true = References
kind_word false = Numbers

-- the variable of references with this number
abbrev pub referring : ℕ → CVar
referring number = record { reference = true; number = number }

-- The tokens from the first position up to the second are the part's own: `spelled` puts them before those that come.
pub record Reads (ls : List Lexeme) (at next : ℕ) (spelled : List Token → List Token) : Type 0 where
  pub spells : tokens_from ls at ≡ spelled (tokens_from ls next)
  pub later : at < next
  pub within : next ≤ length ls

-- there may be none
pub record ReadsSome (ls : List Lexeme) (at next : ℕ) (spelled : List Token → List Token) : Type 0 where
  pub spells : tokens_from ls at ≡ spelled (tokens_from ls next)
  pub later : at ≤ next
  pub within : next ≤ length ls

-- after a token that was read before
pub record ReadsAfter (first : Token) (ls : List Lexeme) (at next : ℕ) (spelled : List Token → List Token) : Type 0 where
  pub spells : first ∷ tokens_from ls at ≡ spelled (tokens_from ls next)
  pub later : at < next
  pub within : next ≤ length ls

-- after two such tokens
pub record ReadsAfterTwo (first second : Token) (ls : List Lexeme) (at next : ℕ) (spelled : List Token → List Token) : Type 0 where
  pub spells : first ∷ second ∷ tokens_from ls at ≡ spelled (tokens_from ls next)
  pub later : at < next
  pub within : next ≤ length ls

-- what goes on after the first block of an `if`: the statement up to there, and all of it
pub record ReadsOn (ls : List Lexeme) (at next : ℕ) (first all : Stmt) : Type 0 where
  pub spells : stmt_then first (tokens_from ls at) ≡ stmt_then all (tokens_from ls next)
  pub later : at ≤ next
  pub within : next ≤ length ls

-- parameters after the first, which is that one
pub record ReadsParams (ls : List Lexeme) (at next : ℕ) (first : Declaration) (params : List Declaration) : Type 0 where
  pub spells : declaration_then first (tokens_from ls at) ≡ params_then params (tokens_from ls next)
  pub later : at < next
  pub within : next ≤ length ls

-- a function after its head
pub record ReadsBody (ls : List Lexeme) (at next : ℕ) (head : Head) (body : Body) : Type 0 where
  pub spells : head_then head (tokens_from ls at) ≡ body_then body (tokens_from ls next)
  pub later : at < next
  pub within : next ≤ length ls
