-- What stands ahead of a part of the parser, and how it follows the stack automaton.
use Rattle.std.specs.Prelude.{◌≡◌, ◌≤◌, ◌-◌, ℕ, false, List, [], ◌∷◌, ◌++◌, map, drop, Option, Some, None, Result, Ok, Err}
use Rattle.vlt_ops.specs.declared.Op.{Op}
use Rattle.vlt_tokens.specs.declared.token.Word.{Word}
use Rattle.vlt_tokens.specs.declared.token.Mark.{Mark}
use Rattle.vlt_tokens.specs.declared.token.TokenKind.{TokenKind}
use Rattle.vlt_tokens.specs.declared.token.Token.{Token as CodeToken}
use Rattle.vlt_tokens.specs.Lexemes.{lexeme}
use Rattle.vlt_syntax.specs.Tokens as t
use Rattle.vlt_syntax.specs.Tokens.{Token, token_from}
use Rattle.vlt_syntax.specs.Spelling.{operator_of}
use Rattle.vlt_syntax.specs.Grammar.{level}
use Rattle.vlt_automaton.specs.Language.{Located, Left, located_of, Symbol, Refusal, Verdict, unexpected_at, ended, over_limit, run, is_sign, is_keyword}
use Rattle.vlt_parser_exprs.specs.declared.lists.Most.{Most}
use Rattle.vlt_parser_exprs.specs.declared.error.ParseError.{ParseError}
use Rattle.vlt_parser_exprs.specs.declared.error.ParseError.TheVariants.{Unexpected, EndOfText, Limit, Memory}

-- the tokens from a position on, with their places
abbrev pub lexemes_from : List CodeToken → ℕ → List Located
lexemes_from tokens at = map (λ t. located_of (lexeme t)) (drop at tokens)

-- this token comes, and then those
pub record Begins (t : Token) (ts rest : List Located) : Type 0 where
  pub at : ℕ
  pub is : ts ≡ record { token = t; at = at } ∷ rest

-- a token of this kind comes, and then those
pub record BeginsWith (kind : TokenKind) (ts rest : List Located) : Type 0 where
  pub text : List ℕ
  pub begins : Begins (token_from kind text) ts rest

-- another token comes, or none
abbrev pub LacksSign : Mark → List Located → Type 0
LacksSign m [] = Unit {0}
LacksSign m (x ∷ xs) = is_sign m x.token ≡ false

abbrev pub LacksKeyword : Word → List Located → Type 0
LacksKeyword w [] = Unit {0}
LacksKeyword w (x ∷ xs) = is_keyword w x.token ≡ false

-- the operator between two operands comes, and then those
pub record BeginsOperator (op : Op) (ts rest : List Located) : Type 0 where
  pub mark : Mark
  pub of : operator_of mark ≡ Some op
  pub begins : Begins (t.sign mark) ts rest

-- the sign that comes
abbrev pub sign_in : Token → Option Mark
sign_in (t.sign m) = Some m
sign_in _ = None

abbrev pub first_sign : List Located → Option Mark
first_sign [] = None
first_sign (x ∷ xs) = sign_in x.token

abbrev pub level_of : Option Op → ℕ
level_of None = 0
level_of (Some o) = level o

abbrev pub sign_level : Option Mark → ℕ
sign_level None = 0
sign_level (Some m) = level_of (operator_of m)

-- the level of the operator between two operands that comes next, or 0 where none comes
abbrev pub next_level : List Located → ℕ
next_level ts = sign_level (first_sign ts)

-- why nothing goes on with what comes
abbrev pub refusal : List Located → ParseError
refusal [] = EndOfText
refusal (x ∷ xs) = Unexpected x.at

-- the fault that an error tells; want of memory is none
abbrev pub refusal_of : ParseError → Option Refusal
refusal_of (Unexpected at) = Some (unexpected_at at)
refusal_of EndOfText = Some ended
refusal_of (Limit n) = Some (over_limit n)
refusal_of Memory = None

-- the automaton refuses as the error says
abbrev pub Fails : Verdict → ParseError → Type 0
Fails v e = (f : Refusal) → refusal_of e ≡ Some f → v ≡ Err f

-- The part takes just what the automaton takes from the first symbols on its stack to the second, whatever lies below them,
-- or refuses as the automaton does.
abbrev pub Turns : {A : Type 0} → List Symbol → (A → List Symbol) → (A → ℕ) → List CodeToken → ℕ → Result A ParseError → Type 0
Turns before after next tokens at (Ok x) = (s : List Symbol) → run (before ++ s) (lexemes_from tokens at) ≡ run (after x ++ s) (lexemes_from tokens (next x))
Turns before after next tokens at (Err e) = (s : List Symbol) → Fails (run (before ++ s) (lexemes_from tokens at)) e

-- It takes just what the symbols take.
abbrev pub Follows : {A : Type 0} → List Symbol → (A → ℕ) → List CodeToken → ℕ → Result A ParseError → Type 0
Follows symbols next tokens at r = Turns symbols (λ x. []) next tokens at r

-- what is left of a limit after so many things
abbrev pub left_of : Option Most → ℕ → Option Left
left_of None n = None
left_of (Some most) n = Some (record { limit = most.limit; more = most.count - n })

-- the error says that so many are all that is allowed
abbrev pub IsFull : Option Most → ℕ → ParseError → Type 0
IsFull None n e = ⊥
IsFull (Some most) n e = (most.count ≤ n) × (e ≡ Limit most.limit)
