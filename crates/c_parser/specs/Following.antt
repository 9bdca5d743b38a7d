-- How the parts of the parser follow the automaton. Only private contracts cite this.
use Rattle.std.specs.Prelude.{◌≡◌, ◌+◌, ℕ, Bool, true, false, List, [], ◌∷◌, ◌++◌, drop, Option, Some, None, Result, Ok, Err}
use Rattle.c_syntax.specs.Tokens.{Token}
use Rattle.c_syntax.specs.Text as text
use Rattle.c_syntax.specs.Grammar.{language}
use Rattle.c_automaton.specs.Refusals.{Refusal, unexpected_at, cut_short, over_limit}
use Rattle.c_automaton.specs.Automaton.{Symbol, Verdict, stmts, blocks_in, parens_in, run}
use Rattle.c_automaton.specs.Ahead.{Begins}
use Rattle.c_lexer.specs.declared.token.Lexeme.{Lexeme}
use Rattle.c_parser.specs.declared.error.ParseError.{ParseError}
use Rattle.c_parser.specs.declared.error.ParseError.TheVariants.{Unexpected, EndOfText, Limit, Memory}
use Rattle.c_parser.specs.declared.unit.Body.{Body}
use Rattle.c_lexer.specs.View.{lexemes_of}

-- the tokens from a position on, with their places
abbrev pub ahead : List Lexeme → ℕ → List text.Lexeme
ahead ls at = lexemes_of (drop at ls)

-- this token comes, and then those after the other position
abbrev pub Comes : Token → List Lexeme → ℕ → ℕ → Type 0
Comes token ls at next = Begins token (ahead ls at) (ahead ls next)

-- what an error tells; want of memory tells nothing
abbrev pub told_of : ParseError → Option Refusal
told_of (Unexpected at) = Some (unexpected_at at)
told_of EndOfText = Some cut_short
told_of (Limit n) = Some (over_limit n)
told_of Memory = None

-- the automaton refuses as the error says
abbrev pub Fails : Verdict → ParseError → Type 0
Fails v e = (f : Refusal) → told_of e ≡ Some f → v ≡ Err f

-- The part takes just what the automaton takes from the first symbols on its stack to the second, whatever lies below them,
-- or refuses as it does.
abbrev pub Turns : {A : Type 0} → (before after : List Symbol) → (A → ℕ) → List Lexeme → ℕ → Result A ParseError → Type 0
Turns before after next ls at (Ok x) = (ys : List Symbol) → run language (before ++ ys) (ahead ls at) ≡ run language (after ++ ys) (ahead ls (next x))
Turns before after next ls at (Err e) = (ys : List Symbol) → Fails (run language (before ++ ys) (ahead ls at)) e

-- the same where those below fit
abbrev pub TurnsWhere : {A : Type 0} → (fits : List Symbol → Type 0) → (before after : List Symbol) → (A → ℕ) → List Lexeme → ℕ → Result A ParseError → Type 0
TurnsWhere fits before after next ls at (Ok x) = (ys : List Symbol) → fits ys → run language (before ++ ys) (ahead ls at) ≡ run language (after ++ ys) (ahead ls (next x))
TurnsWhere fits before after next ls at (Err e) = (ys : List Symbol) → fits ys → Fails (run language (before ++ ys) (ahead ls at)) e

-- with the first symbols the automaton goes on as with the second, from where those begin
abbrev pub GoesOn : (before after : List Symbol) → List Lexeme → (at next : ℕ) → Type 0
GoesOn before after ls at next = (ys : List Symbol) → run language (before ++ ys) (ahead ls at) ≡ run language (after ++ ys) (ahead ls next)

-- it takes just what the symbols take
abbrev pub Takes : {A : Type 0} → List Symbol → List Lexeme → ℕ → Result (A × ℕ) ParseError → Type 0
Takes symbols ls at r = Turns symbols [] (λ x. x.1) ls at r

-- where an expression may be so deep
abbrev pub AtDepth : ℕ → List Symbol → Type 0
AtDepth depth ys = parens_in ys + depth ≡ language.expressions

-- where blocks may nest so deep in statements
abbrev pub WithRoom : Bool → ℕ → List Symbol → Type 0
WithRoom counts room ys = blocks_in (stmts counts ∷ ys) + room ≡ 191

-- outside all blocks
abbrev pub HasNoBlock : List Symbol → Type 0
HasNoBlock ys = blocks_in ys ≡ 0

-- no function with a body was read yet
abbrev pub before_bodies : List Body → Bool
before_bodies [] = true
before_bodies (b ∷ bs) = false
