-- The facts that a part of the parser promises: of what it made where it made something, and what the automaton does either way.
use Rattle.std.specs.Prelude.{◌≡◌, ◌+◌, ℕ, List, ◌∷◌, Option, IfOk, IfSome, Result}
use Rattle.vlt_ops.specs.declared.Op.{Op}
use Rattle.vlt_tokens.specs.declared.token.TokenKind.{TokenKind}
use Rattle.vlt_tokens.specs.declared.token.Token.{Token as CodeToken}
use Rattle.vlt_syntax.specs.Tokens.{Token}
use Rattle.vlt_syntax.specs.Places.{Placing}
use Rattle.vlt_automaton.specs.Language.{Symbol}
use Rattle.vlt_parser_exprs.specs.Reading.{tokens_from, Stands, Moves, Stays}
use Rattle.vlt_parser_exprs.specs.Ahead.{lexemes_from, Begins, BeginsWith, BeginsOperator, Follows}
use Rattle.vlt_parser_exprs.specs.declared.error.ParseError.{ParseError}

-- The thing, as it is viewed, is spelled by the tokens from the position up to the one after it.
abbrev pub Spells : {A X : Type 0} → (A → X) → (X → List Token → List Token) → List CodeToken → ℕ → Result (A × ℕ) ParseError → Type 0
Spells view spell tokens at r = IfOk r (λ x. tokens_from tokens at ≡ spell (view x.0) (tokens_from tokens x.1))

-- the same with one token before the position
abbrev pub SpellsAfter : {A X : Type 0} → Token → (A → X) → (X → List Token → List Token) → List CodeToken → ℕ → Result (A × ℕ) ParseError → Type 0
SpellsAfter before view spell tokens at r = IfOk r (λ x. before ∷ tokens_from tokens at ≡ spell (view x.0) (tokens_from tokens x.1))

-- it stands where these tokens do, and so do its parts
abbrev pub Lies : {A X : Type 0} → (A → X) → (X → Placing X) → List CodeToken → ℕ → Result (A × ℕ) ParseError → Type 0
Lies view place tokens at r = IfOk r (λ x. Stands place tokens at (view x.0) x.1)

-- it is such a thing of the language
abbrev pub Holds : {A X : Type 0} → (A → X) → (X → Type 0) → Result (A × ℕ) ParseError → Type 0
Holds view Right r = IfOk r (λ x. Right (view x.0))

-- and so is one that may be left out, where it is there
abbrev pub MayBe : {A X : Type 0} → (A → Option X) → (X → Type 0) → Result (A × ℕ) ParseError → Type 0
MayBe view Right r = IfOk r (λ x. IfSome (view x.0) Right)

-- one token or more was taken
abbrev pub Advances : {A : Type 0} → List CodeToken → ℕ → Result (A × ℕ) ParseError → Type 0
Advances tokens at r = IfOk r (λ x. Moves tokens at x.1)

-- or none
abbrev pub MayAdvance : {A : Type 0} → List CodeToken → ℕ → Result (A × ℕ) ParseError → Type 0
MayAdvance tokens at r = IfOk r (λ x. Stays tokens at x.1)

-- The automaton takes just these tokens from the symbols on its stack, or refuses as the part does.
abbrev pub Takes : {A : Type 0} → List Symbol → List CodeToken → ℕ → Result (A × ℕ) ParseError → Type 0
Takes symbols tokens at r = Follows symbols (λ x. x.1) tokens at r

-- ---- what comes

-- this token stands at the position, with the other position after it
abbrev pub Comes : Token → List CodeToken → ℕ → ℕ → Type 0
Comes t tokens at next = Begins t (lexemes_from tokens at) (lexemes_from tokens next)

-- a token of this kind stands there
abbrev pub KindComes : TokenKind → List CodeToken → ℕ → Type 0
KindComes kind tokens at = BeginsWith kind (lexemes_from tokens at) (lexemes_from tokens (at + 1))

-- the operator between two operands stands there
abbrev pub OperatorComes : Op → List CodeToken → ℕ → Type 0
OperatorComes op tokens at = BeginsOperator op (lexemes_from tokens at) (lexemes_from tokens (at + 1))
