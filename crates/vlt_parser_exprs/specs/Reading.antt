-- What a part of the parser says of the tokens before it.
use Rattle.std.specs.Prelude.{◌≡◌, ◌<◌, ◌≤◌, ℕ, List, length, drop, Option, Some, None}
use Rattle.vlt_tokens.specs.declared.token.Token.{Token as CodeToken}
use Rattle.vlt_parser_exprs.specs.declared.lists.Most.{Most}
use Rattle.vlt_syntax.specs.Tokens.{Token, tokens_of}
use Rattle.vlt_syntax.specs.Places.{Spans, Placing, span_in}
use Rattle.vlt_tokens.specs.Lexemes.{lexemes}

-- the tokens from a position on
abbrev pub tokens_from : List CodeToken → ℕ → List Token
tokens_from tokens at = tokens_of (drop at tokens)

-- the span of the tokens from one position up to another
abbrev pub spans : List CodeToken → Spans
spans tokens = span_in (lexemes tokens)

-- The thing has its first token at the first position and its last before the second, and so have its parts theirs.
abbrev pub Stands : {X : Type 0} → (X → Placing X) → List CodeToken → ℕ → X → ℕ → Type 0
Stands place tokens at x next = place x (spans tokens) at ≡ (x, next)

-- a position after another, within the list
pub record Moves {X : Type 0} (xs : List X) (at next : ℕ) : Type 0 where
  pub later : at < next
  pub within : next ≤ length xs

-- a position at another or after it, within the list
pub record Stays {X : Type 0} (xs : List X) (at next : ℕ) : Type 0 where
  pub later : at ≤ next
  pub within : next ≤ length xs

-- no more than what is allowed
abbrev pub IsWithin : Option Most → ℕ → Type 0
IsWithin None n = Unit {0}
IsWithin (Some most) n = n ≤ most.count

-- one thing is allowed
abbrev pub IsSomeMost : Option Most → Type 0
IsSomeMost most = IsWithin most 1
