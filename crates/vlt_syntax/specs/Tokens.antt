-- Tokens without their places.
use Rattle.std.specs.Prelude.{ℕ, ℤ, List, map}
use Rattle.vlt_tokens.specs.declared.token.Word.{Word}
use Rattle.vlt_tokens.specs.declared.token.Mark.{Mark}
use Rattle.vlt_tokens.specs.declared.token.TokenKind.{TokenKind}
use Rattle.vlt_tokens.specs.declared.token.TokenKind.TheVariants as kind
use Rattle.vlt_tokens.specs.declared.token.Token.{Token as CodeToken}
use Rattle.vlt_tokens.specs.Lexemes.{Lexeme}

-- A token. Names have their bytes, ticks theirs with the `'`.
pub data Token : Type 0 where
  name : List ℕ → Token
  tick : List ℕ → Token
  number : ℤ → Token
  keyword : Word → Token
  sign : Mark → Token

abbrev pub token_from : TokenKind → List ℕ → Token
token_from kind.Name text = name text
token_from kind.Tick text = tick text
token_from (kind.Number z) text = number z
token_from (kind.Keyword w) text = keyword w
token_from (kind.Sign m) text = sign m

abbrev pub token_of : CodeToken → Token
token_of t = token_from t.kind t.text.now

abbrev pub tokens_of : List CodeToken → List Token
tokens_of = map token_of

-- the tokens of a text, without their places
abbrev pub tokens_in : List Lexeme → List Token
tokens_in = map (λ l. token_from l.kind l.text)
