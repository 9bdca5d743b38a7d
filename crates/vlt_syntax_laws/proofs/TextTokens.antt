-- A fact that each token has that a piece of text can be, all tokens of a text have.
use Rattle.std.proofs.Common.{◌≡◌, ℕ, List, []}
use Rattle.std.specs.Prelude.{encode_utf8_all}
use Rattle.std.specs.Str.{chars}
use Rattle.vlt_tokens.specs.declared.token.TokenKind.{TokenKind}
use Rattle.vlt_tokens.specs.Lexemes.{IsOf, Lexeme}
use Rattle.vlt_lexer.specs.Reading.{Reads, nothing, gap, token}
use Rattle.vlt_lexer.specs.Text.{IsTokensOf}
use Rattle.vlt_syntax.specs.Tokens.{Token, token_from, tokens_in}
use Rattle.vlt_syntax.specs.Lists.{Each}

module _ (P : Token → Type 0) (of_piece : (k : TokenKind) (piece text : List ℕ) → IsOf k piece → text ≡ encode_utf8_all piece → P (token_from k text)) where
  each_read : (total : ℕ) (cs : List ℕ) (ls : List Lexeme) (left : List ℕ) → Reads total cs ls left → Each P (tokens_in ls)
  each_read total cs _ _ (nothing _) = tt
  each_read total cs ls left (gap _ after _ _ g r) = each_read total after ls left r
  each_read total cs _ left (token _ l after ls _ is r) =
      (of_piece l.kind is.piece l.text is.kind is.text, each_read total after ls left r)

  pub each_token : (bytes : List ℕ) (ls : List Lexeme) → IsTokensOf bytes ls → Each P (tokens_in ls)
  each_token bytes ls is = each_read _ (chars bytes) ls [] is.1
