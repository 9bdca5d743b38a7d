-- The numbers of a text are from 0 to 2^63 - 1.
use Rattle.std.proofs.Common.{◌≡◌, ℕ, List, subst}
use Rattle.std.specs.Prelude.{encode_utf8_all}
use Rattle.vlt_tokens.specs.declared.token.TokenKind.{TokenKind}
use Rattle.vlt_tokens.specs.declared.token.TokenKind.TheVariants as kind
use Rattle.vlt_tokens.specs.Characters.{value_of}
use Rattle.vlt_tokens.specs.Lexemes.{IsOf, Lexeme}
use Rattle.vlt_lexer.specs.Text.{IsTokensOf}
use Rattle.vlt_syntax.specs.Tokens.{token_from, tokens_in}
use Rattle.vlt_syntax.specs.Tree.{Tree}
use Rattle.vlt_syntax.specs.Lists.{Each}
use Rattle.vlt_syntax.specs.Spelling.{spelling}
use Rattle.vlt_syntax_laws.specs.Numbers.{IsNumbered, HasNumbers}
use Rattle.vlt_syntax_laws.proofs.TextTokens.{each_token}

numbered : (k : TokenKind) (piece text : List ℕ) → IsOf k piece → text ≡ encode_utf8_all piece → IsNumbered (token_from k text)
numbered kind.Name piece text is e = tt
numbered kind.Tick piece text is e = tt
numbered (kind.Number z) piece text is e = (value_of piece, is.1, is.2)
numbered (kind.Keyword w) piece text is e = tt
numbered (kind.Sign m) piece text is e = tt

pub text_numbers : (bytes : List ℕ) (ls : List Lexeme) (t : Tree) → IsTokensOf bytes ls → tokens_in ls ≡ spelling t → HasNumbers t
text_numbers bytes ls t is e = subst (Each IsNumbered) e (each_token IsNumbered numbered bytes ls is)
