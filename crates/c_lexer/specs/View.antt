-- What the lexer's own types stand for. Nothing is forgotten.
use Rattle.std.specs.Prelude.{ℕ, List, map, drop}
use Rattle.c_syntax.specs.Tokens as t
use Rattle.c_syntax.specs.Text as text
use Rattle.c_lexer.specs.declared.token.Token.{Token}
use Rattle.c_lexer.specs.declared.token.Token.TheVariants as token
use Rattle.c_lexer.specs.declared.token.Lexeme.{Lexeme}

abbrev pub token_of : Token → t.Token
token_of token.Include = t.include
token_of token.LineEnd = t.line_end
token_of token.Define = t.define
token_of (token.Word x) = t.word x
token_of (token.Sign x) = t.sign x
token_of (token.Operator o) = t.operator o
token_of (token.Primitive p) = t.primitive p
token_of (token.Var v) = t.variable v
token_of (token.Name f) = t.name f
token_of (token.Number z) = t.number z
token_of (token.Text s) = t.text s.now
token_of token.Stray = t.stray

abbrev pub lexeme_of : Lexeme → text.Lexeme
lexeme_of l = record { token = token_of l.token; at = l.at }

abbrev pub lexemes_of : List Lexeme → List text.Lexeme
lexemes_of = map lexeme_of

-- the tokens from a position on
abbrev pub tokens_from : List Lexeme → ℕ → List t.Token
tokens_from ls at = map (λ l. token_of l.token) (drop at ls)
