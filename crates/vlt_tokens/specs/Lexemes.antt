-- Tokens at their places, the pieces of a text, and which of these are tokens.
use Rattle.std.specs.Prelude.{◌≡◌, ◌≤◌, ℕ, pos, List, ◌∷◌, ◌++◌, length, map, codes}
use Rattle.vlt_tokens.specs.declared.token.Word.{Word}
use Rattle.vlt_tokens.specs.declared.token.Mark.{Mark}
use Rattle.vlt_tokens.specs.declared.token.Token.{Token}
use Rattle.vlt_tokens.specs.declared.token.TokenKind.{TokenKind}
use Rattle.vlt_tokens.specs.declared.token.TokenKind.TheVariants as kind
use Rattle.vlt_tokens.specs.Characters.{IsName, IsDigits, value_of}
use Rattle.vlt_tokens.specs.Spelling.{word_text, sign_text}

-- a token: what it is, its bytes, and how many bytes of the text stand before it and before its end
pub record Lexeme : Type 0 where
  pub kind : TokenKind
  pub text : List ℕ
  pub from : ℕ
  pub to : ℕ

abbrev pub lexeme : Token → Lexeme
lexeme t = record { kind = t.kind; text = t.text.now; from = t.at.from; to = t.at.to }

abbrev pub lexemes : List Token → List Lexeme
lexemes ts = map lexeme ts

-- What can stand as one piece, as far as its characters go. What opens a comment is one, so that no sign is taken there.
pub data IsPiece : List ℕ → Type 0 where
  name : (cs : List ℕ) → IsName cs → IsPiece cs
  tick : (cs : List ℕ) → IsName cs → IsPiece (39 ∷ cs)
  digits : (cs : List ℕ) → IsDigits cs → IsPiece cs
  sign : (m : Mark) → IsPiece (sign_text m)
  line_opens : IsPiece (codes "//")
  block_opens : IsPiece (codes "/*")

-- no piece at the front of the text is longer
abbrev pub IsLongest : List ℕ → List ℕ → Type 0
IsLongest piece text = (other rest : List ℕ) → text ≡ other ++ rest → IsPiece other → length other ≤ length piece

abbrev pub max_number : ℕ
max_number = 9223372036854775807

abbrev pub IsNoWord : List ℕ → Type 0
IsNoWord cs = (w : Word) → cs ≡ word_text w → ⊥

-- the piece is a token of the kind
abbrev pub IsOf : TokenKind → List ℕ → Type 0
IsOf kind.Name cs = IsName cs × IsNoWord cs
IsOf kind.Tick cs = (name : List ℕ) × (cs ≡ 39 ∷ name) × IsName name
IsOf (kind.Number z) cs = IsDigits cs × (z ≡ pos (value_of cs)) × (value_of cs ≤ max_number)
IsOf (kind.Keyword w) cs = cs ≡ word_text w
IsOf (kind.Sign m) cs = cs ≡ sign_text m
