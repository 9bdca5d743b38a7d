-- What the tokens of a text are spelled as.
use Rattle.std.proofs.Common.{◌≡◌, ◌≤◌, ℕ, pos, List, ◌∷◌, ap, subst, ◌∙◌}
use Rattle.std.specs.Prelude.{encode_utf8_all}
use Rattle.vlt_tokens.specs.declared.token.TokenKind.{TokenKind}
use Rattle.vlt_tokens.specs.declared.token.TokenKind.TheVariants as kind
use Rattle.vlt_tokens.specs.Characters.{IsName, value_of}
use Rattle.vlt_tokens.specs.Lexemes.{IsNoWord, IsOf, max_number, Lexeme}
use Rattle.vlt_lexer.specs.Reading.{Reads, nothing, gap, token}
use Rattle.vlt_syntax.specs.Lists.{Each}
use Rattle.vlt_syntax.specs.Tokens.{Token, name, tick, number, keyword, sign, token_from, tokens_in}
use Rattle.vlt_printer_laws.proofs.Scalars.{AreScalars, scalars_split, gap_scalars}

-- the bytes of a name that is no keyword
pub record IsNameText (bytes : List ℕ) : Type 0 where
  pub cs : List ℕ
  pub bytes_are : bytes ≡ encode_utf8_all cs
  pub scalar : AreScalars cs
  pub named : IsName cs
  pub no_word : IsNoWord cs

-- the bytes of a tick and a name
pub record IsTickText (bytes : List ℕ) : Type 0 where
  pub cs : List ℕ
  pub bytes_are : bytes ≡ encode_utf8_all (39 ∷ cs)
  pub scalar : AreScalars (39 ∷ cs)
  pub named : IsName cs

-- a text can have the token
abbrev pub IsWritten : Token → Type 0
IsWritten (name bytes) = IsNameText bytes
IsWritten (tick bytes) = IsTickText bytes
IsWritten (number z) = (n : ℕ) × (z ≡ pos n) × (n ≤ max_number)
IsWritten (keyword w) = Unit {0}
IsWritten (sign m) = Unit {0}

token_written : (k : TokenKind) (bytes piece : List ℕ) → bytes ≡ encode_utf8_all piece → AreScalars piece → IsOf k piece → IsWritten (token_from k bytes)
token_written kind.Name bytes piece e s is = record { cs = piece; bytes_are = e; scalar = s; named = is.0; no_word = is.1 }
token_written kind.Tick bytes piece e s is = record { cs = is.0; bytes_are = e ∙ ap encode_utf8_all is.1; scalar = subst AreScalars is.1 s; named = is.2 }
token_written (kind.Number z) bytes piece e s is = (value_of piece, is.1, is.2)
token_written (kind.Keyword w) bytes piece e s is = tt
token_written (kind.Sign m) bytes piece e s is = tt

pub all_written : (total : ℕ) (cs : List ℕ) (ls : List Lexeme) (left : List ℕ) → Reads total cs ls left → AreScalars cs → Each IsWritten (tokens_in ls)
all_written total cs _ left (nothing _) s = tt
all_written total cs ls left (gap _ after _ _ g r) s = all_written total after ls left r (gap_scalars cs after g s)
all_written total cs _ left (token _ l after ls _ t r) s =
    let parts = scalars_split t.piece after (subst AreScalars t.begins s) in
    (token_written l.kind l.text t.piece t.text parts.0 t.kind, all_written total after ls left r parts.1)
