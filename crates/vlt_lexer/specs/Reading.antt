-- A text from left to right, as tokens with blanks and comments between them.
use Rattle.std.specs.Prelude.{◌≡◌, ◌<◌, ℕ, ◌+◌, true, false, List, [], ◌∷◌, ◌++◌, Some, None, codes, encode_utf8_all}
use Rattle.vlt_lexer.specs.declared.scan.Stuck.{Stuck}
use Rattle.vlt_lexer.specs.declared.scan.Stuck.TheVariants as stuck
use Rattle.vlt_tokens.specs.Characters.{is_blank, IsDigits, value_of, after_line, after_close, width}
use Rattle.vlt_tokens.specs.Lexemes.{Lexeme, IsPiece, IsLongest, IsOf, max_number}

-- the text begins with a blank or a comment, after which the second stands
pub data IsGap : List ℕ → List ℕ → Type 0 where
  blank : (cs : List ℕ) (c : ℕ) (after : List ℕ) → cs ≡ c ∷ after → is_blank c ≡ true → IsGap cs after
  line : (cs inside after : List ℕ) → cs ≡ codes "//" ++ inside → after ≡ after_line inside → IsGap cs after
  block : (cs inside after : List ℕ) → cs ≡ codes "/*" ++ inside → after_close inside ≡ Some after → IsGap cs after

-- the rest of a text of so many bytes begins with a token, which is the longest piece there
pub record IsToken (total : ℕ) (cs : List ℕ) (l : Lexeme) (after : List ℕ) : Type 0 where
  pub piece : List ℕ
  pub begins : cs ≡ piece ++ after
  pub longest : IsLongest piece cs
  pub kind : IsOf l.kind piece
  pub text : l.text ≡ encode_utf8_all piece
  pub from : l.from + width cs ≡ total
  pub to : l.to + width after ≡ total

-- in a text of so many bytes these tokens are read from the first rest on, and the second is left
pub data Reads (total : ℕ) : List ℕ → List Lexeme → List ℕ → Type 0 where
  nothing : (cs : List ℕ) → Reads total cs [] cs
  gap : (cs after : List ℕ) (ls : List Lexeme) (left : List ℕ) → IsGap cs after → Reads total after ls left → Reads total cs ls left
  token : (cs : List ℕ) (l : Lexeme) (after : List ℕ) (ls : List Lexeme) (left : List ℕ) → IsToken total cs l after → Reads total after ls left → Reads total cs (l ∷ ls) left

-- No token, blank or comment can be read at the front of the text: it begins with no blank and no piece, or with digits of too
-- large a number, or with a comment that isn't closed.
abbrev pub IsStuck : Stuck → List ℕ → Type 0
IsStuck stuck.BadByte cs = (c : ℕ) × (after : List ℕ) × (cs ≡ c ∷ after) × (is_blank c ≡ false) × ((piece rest : List ℕ) → cs ≡ piece ++ rest → IsPiece piece → ⊥)
IsStuck stuck.NumberTooLarge cs = (piece after : List ℕ) × (cs ≡ piece ++ after) × IsDigits piece × IsLongest piece cs × (max_number < value_of piece)
IsStuck stuck.OpenComment cs = (inside : List ℕ) × (cs ≡ codes "/*" ++ inside) × (after_close inside ≡ None)
