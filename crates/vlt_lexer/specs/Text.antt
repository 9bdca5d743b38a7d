-- Whole texts, as bytes.
use Rattle.std.specs.Prelude.{◌≡◌, ◌<◌, ◌≤◌, ℕ, ◌+◌, List, [], ◌∷◌, length, slice_range}
use Rattle.std.specs.Str.{chars, IsUtf8, IsValidUpTo}
use Rattle.vlt_base.specs.Limits.{limit_of}
use Rattle.vlt_base.specs.declared.limits.TheConstants.{TOKENS}
use Rattle.vlt_lexer.specs.declared.scan.Stuck.{Stuck}
use Rattle.vlt_lexer.specs.declared.scan.Stuck.TheVariants as stuck
use Rattle.vlt_lexer.specs.declared.LexError.{LexError}
use Rattle.vlt_lexer.specs.declared.LexError.TheVariants as error
use Rattle.vlt_tokens.specs.Characters.{width}
use Rattle.vlt_tokens.specs.Lexemes.{Lexeme}
use Rattle.vlt_lexer.specs.Reading.{Reads, IsStuck}

-- The text is UTF-8, and is these tokens in order with only blanks and comments between them, each token the longest piece at its place.
abbrev pub IsTokensOf : List ℕ → List Lexeme → Type 0
IsTokensOf text ls = IsUtf8 text × Reads (length text) (chars text) ls []

-- each token is not empty, is the slice of the text at its place, and begins at or after the end of the one before
abbrev pub AreSlicesOf : List ℕ → ℕ → List Lexeme → Type 0
AreSlicesOf text start [] = Unit {0}
AreSlicesOf text start (l ∷ ls) = (start ≤ l.from) × (l.from < l.to) × (l.to ≤ length text) × (l.text ≡ slice_range text l.from l.to) × AreSlicesOf text l.to ls

-- more tokens can be read from the text's start than may be
abbrev pub HasTooMany : List ℕ → Type 0
HasTooMany text = (ls : List Lexeme) × (left : List ℕ) × Reads (length text) (chars text) ls left × (limit_of TOKENS < length ls)

-- tokens within the limit can be read up to this place, and after it nothing can be
abbrev pub StopsAt : Stuck → ℕ → List ℕ → Type 0
StopsAt f at text = (ls : List Lexeme) × (left : List ℕ) × Reads (length text) (chars text) ls left × (length ls ≤ limit_of TOKENS) × IsStuck f left × (at + width left ≡ length text)

-- why a text is refused
abbrev pub IsRefused : List ℕ → LexError → Type 0
IsRefused text (error.NotUtf8 at) = (IsUtf8 text → ⊥) × IsValidUpTo text at
IsRefused text (error.BadByte at) = IsUtf8 text × StopsAt stuck.BadByte at text
IsRefused text (error.NumberTooLarge at) = IsUtf8 text × StopsAt stuck.NumberTooLarge at text
IsRefused text (error.OpenComment at) = IsUtf8 text × StopsAt stuck.OpenComment at text
IsRefused text (error.Limit n) = IsUtf8 text × (n ≡ 3) × HasTooMany text
IsRefused text error.Memory = ⊥
