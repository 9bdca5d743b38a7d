-- What is proved of C texts.
use Rattle.std.specs.Prelude.{◌≡◌, ℕ, List}
use Rattle.c_syntax.specs.Unit.{TranslationUnit}
use Rattle.c_syntax.specs.Text.{Lexeme, IsTokensOf}
use Rattle.c_syntax.specs.Reading.{IsUnitOf}

-- a text has at most one list of tokens and one tree
abbrev pub OneUnitIsRead : Type 0
OneUnitIsRead =
    (bytes : List ℕ) (ls ms : List Lexeme) (u v : TranslationUnit)
    → IsUnitOf bytes ls u → IsUnitOf bytes ms v → (ls ≡ ms) × (u ≡ v)

-- whatever the bytes, they have a list of tokens; what is none of the grammar is a token too
abbrev pub EachTextHasTokens : Type 0
EachTextHasTokens = (bytes : List ℕ) → (ls : List Lexeme) × IsTokensOf bytes ls
