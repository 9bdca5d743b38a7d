-- Why a text isn't of the grammar.
use Rattle.std.specs.Prelude.{ℕ, List}
use Rattle.c_syntax.specs.Text.{Lexeme, IsTokensOf, before_mark}
use Rattle.c_automaton.specs.Refusals.{Refusal, IsRefusal, unexpected_at, cut_short, over_limit}
use Rattle.c_parser.specs.declared.error.ParseError.{ParseError}
use Rattle.c_parser.specs.declared.error.ParseError.TheVariants.{Unexpected, EndOfText, Limit, Memory}

-- the tokens of the text, up to its certificate, are refused so
pub record RefusesText (bytes : List ℕ) (f : Refusal) : Type 0 where
  pub lexemes : List Lexeme
  pub tokens : IsTokensOf (before_mark bytes) lexemes
  pub is : IsRefusal lexemes f

-- the same of an error; want of memory refuses no text
abbrev pub IsRefusedAs : List ℕ → ParseError → Type 0
IsRefusedAs bytes (Unexpected at) = RefusesText bytes (unexpected_at at)
IsRefusedAs bytes EndOfText = RefusesText bytes cut_short
IsRefusedAs bytes (Limit n) = RefusesText bytes (over_limit n)
IsRefusedAs bytes Memory = Unit {0}
