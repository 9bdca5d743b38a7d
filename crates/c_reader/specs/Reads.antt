-- What is read of a C text.
use Rattle.std.specs.Prelude.{◌≤◌, ℕ, List, length, Result, Ok, Err}
use Rattle.c_syntax.specs.View.{program_of}
use Rattle.c_syntax.specs.Reading.{IsCProgramOf, IsOfKind}
use Rattle.c_parser.specs.Refusals.{IsRefusedAs}
use Rattle.c_parser.specs.declared.error.ParseError.{ParseError}
use Rattle.c_parser.specs.declared.error.ParseError.TheVariants as grammar
use Rattle.c_reader.specs.declared.error.CError.{CError}
use Rattle.c_reader.specs.declared.error.CError.TheVariants.{Unexpected, EndOfText, Kind, Limit, Memory}
use Rattle.c_reader.specs.declared.CFile.{CFile}

-- why a text that isn't of the grammar stands for no program
abbrev pub of_grammar : ParseError → CError
of_grammar (grammar.Unexpected at) = Unexpected at
of_grammar grammar.EndOfText = EndOfText
of_grammar (grammar.Limit n) = Limit n
of_grammar grammar.Memory = Memory

-- The text stands for the program; or that rule is the least that its names and types break; or the grammar refuses its tokens so.
abbrev pub IsReadAs : List ℕ → Result CFile CError → Type 0
IsReadAs text (Ok file) = IsCProgramOf text (program_of file.program) file.cert
IsReadAs text (Err (Kind rule at)) = IsOfKind text rule at
IsReadAs text (Err (Unexpected at)) = IsRefusedAs text (grammar.Unexpected at)
IsReadAs text (Err EndOfText) = IsRefusedAs text grammar.EndOfText
IsReadAs text (Err (Limit n)) = IsRefusedAs text (grammar.Limit n)
IsReadAs text (Err Memory) = Unit {0}

-- why the text stands for no program; want of memory is no reason
abbrev pub IsUnread : List ℕ → CError → Type 0
IsUnread text Memory = ⊥
IsUnread text e = IsReadAs text (Err e)

-- what is told stands in the text, or at its end
abbrev pub IsWithin : List ℕ → CError → Type 0
IsWithin text (Unexpected at) = at ≤ length text
IsWithin text (Kind rule at) = at ≤ length text
IsWithin text _ = Unit {0}

abbrev pub RefusalsAreInTheText : Type 0
RefusalsAreInTheText = (text : List ℕ) (e : CError) → IsReadAs text (Err e) → IsWithin text e
