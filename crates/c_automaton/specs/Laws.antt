-- What the automaton of C texts has to do with their grammar, and that the grammar reads tokens in one way.
use Rattle.std.specs.Prelude.{◌≡◌, ◌⊎◌, List, Err}
use Rattle.c_syntax.specs.Unit.{TranslationUnit}
use Rattle.c_syntax.specs.Text.{Lexeme}
use Rattle.c_syntax.specs.Spelling.{spelling}
use Rattle.c_syntax.specs.Grammar.{language, IsUnit}
use Rattle.c_syntax.specs.Reading.{tokens_in}
use Rattle.c_automaton.specs.Refusals.{Refusal, IsRefusal}
use Rattle.c_automaton.specs.Automaton.{run, start}

-- where it refuses, the grammar does, for the same reason
abbrev pub RefusesAsTheGrammar : Type 0
RefusesAsTheGrammar = (ls : List Lexeme) (f : Refusal) → run language start ls ≡ Err f → IsRefusal ls f

-- tokens are refused for one reason
abbrev pub HasOneRefusal : List Lexeme → Type 0
HasOneRefusal ls = (f g : Refusal) → IsRefusal ls f → IsRefusal ls g → f ≡ g

-- the tokens are those of a text within the limits, or they are refused
abbrev pub HasUnitOrRefusal : List Lexeme → Type 0
HasUnitOrRefusal ls = ((u : TranslationUnit) × IsUnit language u × (tokens_in ls ≡ spelling u)) ⊎ ((f : Refusal) × IsRefusal ls f)

-- the tokens of a text within the limits aren't refused
abbrev pub IsNeverBoth : List Lexeme → Type 0
IsNeverBoth ls = (u : TranslationUnit) (f : Refusal) → IsUnit language u → tokens_in ls ≡ spelling u → IsRefusal ls f → ⊥
