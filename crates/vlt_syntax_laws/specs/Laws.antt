-- What the grammar's definitions give, and that the automaton decides them.
use Rattle.std.specs.Prelude.{◌≡◌, ◌⊎◌, List, map, Ok, Err}
use Rattle.vlt_tokens.specs.Lexemes.{Lexeme}
use Rattle.vlt_syntax.specs.Tokens.{tokens_in}
use Rattle.vlt_syntax.specs.Tree.{Tree}
use Rattle.vlt_syntax.specs.Spelling.{spelling}
use Rattle.vlt_syntax.specs.Grammar.{IsTree, IsPlacedTreeOf, language}
use Rattle.vlt_syntax.specs.Refusals.{Refusal, IsRefusal}
use Rattle.vlt_automaton.specs.Automaton.{Verdict, run, start, located_of}

-- a text has at most one tree, places included
abbrev pub HasOneTree : List Lexeme → Type 0
HasOneTree ls = (t u : Tree) → IsPlacedTreeOf ls t → IsPlacedTreeOf ls u → t ≡ u

-- tokens are refused for one reason
abbrev pub HasOneRefusal : List Lexeme → Type 0
HasOneRefusal ls = (f g : Refusal) → IsRefusal ls f → IsRefusal ls g → f ≡ g

-- a text has a tree, places included, or its tokens are refused
abbrev pub HasTreeOrRefusal : List Lexeme → Type 0
HasTreeOrRefusal ls = ((t : Tree) × IsPlacedTreeOf ls t) ⊎ ((f : Refusal) × IsRefusal ls f)

-- the tokens of a tree aren't refused
abbrev pub IsNeverBoth : List Lexeme → Type 0
IsNeverBoth ls = (t : Tree) (f : Refusal) → IsTree language t → tokens_in ls ≡ spelling t → IsRefusal ls f → ⊥

abbrev pub verdict : List Lexeme → Verdict
verdict ls = run language (start language) (map located_of ls)

-- the automaton accepts the tokens of each tree of the language
abbrev pub IsAccepting : List Lexeme → Type 0
IsAccepting ls = (t : Tree) → IsTree language t → tokens_in ls ≡ spelling t → verdict ls ≡ Ok tt

-- and no others
abbrev pub IsAcceptingTrees : List Lexeme → Type 0
IsAcceptingTrees ls = verdict ls ≡ Ok tt → (t : Tree) × IsPlacedTreeOf ls t

-- where it refuses, the grammar does, for the same reason
abbrev pub IsRefusing : List Lexeme → Type 0
IsRefusing ls = (f : Refusal) → verdict ls ≡ Err f → IsRefusal ls f

-- and it does wherever the grammar does
abbrev pub IsRefusingAll : List Lexeme → Type 0
IsRefusingAll ls = (f : Refusal) → IsRefusal ls f → verdict ls ≡ Err f
