-- How large the numbers of a tree are.
use Rattle.std.specs.Prelude.{◌≡◌, ◌≤◌, ℕ, pos}
use Rattle.vlt_tokens.specs.Lexemes.{max_number}
use Rattle.vlt_syntax.specs.Tokens as t
use Rattle.vlt_syntax.specs.Tokens.{Token}
use Rattle.vlt_syntax.specs.Tree.{Tree}
use Rattle.vlt_syntax.specs.Lists.{Each}
use Rattle.vlt_syntax.specs.Spelling.{spelling}

-- a number is from 0 to 2^63 - 1
abbrev pub IsNumbered : Token → Type 0
IsNumbered (t.number z) = (n : ℕ) × (z ≡ pos n) × (n ≤ max_number)
IsNumbered x = Unit {0}

-- so is each number that the tree is spelled with
abbrev pub HasNumbers : Tree → Type 0
HasNumbers t = Each IsNumbered (spelling t)
