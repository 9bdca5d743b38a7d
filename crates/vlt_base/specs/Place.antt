-- Lines and columns.
use Rattle.std.specs.Prelude.{ℕ, ◌+◌, Bool, not, ◌==◌, List, length, take, reverse}
use Rattle.std.specs.List.{count_by, take_while}

abbrev pub is_line_feed : ℕ → Bool
is_line_feed byte = byte == 10

-- the bytes before a position, the nearest first
abbrev pub back_from : List ℕ → ℕ → List ℕ
back_from text at = reverse (take at text)

-- one more than the line feeds before the position
abbrev pub line_of : List ℕ → ℕ → ℕ
line_of text at = 1 + count_by is_line_feed (take at text)

-- one more than the bytes between the position and the last line feed before it, or the text's start
abbrev pub column_of : List ℕ → ℕ → ℕ
column_of text at = 1 + length (take_while (λ byte. not (is_line_feed byte)) (back_from text at))
