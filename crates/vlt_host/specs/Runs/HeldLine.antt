-- Parts of the last line, for private contracts.
use Rattle.std.specs.Prelude.{ℕ, List, [], ◌++◌, Option, None, Some, codes}

-- the name of a state after `@`
abbrev pub named_state : Option (List ℕ) → List ℕ
named_state None = []
named_state (Some name) = codes "@" ++ name
