-- A set of names grows.
use Rattle.std.specs.Prelude.{◌≡◌, ℕ, ◌||◌, List}
use Rattle.vlt_iface.specs.Texts.{has_text}

-- a set has what it had before, and these
abbrev pub Adds : (before texts after : List (List ℕ)) → Type 0
Adds before texts after = (n : List ℕ) → has_text after n ≡ (has_text before n || has_text texts n)
