-- Maps that are given as lists of pairs, as annotations and certificates have them.
use Rattle.std.specs.Prelude.{◌≡◌, ◌<◌, ℕ, List, [], ◌∷◌, if◌then◌else◌}
use Rattle.vlt_core.specs.Core.{Tok, a_key, a_var}
use Rattle.vlt_core.specs.Maps as maps
use Rattle.vlt_core.specs.Maps.{HeldMap, is_tok}
use Rattle.vlt_core.specs.View.{tok_of}
use Rattle.vlt_core.specs.HeldView.{status_of}
use Rattle.vlt_core.specs.declared.held.Tok as code_tok
use Rattle.vlt_core.specs.declared.held.Status as code_status
use Rattle.vlt_core.specs.declared.held.Status.TheVariants as status

abbrev pub Pair : Type 0
Pair = code_tok.Tok × code_status.Status

-- The map that pairs say: the first pair of a token has its status, a token without one is absent.
abbrev pub map_of_pairs : List Pair → HeldMap
map_of_pairs [] t = maps.absent
map_of_pairs (x ∷ xs) t = if is_tok t (tok_of x.0) then status_of x.1 else map_of_pairs xs t

-- ---- in order

-- keys come before variables, each kind in ascending order
abbrev pub IsBefore : Tok → Tok → Type 0
IsBefore (a_key k) (a_key j) = k < j
IsBefore (a_key k) (a_var w) = Unit {0}
IsBefore (a_var v) (a_key j) = ⊥
IsBefore (a_var v) (a_var w) = v < w

-- the token comes before those of all pairs
abbrev pub ComesFirst : Tok → List Pair → Type 0
ComesFirst t [] = Unit {0}
ComesFirst t (x ∷ xs) = IsBefore t (tok_of x.0) × ComesFirst t xs

-- the status isn't absent
abbrev pub IsPresent : code_status.Status → Type 0
IsPresent status.Absent = ⊥
IsPresent s = Unit {0}

-- Keys first, each kind in ascending order; none is absent.
abbrev pub AreInOrder : List Pair → Type 0
AreInOrder [] = Unit {0}
AreInOrder (x ∷ xs) = IsPresent x.1 × ComesFirst (tok_of x.0) xs × AreInOrder xs

-- ---- the tokens of a function

-- the token is one of so many keys and variables
abbrev pub IsAmong : (keys vars : ℕ) → Tok → Type 0
IsAmong keys vars (a_key k) = k < keys
IsAmong keys vars (a_var v) = v < vars

-- the tokens that aren't among so many keys and variables are absent
abbrev pub HasOnly : (keys vars : ℕ) → HeldMap → Type 0
HasOnly keys vars h = (t : Tok) → (IsAmong keys vars t → ⊥) → h t ≡ maps.absent

abbrev pub AreAmong : (keys vars : ℕ) → List Pair → Type 0
AreAmong keys vars [] = Unit {0}
AreAmong keys vars (x ∷ xs) = IsAmong keys vars (tok_of x.0) × AreAmong keys vars xs
