-- The parts of the rule on a block's list of tokens.
use Rattle.std.specs.Prelude.{Bool, false, if◌then◌else◌, List, [], ◌∷◌, filter, Option, Some, None}
use Rattle.std.specs.List.{list_any}
use Rattle.vlt_core.specs.Core.{Tok, a_key, a_var, Func}
use Rattle.vlt_core.specs.Lookups.{is_owning_var}
use Rattle.vlt_core.specs.Maps.{is_tok}

-- the token, where it is among those that were made
abbrev pub found : (made : List Tok) → Tok → Option Tok
found made t = if list_any (is_tok t) made then Some t else None

abbrev pub if_found : Option Tok → List Tok
if_found None = []
if_found (Some t) = t ∷ []

abbrev pub is_owning_tok : Func → Tok → Bool
is_owning_tok f (a_key k) = false
is_owning_tok f (a_var v) = is_owning_var f v

abbrev pub if_owning : Func → Tok → List Tok
if_owning f t = if is_owning_tok f t then t ∷ [] else []

abbrev pub if_found_owning : Func → Option Tok → List Tok
if_found_owning f None = []
if_found_owning f (Some t) = if_owning f t

-- those of a list that were made
abbrev pub kept : (made : List Tok) → List Tok → List Tok
kept made ts = filter (λ t. list_any (is_tok t) made) ts
