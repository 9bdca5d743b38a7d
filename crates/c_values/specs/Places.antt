-- Where a name's value is.
use Rattle.std.specs.Prelude.{ℕ, suc, List, [], ◌∷◌, Option, Some, None, if◌then◌else◌, option_map}
use Rattle.c_syntax.specs.declared.program.CVar.{CVar}
use Rattle.c_syntax.specs.Kinds.{same_variable}

-- the position of the first such name
abbrev pub place_in : List CVar → CVar → Option ℕ
place_in [] u = None
place_in (v ∷ vs) u = if same_variable u v then Some 0 else option_map suc (place_in vs u)
