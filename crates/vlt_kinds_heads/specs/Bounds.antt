-- The rule on bound entries: a clause has one, whose state variable has a name of its own.
use Rattle.std.specs.Prelude.{ℕ, Bool, true, false, ◌||◌, List, [], is_some}
use Rattle.std.specs.List.{list_any}
use Rattle.std.specs.Map.{lookup}
use Rattle.std.specs.Str.{bytes_eq}
use Rattle.vlt_syntax.specs.Tree as s
use Rattle.vlt_syntax.specs.Tree.{Entry, Parameter}
use Rattle.vlt_core.specs.declared.rules.TheConstants as rule
use Rattle.vlt_kinds_types.specs.declared.names.found.Refusal.{Refusal}
use Rattle.vlt_kinds_types.specs.Names.Refusals.{refuse_if}
use Rattle.vlt_kinds_types.specs.Names.Globals.{Globals, is_global}
use Rattle.vlt_kinds_types.specs.Names.Along.{along}
use Rattle.vlt_kinds_heads.specs.Keys.{Keys}

abbrev pub is_bound : Entry → Bool
is_bound (s.bound k v b) = true
is_bound _ = false

abbrev pub is_key : Keys → List ℕ → Bool
is_key keys t = is_some (lookup (bytes_eq t) keys)

abbrev pub is_parameter : List Parameter → List ℕ → Bool
is_parameter ps t = list_any (λ p. bytes_eq t p.name.text) ps

-- the name of something in the file, or of a key or a parameter of the head
unfoldable pub is_taken : Globals → Keys → List Parameter → List ℕ → Bool
is_taken known keys ps t = is_global known t || (is_key keys t || is_parameter ps t)

-- ---- 46: a second bound entry, or a state variable with the name of something else

abbrev pub variable_refused : Globals → Keys → List Parameter → (again : Bool) → Entry → List Refusal
variable_refused known keys ps again (s.bound k v b) =
    refuse_if (again || is_taken known keys ps v.text) rule.SECOND_BOUND v.at.from
variable_refused known keys ps again _ = []

-- whether a bound entry stands before the next one
abbrev pub after_bound : Bool → Entry → Bool
after_bound again e = again || is_bound e

abbrev pub variables_refused : Globals → Keys → List Parameter → List Entry → List Refusal
variables_refused known keys ps = along after_bound (variable_refused known keys ps) false
