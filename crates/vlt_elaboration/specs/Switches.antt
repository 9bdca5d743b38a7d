-- What is refused at a switch, at its arms, and at a focus, and the scopes in their blocks.
use Rattle.std.specs.Prelude.{ℕ, Bool, true, false, not, ◌&&◌, List, [], ◌∷◌, ◌++◌, length, map, Option, Some, None, drop}
use Rattle.std.specs.List.{list_any, list_all}
use Rattle.std.specs.Str.{bytes_eq}
use Rattle.vlt_syntax.specs.Tree as s
use Rattle.vlt_syntax.specs.Tree.{Name, Arms}
use Rattle.vlt_core.specs.Core.{Ty, tracked, guarded, CaseDecl}
use Rattle.vlt_core.specs.Lookups.{VariantOf, variant_in}
use Rattle.vlt_core.specs.declared.rules.TheConstants as rule
use Rattle.vlt_kinds_types.specs.declared.names.found.Refusal.{Refusal}
use Rattle.vlt_kinds_types.specs.Names.Refusals.{refusal, refuse_if}
use Rattle.vlt_kinds_types.specs.Kinds.{Kinds}
use Rattle.vlt_resolve_exprs.specs.Scopes.{Scope, with_focus_key, with_var}
use Rattle.vlt_resolve_exprs.specs.Bindings.{new_key_refused, new_var_refused, several_refused, with_several, several_numbers}
use Rattle.vlt_resolve_calls.specs.Builds.{Case, cases_of, case_of_tick}

-- ---- the cases of a switch

-- the names after the `'` of each arm's tick
abbrev pub arm_names : Arms → List (List ℕ)
arm_names s.no_arms = []
arm_names (s.arm tick vs b at rest) = drop 1 tick.text ∷ arm_names rest

abbrev pub is_among : List (List ℕ) → List ℕ → Bool
is_among ns n = list_any (λ m. bytes_eq n m) ns

abbrev pub are_distinct : List (List ℕ) → Bool
are_distinct [] = true
are_distinct (n ∷ ns) = not (is_among ns n) && are_distinct ns

abbrev pub case_names : List CaseDecl → List (List ℕ)
case_names = map (λ c. c.name)

abbrev pub all_among : List (List ℕ) → List (List ℕ) → Bool
all_among ms ns = list_all (is_among ms) ns

-- the arms are those of the cases
abbrev pub covers : (arms cases : List (List ℕ)) → Bool
covers arms cases = all_among cases arms && all_among arms cases

abbrev pub variant_covered : Kinds → Option VariantOf → List (List ℕ) → Bool
variant_covered kinds None ns = false
variant_covered kinds (Some v) ns = covers ns (case_names (cases_of kinds v.type))

unfoldable pub cases_refused : Kinds → Option Ty → Name → List (List ℕ) → ℕ → List Refusal
cases_refused kinds None x ns at = refusal rule.UNKNOWN_NAME x.at.from ∷ []
cases_refused kinds (Some ty) x ns at = refuse_if (not (variant_covered kinds (variant_in (Some ty)) ns)) rule.WRONG_SWITCH at

unfoldable pub switch_refused : Kinds → Option Ty → Name → List (List ℕ) → ℕ → List Refusal
switch_refused kinds ty x ns at = refuse_if (not (are_distinct ns)) rule.WRONG_SWITCH at ++ cases_refused kinds ty x ns at

-- ---- an arm

-- the case of an arm, where the variable's type is known and has it
abbrev pub arm_case : Kinds → Option Ty → Name → Option Case
arm_case kinds None tick = None
arm_case kinds (Some ty) tick = case_of_tick kinds ty tick

unfoldable pub arm_refused : Kinds → Scope → Option Case → (tick : Name) → List Name → List Refusal
arm_refused kinds scope None tick vs = []
arm_refused kinds scope (Some c) tick vs = several_refused kinds scope vs c.payload tick.at.from

-- the scope in an arm, with the variables of the payloads
unfoldable pub arm_scope : Scope → Option Case → List Name → Scope
arm_scope scope None vs = scope
arm_scope scope (Some c) vs = with_several scope vs c.payload

unfoldable pub arm_numbers : Scope → Option Case → List Name → List ℕ
arm_numbers scope None vs = []
arm_numbers scope (Some c) vs = several_numbers scope vs c.payload

abbrev pub case_number : Option Case → ℕ
case_number None = 0
case_number (Some c) = c.number

-- ---- a focus

abbrev pub focused_type : Option Ty → Option ℕ
focused_type (Some (guarded k t args)) = Some t
focused_type _ = None

unfoldable pub focused_refused : Option Ty → Name → List Refusal
focused_refused None y = refusal rule.UNKNOWN_NAME y.at.from ∷ []
focused_refused (Some (guarded k t args)) y = []
focused_refused (Some ty) y = refusal rule.WRONG_TYPE y.at.from ∷ []

-- the type of the variable that a focus binds, under this key
abbrev pub focus_ty : Option Ty → (key : ℕ) → Ty
focus_ty (Some (guarded k t args)) key = tracked key t args
focus_ty _ key = tracked key 0 []

-- the scope of a focus's block, with its key, and then with its variable
abbrev pub keyed_scope : Scope → Option Ty → (k : Name) → Scope
keyed_scope scope ty k = with_focus_key scope k.text (focused_type ty)

abbrev pub bound_scope : Scope → Option Ty → (k z : Name) → Scope
bound_scope scope ty k z = with_var (keyed_scope scope ty k) z.text (focus_ty ty (length scope.keys))

unfoldable pub bound_refused : Kinds → Scope → Option Ty → (k z : Name) → List Refusal
bound_refused kinds scope ty k z = new_key_refused kinds scope k ++ new_var_refused kinds (keyed_scope scope ty k) z

unfoldable pub focus_refused : Kinds → Scope → Option Ty → (y k z : Name) → List Refusal
focus_refused kinds scope ty y k z = focused_refused ty y ++ bound_refused kinds scope ty k z
