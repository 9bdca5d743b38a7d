-- What is refused where a key or a variable is bound.
use Rattle.std.specs.Prelude.{ℕ, ◌+◌, ◌==◌, nat_lt, if◌then◌else◌, List, [], ◌∷◌, ◌++◌, length}
use Rattle.vlt_syntax.specs.Tree.{Name}
use Rattle.vlt_core.specs.Core.{Ty}
use Rattle.vlt_kinds_types.specs.declared.names.found.Refusal.{Refusal}
use Rattle.vlt_core.specs.declared.rules.TheConstants.{NAME_TAKEN, WRONG_COUNT}
use Rattle.vlt_kinds_types.specs.Names.Refusals.{refusal, refuse_if}
use Rattle.vlt_resolve_exprs.specs.declared.limits.TheConstants.{TOO_MANY_VARIABLES, TOO_MANY_KEYS}
use Rattle.vlt_kinds_types.specs.Kinds.{Kinds}
use Rattle.vlt_resolve_exprs.specs.Scopes.{Scope, is_taken, with_var}

-- Of variables and of keys a function has 256 at most. The limits have numbers below the rules': at one place they go
-- before them.
unfoldable pub too_many_vars : Scope → ℕ → List Refusal
too_many_vars scope at = refuse_if (nat_lt 255 (length scope.vars)) TOO_MANY_VARIABLES at

unfoldable pub too_many_keys : Scope → ℕ → List Refusal
too_many_keys scope at = refuse_if (nat_lt 255 (length scope.keys)) TOO_MANY_KEYS at

unfoldable pub not_free : Kinds → Scope → Name → List Refusal
not_free kinds scope n = refuse_if (is_taken kinds scope n.text) NAME_TAKEN n.at.from

unfoldable pub new_var_refused : Kinds → Scope → Name → List Refusal
new_var_refused kinds scope n = too_many_vars scope n.at.from ++ not_free kinds scope n

unfoldable pub new_key_refused : Kinds → Scope → Name → List Refusal
new_key_refused kinds scope n = too_many_keys scope n.at.from ++ not_free kinds scope n

-- ---- several variables, one after another

abbrev pub new_vars_refused : Kinds → Scope → List Name → List Ty → List Refusal
new_vars_refused kinds scope (n ∷ ns) (t ∷ ts) =
    new_var_refused kinds scope n ++ new_vars_refused kinds (with_var scope n.text t) ns ts
new_vars_refused kinds scope _ _ = []

abbrev pub with_vars : Scope → List Name → List Ty → Scope
with_vars scope (n ∷ ns) (t ∷ ts) = with_vars (with_var scope n.text t) ns ts
with_vars scope _ _ = scope

abbrev pub numbers_from : (first : ℕ) → List Name → List Ty → List ℕ
numbers_from i (n ∷ ns) (t ∷ ts) = i ∷ numbers_from (i + 1) ns ts
numbers_from i _ _ = []

-- as many as there are types; else the rule is broken at this place, and nothing is bound
unfoldable pub several_refused : Kinds → Scope → List Name → List Ty → ℕ → List Refusal
several_refused kinds scope ns ts at =
    if length ts == length ns then new_vars_refused kinds scope ns ts else refusal WRONG_COUNT at ∷ []

unfoldable pub with_several : Scope → List Name → List Ty → Scope
with_several scope ns ts = if length ts == length ns then with_vars scope ns ts else scope

unfoldable pub several_numbers : Scope → List Name → List Ty → List ℕ
several_numbers scope ns ts = if length ts == length ns then numbers_from (length scope.vars) ns ts else []
