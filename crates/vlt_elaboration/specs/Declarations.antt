-- Declarations of variables and assignments: what is refused in them, what they become, and the scope after them.
use Rattle.std.specs.Prelude.{ℕ, Bool, false, not, if◌then◌else◌, List, [], ◌++◌, length, Option, Some, is_some}
use Rattle.std.specs.Option.{option_map}
use Rattle.vlt_syntax.specs.Tree as s
use Rattle.vlt_syntax.specs.Tree.{Name, Right}
use Rattle.vlt_core.specs.Core.{Ty, Form}
use Rattle.vlt_kinds_types.specs.declared.names.found.Refusal.{Refusal}
use Rattle.vlt_kinds_types.specs.Files.{type_named}
use Rattle.vlt_kinds_types.specs.Types.{ty_refused, ty_uses, core_ty}
use Rattle.vlt_kinds_types.specs.Kinds.{Kinds}
use Rattle.vlt_resolve_exprs.specs.Refused.{unknown_name}
use Rattle.vlt_resolve_exprs.specs.Scopes.{Scope, key_named, var_named, var_ty, with_key, with_var}
use Rattle.vlt_resolve_exprs.specs.Exprs.{number_of, var_number}
use Rattle.vlt_resolve_exprs.specs.Bindings.{new_key_refused, new_var_refused}
use Rattle.vlt_resolve_exprs.specs.Targets.{Target}
use Rattle.vlt_resolve_rights.specs.News.{uses_refused, hides, hidden_refused, with_hidden}
use Rattle.vlt_elaboration.specs.Rights.{right_refused, right_forms}

-- what a statement becomes, and the scope after it
abbrev pub Became : Type 0
Became = List Form × Scope

-- ---- the type of a declaration

abbrev pub is_known_key : Scope → Name → Bool
is_known_key scope k = is_some (key_named scope k.text)

-- a key of `tracked(K)` that isn't in scope is bound here
abbrev pub binds_key : Scope → s.Ty → Bool
binds_key scope (s.tracked k n at) = not (is_known_key scope k)
binds_key scope _ = false

unfoldable pub bound_key_refused : Kinds → Scope → s.Ty → List Refusal
bound_key_refused kinds scope (s.tracked k n at) = if is_known_key scope k then [] else new_key_refused kinds scope k
bound_key_refused kinds scope _ = []

unfoldable pub with_bound_key : Kinds → Scope → s.Ty → Scope
with_bound_key kinds scope (s.tracked k n at) =
    if is_known_key scope k then scope else with_key scope k.text (type_named kinds.file n.name)
with_bound_key kinds scope _ = scope

unfoldable pub type_refused : Kinds → Scope → s.Ty → List Refusal
type_refused kinds scope ty = ty_refused kinds.file ty ++ uses_refused scope (ty_uses kinds.file ty)

abbrev pub key_number : Scope → List ℕ → ℕ
key_number scope k = number_of (key_named scope k)

unfoldable pub declared_ty : Kinds → Scope → s.Ty → Ty
declared_ty kinds scope ty = core_ty kinds.file (key_number scope) ty

-- ---- declarations

-- the target of a declaration, in the scope with the key that it binds
abbrev pub declared_target : Kinds → (binds : Bool) → Scope → s.Ty → Target
declared_target kinds binds scope ty = record { ty = declared_ty kinds scope ty; binds = binds }

-- after the type: hidden ones, the variable, and the right side, in which the variable isn't in scope
unfoldable pub hidden_right_refused : Kinds → Scope → Target → Name → Right → List Refusal
hidden_right_refused kinds scope t x right = new_var_refused kinds scope x ++ right_refused kinds scope (Some t) right

unfoldable pub declared_refused : Kinds → Scope → Target → Name → Right → ℕ → List Refusal
declared_refused kinds scope t x right at =
    hidden_refused scope (hides right (Some t.ty)) at
    ++ hidden_right_refused kinds (with_hidden kinds scope right (Some t.ty)) t x right

-- after the hidden variable of this number, if there is one
unfoldable pub declared_became : Kinds → (hidden : ℕ) → Scope → Target → Name → Right → Became
declared_became kinds hidden scope t x right =
    (right_forms kinds scope (Some t) (length scope.vars) hidden right, with_var scope x.text t.ty)

unfoldable pub hidden_became : Kinds → Scope → Target → Name → Right → Became
hidden_became kinds scope t x right = declared_became kinds (length scope.vars) (with_hidden kinds scope right (Some t.ty)) t x right

unfoldable pub keyed_refused : Kinds → Bool → Scope → s.Ty → Name → Right → ℕ → List Refusal
keyed_refused kinds binds scope ty x right at =
    type_refused kinds scope ty ++ declared_refused kinds scope (declared_target kinds binds scope ty) x right at

unfoldable pub keyed_became : Kinds → Bool → Scope → s.Ty → Name → Right → Became
keyed_became kinds binds scope ty x right = hidden_became kinds scope (declared_target kinds binds scope ty) x right

unfoldable pub declare_refused : Kinds → Scope → s.Ty → Name → Right → ℕ → List Refusal
declare_refused kinds scope ty x right at =
    bound_key_refused kinds scope ty
    ++ keyed_refused kinds (binds_key scope ty) (with_bound_key kinds scope ty) ty x right at

unfoldable pub declare_became : Kinds → Scope → s.Ty → Name → Right → Became
declare_became kinds scope ty x right = keyed_became kinds (binds_key scope ty) (with_bound_key kinds scope ty) ty x right

-- ---- assignments

abbrev pub plain_target : Ty → Target
plain_target ty = record { ty = ty; binds = false }

abbrev pub assigned_target : Option Ty → Option Target
assigned_target ty = option_map plain_target ty

unfoldable pub assign_refused : Kinds → Scope → Name → Right → ℕ → List Refusal
assign_refused kinds scope x right at =
    unknown_name (var_named scope x.text) x
    ++ (hidden_refused scope (hides right (var_ty scope x.text)) at
    ++ right_refused kinds (with_hidden kinds scope right (var_ty scope x.text)) (assigned_target (var_ty scope x.text)) right)

unfoldable pub assign_became : Kinds → Scope → Name → Right → Became
assign_became kinds scope x right = (
  right_forms kinds (with_hidden kinds scope right (var_ty scope x.text)) (assigned_target (var_ty scope x.text))
      (var_number scope x) (length scope.vars) right,
  with_hidden kinds scope right (var_ty scope x.text),
)
