-- What is known where a statement stands.
use Rattle.std.specs.Prelude.{ℕ, Bool, ◌||◌, if◌then◌else◌, List, [], ◌∷◌, ◌++◌, length, map, take, Option, Some, None, is_some, slice_get}
use Rattle.std.specs.Map.{lookup}
use Rattle.std.specs.Str.{bytes_eq}
use Rattle.indexmap.specs.IndexMap.{insert_entry}
use Rattle.vlt_core.specs.Core as core
use Rattle.vlt_core.specs.Core.{Tok, a_key, a_var, Ty}
use Rattle.vlt_core.specs.Lookups.{is_owning}
use Rattle.vlt_kinds_types.specs.Kinds.{Kinds}
use Rattle.vlt_kinds_types.specs.Names.Globals.{is_global}
use Rattle.vlt_resolve_exprs.specs.Types.{then_with}

-- The names in scope, all keys and variables of the function so far, and those that the innermost block binds.
pub record Scope : Type 0 where
  pub names : List (List ℕ × Tok)
  pub keys : List core.KeyDecl
  pub vars : List core.VarDecl
  pub block_keys : List ℕ
  pub block_vars : List ℕ

abbrev pub as_var : Option Tok → Option ℕ
as_var (Some (a_var v)) = Some v
as_var _ = None

abbrev pub as_key : Option Tok → Option ℕ
as_key (Some (a_key k)) = Some k
as_key _ = None

abbrev pub tok_named : Scope → List ℕ → Option Tok
tok_named scope n = lookup (bytes_eq n) scope.names

unfoldable pub var_named : Scope → List ℕ → Option ℕ
var_named scope n = as_var (tok_named scope n)

unfoldable pub key_named : Scope → List ℕ → Option ℕ
key_named scope n = as_key (tok_named scope n)

abbrev pub ty_in : Option core.VarDecl → Option Ty
ty_in None = None
ty_in (Some v) = Some v.ty

-- the type of the variable of this name
unfoldable pub var_ty : Scope → List ℕ → Option Ty
var_ty scope n = then_with (var_named scope n) (λ v. ty_in (slice_get scope.vars v))

abbrev pub object_type_in : Option core.KeyDecl → Option ℕ
object_type_in None = None
object_type_in (Some d) = d.key_type

-- the type of a key's object, where it has one
unfoldable pub key_type : Scope → ℕ → Option ℕ
key_type scope k = object_type_in (slice_get scope.keys k)

unfoldable pub is_taken : Kinds → Scope → List ℕ → Bool
is_taken kinds scope n = is_some (tok_named scope n) || is_global kinds.file.globals n

-- ---- what is bound

-- a key more, that no name stands for: a hidden one where it has no name
abbrev pub more_key : Scope → List ℕ → Option ℕ → Scope
more_key scope n t = record scope {
  keys = scope.keys ++ record { name = n; key_type = t } ∷ [];
  block_keys = scope.block_keys ++ length scope.keys ∷ [];
}

abbrev pub more_var : Scope → List ℕ → Ty → Scope
more_var scope n ty = record scope {
  vars = scope.vars ++ record { name = n; ty = ty } ∷ [];
  block_vars = if is_owning ty then scope.block_vars ++ length scope.vars ∷ [] else scope.block_vars;
}

abbrev pub with_name : Scope → List ℕ → Tok → Scope
with_name scope n tok = record scope { names = insert_entry bytes_eq scope.names n tok }

-- a new key, in scope from here on
abbrev pub with_key : Scope → List ℕ → Option ℕ → Scope
with_key scope n t = with_name (more_key scope n t) n (a_key (length scope.keys))

-- a new variable, in scope from here on
abbrev pub with_var : Scope → List ℕ → Ty → Scope
with_var scope n ty = with_name (more_var scope n ty) n (a_var (length scope.vars))

-- the key of a focus, which no block binds
abbrev pub with_focus_key : Scope → List ℕ → Option ℕ → Scope
with_focus_key scope n t = record scope {
  names = insert_entry bytes_eq scope.names n (a_key (length scope.keys));
  keys = scope.keys ++ record { name = n; key_type = t } ∷ [];
}

-- ---- blocks

-- the scope in a block
abbrev pub scope_inside : Scope → Scope
scope_inside scope = record scope { block_keys = []; block_vars = [] }

-- the scope after a block, of those before it and at its end
abbrev pub scope_after : (before last : Scope) → Scope
scope_after before last = record {
  names = take (length before.names) last.names;
  keys = last.keys;
  vars = last.vars;
  block_keys = before.block_keys;
  block_vars = before.block_vars;
}

-- what a block binds, of the scope at its end
abbrev pub bound_in : Scope → List Tok
bound_in scope = map a_key scope.block_keys ++ map a_var scope.block_vars
