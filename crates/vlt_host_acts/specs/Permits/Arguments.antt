-- What the code asks of arguments, in the words of the definitions. `named_in` and `names_apart` serve private contracts alone.
use Rattle.std.specs.Prelude.{◌≡◌, ◌<◌, ℕ, ◌==◌, Bool, true, false, not, ◌&&◌, List, [], ◌∷◌, map, length, Option, Some, None, slice_get}
use Rattle.std.specs.List.{list_any, list_all}
use Rattle.vlt_core.specs.declared.program.VarDecl.{VarDecl}
use Rattle.vlt_core.specs.View.{var_of}
use Rattle.vlt_core.specs.Core.{Ty, Entry, Func, Program}
use Rattle.vlt_core.specs.Lookups.{is_held_before}
use Rattle.vlt_meaning.specs.World.{Object}
use Rattle.vlt_meaning.specs.Calls.{Binding}
use Rattle.vlt_host_meaning.specs.Calls.{Argument}
use Rattle.vlt_host_meaning.specs.declared.calls.HostArg.{HostArg}
use Rattle.vlt_host_meaning.specs.Tables.{argument_of}
use Rattle.vlt_host_meaning.specs.HostFrame.{host_holds}
use Rattle.vlt_host_meaning.specs.Permitted.{arguments_fit, argument_bindings, object_of_key, have_one_object, entries_before, is_object_in, permitted_states}

abbrev pub types_in : List VarDecl → List Ty
types_in params = map (λ d. d.ty) (map var_of params)

abbrev pub bindings_in : (params : List VarDecl) → List HostArg → List Binding
bindings_in params args = argument_bindings (types_in params) (map argument_of args)

-- each key that the clause has before a call is one of the function
abbrev pub HasClauseKeys : Func → Type 0
HasClauseKeys f =
    (i : ℕ) (e : Entry) → slice_get f.clause i ≡ Some e → is_held_before e ≡ true → e.key < length f.keys

-- ---- how the code is proved

-- the object is given, the host holds it, and it is in a state that the entry permits
abbrev pub name_in : Program → Func → List Object → Entry → Option ℕ → Bool
name_in p f objects e None = false
name_in p f objects e (Some n) =
    host_holds objects n && is_object_in (permitted_states p f e e.mode) (slice_get objects n)

abbrev pub named_in : Program → Func → List Binding → List Object → Entry → Bool
named_in p f bs objects e = name_in p f objects e (object_of_key bs e.key)

abbrev pub is_same : Option ℕ → Option ℕ → Bool
is_same (Some m) (Some n) = m == n
is_same m n = false

-- no two are the same object
abbrev pub names_apart : List (Option ℕ) → Bool
names_apart [] = true
names_apart (o ∷ os) = not (list_any (λ p. is_same p o) os) && names_apart os

-- all that is asked of a call of an entry function, as the code asks it
abbrev pub call_fits : Program → Func → List Ty → List Argument → List Object → Bool
call_fits p f tys args objects =
    let bs = argument_bindings tys args in
    arguments_fit objects tys args && (have_one_object bs && (list_all (named_in p f bs objects) (entries_before f) &&
    names_apart (map (λ e. object_of_key bs e.key) (entries_before f))))
