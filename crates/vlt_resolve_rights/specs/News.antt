-- New objects: for a tracked target whose key is bound here, for an owning one, and adopted at once.
use Rattle.std.specs.Prelude.{ℕ, Bool, true, false, not, ◌&&◌, ◌==◌, if◌then◌else◌, List, [], ◌∷◌, ◌++◌, length, map, Option, Some, None, slice_get}
use Rattle.std.specs.Str.{bytes_eq}
use Rattle.vlt_syntax.specs.Tree as s
use Rattle.vlt_syntax.specs.Tree.{Name, Named, Init, Right}
use Rattle.vlt_core.specs.Core.{Ty, tracked, owning, guarded, TypeDecl, a_struct, FieldDecl, Form, simple, make, own, adopt, pack, Operand}
use Rattle.vlt_core.specs.Lookups.{first_state}
use Rattle.vlt_core.specs.Types.{is_struct, same_keys}
use Rattle.vlt_resolve_rights.specs.Droppable.{may_drop_struct}
use Rattle.vlt_core.specs.declared.rules.TheConstants as rule
use Rattle.vlt_kinds_types.specs.declared.names.found.Refusal.{Refusal}
use Rattle.vlt_kinds_types.specs.Names.Refusals.{refusal, refuse_if, of_each}
use Rattle.vlt_kinds_types.specs.declared.shapes.Shape.{Shape}
use Rattle.vlt_kinds_types.specs.declared.shapes.Wanted.{Wanted}
use Rattle.vlt_kinds_types.specs.declared.shapes.Wanted.TheVariants as wanted
use Rattle.vlt_kinds_types.specs.Files.{type_named, shape_named}
use Rattle.vlt_kinds_types.specs.Types.{KeyUse, named_uses, name_refused}
use Rattle.vlt_kinds_types.specs.Kinds.{Kinds}
use Rattle.vlt_resolve_exprs.specs.Types.{ty_under}
use Rattle.vlt_resolve_exprs.specs.Refused.{unknown_name}
use Rattle.vlt_resolve_exprs.specs.Scopes.{Scope, key_named, key_type, var_named, var_ty, more_key, more_var}
use Rattle.vlt_resolve_exprs.specs.Exprs.{fields_of, number_of, var_number}
use Rattle.vlt_resolve_exprs.specs.Operands.{operand_refused, core_operand}
use Rattle.vlt_resolve_exprs.specs.Bindings.{too_many_keys, too_many_vars}
use Rattle.vlt_resolve_exprs.specs.Targets.{Target}

-- ---- keys after a type's name

-- a key whose object has to be of this type
abbrev pub typed_refused : (given : Option ℕ) → (type : ℕ) → (tracked : Bool) → (at : ℕ) → List Refusal
typed_refused None t is_tracked at = refusal rule.KEY_ARGUMENT at ∷ []
typed_refused (Some s) t true at = refuse_if (not (s == t)) rule.TWO_KEY_TYPES at
typed_refused (Some s) t false at = refuse_if (not (s == t)) rule.KEY_ARGUMENT at

abbrev pub wanted_refused : (given : Option ℕ) → Wanted → (tracked : Bool) → (at : ℕ) → List Refusal
wanted_refused given wanted.Any is_tracked at = []
wanted_refused given wanted.Unknown is_tracked at = []
wanted_refused given (wanted.OfType t) is_tracked at = typed_refused given t is_tracked at

-- a key that stands in a type has to be in scope, and its object of the type that is wanted there
abbrev pub known_refused : Scope → Option ℕ → KeyUse → List Refusal
known_refused scope None u = refusal rule.UNKNOWN_NAME u.at ∷ []
known_refused scope (Some k) u = wanted_refused (key_type scope k) u.wanted u.tracked u.at

unfoldable pub use_refused : Scope → KeyUse → List Refusal
use_refused scope u = known_refused scope (key_named scope u.key) u

unfoldable pub uses_refused : Scope → List KeyUse → List Refusal
uses_refused scope us = of_each (use_refused scope) us

unfoldable pub named_refused : Kinds → Scope → Named → List Refusal
named_refused kinds scope n = name_refused (shape_named kinds.file n.name) n ++ uses_refused scope (named_uses kinds.file n)

-- ---- what is known of the object

abbrev pub with_known : Option ℕ → Option (List ℕ) → Option (List ℕ)
with_known (Some k) (Some ks) = Some (k ∷ ks)
with_known _ _ = None

-- the numbers of the keys, where all are in scope
abbrev pub known_keys : Scope → List Name → Option (List ℕ)
known_keys scope [] = Some []
known_keys scope (k ∷ ks) = with_known (key_named scope k.text) (known_keys scope ks)

abbrev pub keys_of_shape : Option Shape → Scope → List Name → Option (List ℕ)
keys_of_shape None scope ks = None
keys_of_shape (Some shape) scope ks = if length shape.header == length ks then known_keys scope ks else None

-- the keys that stand for the header's, where they are known and as many
unfoldable pub known_args : Kinds → Scope → Named → Option (List ℕ)
known_args kinds scope n = keys_of_shape (shape_named kinds.file n.name) scope n.keys

-- ---- what is refused

abbrev pub args_fit : Option (List ℕ) → List ℕ → Bool
args_fit None b = true
args_fit (Some a) b = same_keys a b

abbrev pub object_fits : (t : ℕ) → Option (List ℕ) → (u : ℕ) → List ℕ → Bool
object_fits t args u b = (t == u) && args_fit args b

-- An object that is adopted at once is for a guarded target, another one for an owning target or a tracked one whose key is
-- bound here.
unfoldable pub target_fits : (adopted : Bool) → Target → (type : ℕ) → Option (List ℕ) → Bool
target_fits adopted t type args = fits adopted t.ty
  where
    fits : Bool → Ty → Bool
    fits true (guarded k u b) = object_fits type args u b
    fits false (tracked k u b) = t.binds && object_fits type args u b
    fits false (owning s u b) = object_fits type args u b
    fits _ _ = false

unfoldable pub target_refused : Bool → Target → Option ℕ → Option (List ℕ) → ℕ → List Refusal
target_refused adopted t None args at = []
target_refused adopted t (Some type) args at = refuse_if (not (target_fits adopted t type args)) rule.WRONG_TYPE at

-- the variable under whose key the target is guarded
abbrev pub guards : Option Ty → Ty → Bool
guards (Some (tracked k t a)) (guarded l u b) = k == l
guards _ _ = false

abbrev pub recipient_unfit : Option Ty → Ty → ℕ → List Refusal
recipient_unfit None ty at = []
recipient_unfit (Some r) ty at = refuse_if (not (guards (Some r) ty)) rule.WRONG_TYPE at

unfoldable pub recipient_refused : Scope → Target → Name → ℕ → List Refusal
recipient_refused scope t r at =
    unknown_name (var_named scope r.text) r ++ recipient_unfit (var_ty scope r.text) t.ty at

unfoldable pub adopter_refused : Scope → Target → Option Name → ℕ → List Refusal
adopter_refused scope t None at = []
adopter_refused scope t (Some r) at = recipient_refused scope t r at

-- values for the struct's fields, in their order
abbrev pub agree : List FieldDecl → List Init → Bool
agree (d ∷ ds) (i ∷ is) = bytes_eq d.name i.field.text && agree ds is
agree _ _ = true

unfoldable pub fields_agree : List FieldDecl → List Init → Bool
fields_agree ds is = if length ds == length is then agree ds is else false

-- a struct's objects begin in its first state, which one that is adopted has to be released in
abbrev pub releases_first : Option TypeDecl → Bool
releases_first (Some (a_struct d)) = d.release first_state
releases_first _ = true

abbrev pub takes_first : Ty → Bool
takes_first (owning s t args) = s first_state
takes_first _ = true

unfoldable pub adopted_refused : Kinds → (type : ℕ) → ℕ → List Refusal
adopted_refused kinds t at =
    refuse_if (not (may_drop_struct kinds t)) rule.WRONG_RELEASE at
    ++ refuse_if (not (releases_first (slice_get kinds.types t))) rule.WRONG_NEW at

unfoldable pub start_refused : Kinds → (adopted : Bool) → Ty → (type : ℕ) → ℕ → List Refusal
start_refused kinds true ty t at = adopted_refused kinds t at
start_refused kinds false ty t at = refuse_if (not (takes_first ty)) rule.WRONG_NEW at

-- the values of the fields, each for its own
abbrev pub inits_refused : Kinds → Scope → List Init → List Ty → List Refusal
inits_refused kinds scope (i ∷ is) (w ∷ ws) = operand_refused kinds scope w i.value ++ inits_refused kinds scope is ws
inits_refused kinds scope _ _ = []

abbrev pub field_types : List FieldDecl → (args : List ℕ) → List Ty
field_types ds args = map (λ d. ty_under args d.ty) ds

abbrev pub values_refused : Kinds → Scope → List FieldDecl → Option (List ℕ) → List Init → List Refusal
values_refused kinds scope ds None is = []
values_refused kinds scope ds (Some args) is = inits_refused kinds scope is (field_types ds args)

unfoldable pub struct_refused : Kinds → Scope → List FieldDecl → Option (List ℕ) → List Init → ℕ → List Refusal
struct_refused kinds scope ds args is at =
    if fields_agree ds is then values_refused kinds scope ds args is else refusal rule.WRONG_COUNT at ∷ []

unfoldable pub object_refused : Kinds → Scope → (type : ℕ) → Option (List ℕ) → List Init → ℕ → List Refusal
object_refused kinds scope t args is at =
    if is_struct (slice_get kinds.types t) then struct_refused kinds scope (fields_of kinds t) args is at
    else refusal rule.WRONG_NEW at ∷ []

unfoldable pub known_made_refused : Kinds → Scope → Bool → Target → ℕ → Option (List ℕ) → List Init → ℕ → List Refusal
known_made_refused kinds scope adopted t type args is at =
    start_refused kinds adopted t.ty type at ++ object_refused kinds scope type args is at

unfoldable pub made_refused : Kinds → Scope → Bool → Target → Option ℕ → Option (List ℕ) → List Init → ℕ → List Refusal
made_refused kinds scope adopted t None args is at = []
made_refused kinds scope adopted t (Some type) args is at = known_made_refused kinds scope adopted t type args is at

abbrev pub is_some_name : Option Name → Bool
is_some_name None = false
is_some_name (Some n) = true

-- `new T { .. }`, or `new(r) T { .. }`, with `new` at this place
unfoldable pub new_refused : Kinds → Scope → Target → Option Name → Named → List Init → ℕ → List Refusal
new_refused kinds scope t r n is at =
    adopter_refused scope t r at
    ++ (target_refused (is_some_name r) t (type_named kinds.file n.name) (known_args kinds scope n) at
    ++ (named_refused kinds scope n
    ++ made_refused kinds scope (is_some_name r) t (type_named kinds.file n.name) (known_args kinds scope n) is n.name.at.from))

-- ---- hidden keys and variables

-- An object for an owning target and one that is adopted at once have a variable and a key of their own, that are hidden.
abbrev pub hides : Right → Option Ty → Bool
hides (s.make (Some r) n is at) ty = true
hides (s.make None n is at) (Some (owning states t args)) = true
hides _ _ = false

unfoldable pub hidden_refused : Scope → Bool → ℕ → List Refusal
hidden_refused scope true at = too_many_keys scope at ++ too_many_vars scope at
hidden_refused scope false at = []

abbrev pub args_or_none : Option (List ℕ) → List ℕ
args_or_none None = []
args_or_none (Some args) = args

abbrev pub with_object : Kinds → Scope → Named → Scope
with_object kinds scope n =
    more_var (more_key scope [] (type_named kinds.file n.name)) []
    (tracked (length scope.keys) (number_of (type_named kinds.file n.name)) (args_or_none (known_args kinds scope n)))

unfoldable pub with_hidden : Kinds → Scope → Right → Option Ty → Scope
with_hidden kinds scope (s.make r n is at) ty = if hides (s.make r n is at) ty then with_object kinds scope n else scope
with_hidden kinds scope _ ty = scope

-- ---- what it becomes

abbrev pub init_operands : Kinds → Scope → List Init → List Ty → List Operand
init_operands kinds scope (i ∷ is) (w ∷ ws) = core_operand kinds scope w i.value ∷ init_operands kinds scope is ws
init_operands kinds scope _ _ = []

-- the values of the fields
unfoldable pub made_operands : Kinds → Scope → Named → List Init → List Operand
made_operands kinds scope n is =
    init_operands kinds scope is
    (field_types (fields_of kinds (number_of (type_named kinds.file n.name))) (args_or_none (known_args kinds scope n)))

-- the hidden variable is the one of this number
abbrev pub made_forms : Scope → Ty → (x hidden : ℕ) → Option Name → List Operand → List Form
made_forms scope ty x hidden (Some r) args = simple (make hidden args) ∷ simple (adopt x hidden (var_number scope r)) ∷ []
made_forms scope (owning states t keys) x hidden None args =
    simple (make hidden args) ∷ simple (own x (pack hidden states)) ∷ []
made_forms scope _ x hidden None args = simple (make x args) ∷ []

unfoldable pub new_forms : Kinds → Scope → Target → (x hidden : ℕ) → Option Name → Named → List Init → List Form
new_forms kinds scope t x hidden r n is = made_forms scope t.ty x hidden r (made_operands kinds scope n is)
