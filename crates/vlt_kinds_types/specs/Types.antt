-- A type where it stands: what is refused in it, the keys in it, and what it becomes.
use Rattle.std.specs.Prelude.{ℕ, nat_lt, Bool, true, false, not, ◌==◌, if◌then◌else◌, List, [], ◌∷◌, ◌++◌, length, map, Option, Some, None, unwrap_or}
use Rattle.std.specs.List.{list_any}
use Rattle.vlt_syntax.specs.Tree as s
use Rattle.vlt_syntax.specs.Tree.{Name, Named, Ty}
use Rattle.vlt_core.specs.Core as core
use Rattle.vlt_core.specs.Core.{States}
use Rattle.vlt_kinds_types.specs.declared.names.found.Refusal.{Refusal}
use Rattle.vlt_core.specs.declared.rules.TheConstants as rule
use Rattle.vlt_kinds_types.specs.Names.Refusals.{refusal, refuse_if}
use Rattle.vlt_kinds_types.specs.declared.shapes.Sort.{Sort}
use Rattle.vlt_kinds_types.specs.declared.shapes.Sort.TheVariants as sort
use Rattle.vlt_kinds_types.specs.declared.shapes.Wanted.{Wanted}
use Rattle.vlt_kinds_types.specs.declared.shapes.Wanted.TheVariants as wanted
use Rattle.vlt_kinds_types.specs.declared.shapes.Shape.{Shape}
use Rattle.vlt_kinds_types.specs.Files.{File, type_named, shape_named, state_names, state_number, wanted_type}

abbrev pub is_variant : Sort → Bool
is_variant sort.Abstract = false
is_variant sort.Struct = false
is_variant sort.CopiedVariant = true
is_variant sort.OwningVariant = true
is_variant sort.KeyedVariant = true
is_variant sort.OpenVariant = true

-- the sort that a name stands for, where it is known
abbrev pub sort_in : Option Shape → Option Sort
sort_in None = None
sort_in (Some shape) = Some shape.sort

-- ---- 7, 8: the type's name

abbrev pub header_in : Option Shape → List Wanted
header_in None = []
header_in (Some shape) = shape.header

unfoldable pub name_refused : Option Shape → Named → List Refusal
name_refused None n = refusal rule.NOT_A_TYPE n.name.at.from ∷ []
name_refused (Some shape) n =
    refuse_if (not (length shape.header == length n.keys)) rule.KEY_COUNT n.name.at.from

-- ---- 10, 11, 12: how the type is written

-- `tracked(K)` or `tracked@S` before a variant, or `K:` before anything but a struct
abbrev pub has_wrong_prefix : Ty → Option Sort → Bool
has_wrong_prefix (s.tracked k n at) (Some kind) = is_variant kind
has_wrong_prefix (s.owning (Some ss) n at) (Some kind) = is_variant kind
has_wrong_prefix (s.guarded k n) (Some sort.Struct) = false
has_wrong_prefix (s.guarded k n) (Some kind) = true
has_wrong_prefix _ _ = false

-- an owning variant without `tracked`, or another variant with it
abbrev pub has_wrong_ownership : Ty → Option Sort → Bool
has_wrong_ownership (s.owning None n at) (Some sort.CopiedVariant) = true
has_wrong_ownership (s.plain n) (Some sort.OwningVariant) = true
has_wrong_ownership (s.plain n) (Some sort.KeyedVariant) = true
has_wrong_ownership _ _ = false

abbrev pub is_bare_object : Ty → Option Sort → Bool
is_bare_object (s.plain n) (Some sort.Abstract) = true
is_bare_object (s.plain n) (Some sort.Struct) = true
is_bare_object _ _ = false

unfoldable pub form_refused : Ty → Option Sort → ℕ → List Refusal
form_refused t kind at =
    refuse_if (has_wrong_prefix t kind) rule.WRONG_PREFIX at
    ++ (refuse_if (has_wrong_ownership t kind) rule.WRONG_OWNERSHIP at
    ++ refuse_if (is_bare_object t kind) rule.BARE_OBJECT at)

-- ---- 13: states

abbrev pub is_listed : List ℕ → ℕ → Bool
is_listed seen i = list_any (λ j. i == j) seen

-- the numbers of the states that are listed, once the next name is read
abbrev pub with_listed : List ℕ → Option ℕ → List ℕ
with_listed seen None = seen
with_listed seen (Some i) = if is_listed seen i then seen else seen ++ i ∷ []

abbrev pub is_unknown_or_listed : List ℕ → Option ℕ → Bool
is_unknown_or_listed seen None = true
is_unknown_or_listed seen (Some i) = is_listed seen i

-- each name that is no state of these, or is listed for another time
abbrev pub listed_refused : (known : List (List ℕ)) → (seen : List ℕ) → List Name → List Refusal
listed_refused known seen [] = []
listed_refused known seen (n ∷ ns) =
    refuse_if (is_unknown_or_listed seen (state_number known n)) rule.NOT_A_STATE n.at.from
    ++ listed_refused known (with_listed seen (state_number known n)) ns

-- on a type without a set each name is refused
abbrev pub known_states : Option (List (List ℕ)) → List (List ℕ)
known_states None = []
known_states (Some known) = known

abbrev pub names_in_states : s.States → List Name
names_in_states (s.one n) = n ∷ []
names_in_states (s.several ns at) = ns

unfoldable pub states_refused : Option (List (List ℕ)) → Option s.States → List Refusal
states_refused known None = []
states_refused known (Some ss) = listed_refused (known_states known) [] (names_in_states ss)

abbrev pub has_states : Option Sort → Bool
has_states (Some sort.Abstract) = true
has_states (Some sort.Struct) = true
has_states _ = false

-- The states of an owning type. Those of a variant are refused as a prefix, and of an unknown name nothing is known.
unfoldable pub owned_states_refused : File → Option Shape → Option s.States → List Refusal
owned_states_refused file shape ss =
    if has_states (sort_in shape) then states_refused (state_names file shape) ss else []

-- ---- all of them

abbrev pub ty_place : Ty → ℕ
ty_place (s.int at) = at.from
ty_place (s.bool at) = at.from
ty_place (s.tracked k n at) = at.from
ty_place (s.owning ss n at) = at.from
ty_place (s.guarded k n) = k.at.from
ty_place (s.plain n) = n.name.at.from

-- the shape that the name in a type stands for
unfoldable pub shape_in : File → Ty → Option Shape
shape_in file (s.int at) = None
shape_in file (s.bool at) = None
shape_in file (s.tracked k n at) = shape_named file n.name
shape_in file (s.owning ss n at) = shape_named file n.name
shape_in file (s.guarded k n) = shape_named file n.name
shape_in file (s.plain n) = shape_named file n.name

unfoldable pub named_refused : Option Shape → Ty → Named → List Refusal
named_refused shape t n = form_refused t (sort_in shape) (ty_place t) ++ name_refused shape n

unfoldable pub owned_refused : File → Option Shape → Ty → Option s.States → Named → List Refusal
owned_refused file shape t ss n = named_refused shape t n ++ owned_states_refused file shape ss

-- what is refused in a type by rules 7, 8 and 10 to 13, its keys aside
abbrev pub ty_refused : File → Ty → List Refusal
ty_refused file (s.int at) = []
ty_refused file (s.bool at) = []
ty_refused file (s.tracked k n at) = named_refused (shape_named file n.name) (s.tracked k n at) n
ty_refused file (s.owning ss n at) = owned_refused file (shape_named file n.name) (s.owning ss n at) ss n
ty_refused file (s.guarded k n) = named_refused (shape_named file n.name) (s.guarded k n) n
ty_refused file (s.plain n) = named_refused (shape_named file n.name) (s.plain n) n

-- ---- keys

-- A key that stands in a type: of which type its object has to be there, and whether it stands as `tracked(K)`.
pub record KeyUse : Type 0 where
  pub key : List ℕ
  pub at : ℕ
  pub wanted : Wanted
  pub tracked : Bool

abbrev pub key_use : Wanted → Name → KeyUse
key_use w k = record { key = k.text; at = k.at.from; wanted = w; tracked = false }

abbrev pub tracked_use : Wanted → Name → KeyUse
tracked_use w k = record { key = k.text; at = k.at.from; wanted = w; tracked = true }

abbrev pub argument_uses : List Wanted → List Name → List KeyUse
argument_uses (w ∷ ws) (k ∷ ks) = key_use w k ∷ argument_uses ws ks
argument_uses _ ks = []

-- An unknown name, or another number of arguments than the header has keys, leaves open what they have to be.
abbrev pub header_uses : Option Shape → List Name → List KeyUse
header_uses None ks = map (key_use wanted.Unknown) ks
header_uses (Some shape) ks =
    if length shape.header == length ks then argument_uses shape.header ks else map (key_use wanted.Unknown) ks

unfoldable pub named_uses : File → Named → List KeyUse
named_uses file n = header_uses (shape_named file n.name) n.keys

-- the keys in a type, in the order of the text
abbrev pub ty_uses : File → Ty → List KeyUse
ty_uses file (s.int at) = []
ty_uses file (s.bool at) = []
ty_uses file (s.tracked k n at) = tracked_use (wanted_type (type_named file n.name)) k ∷ named_uses file n
ty_uses file (s.owning ss n at) = named_uses file n
ty_uses file (s.guarded k n) = key_use wanted.Any k ∷ named_uses file n
ty_uses file (s.plain n) = named_uses file n

-- ---- what a type becomes

-- how many states an object of a type can have
abbrev pub state_count_in : Option (List (List ℕ)) → ℕ
state_count_in None = 1
state_count_in (Some known) = length known

abbrev pub all_states_in : Option (List (List ℕ)) → States
all_states_in known = λ i. nat_lt i (state_count_in known)

-- the numbers of these names; a name that is no state is refused
abbrev pub listed_numbers : (known : List (List ℕ)) → (seen : List ℕ) → List Name → List ℕ
listed_numbers known seen [] = seen
listed_numbers known seen (n ∷ ns) = listed_numbers known (with_listed seen (state_number known n)) ns

-- a set without a state is refused, and stands for that of the first state
abbrev pub set_of_numbers : List ℕ → States
set_of_numbers [] = λ i. i == 0
set_of_numbers (j ∷ js) = λ i. is_listed (j ∷ js) i

-- the states that are listed, or all
abbrev pub states_listed : Option (List (List ℕ)) → Option s.States → States
states_listed known None = all_states_in known
states_listed known (Some ss) = set_of_numbers (listed_numbers (known_states known) [] (names_in_states ss))

-- an unknown name is number 0, in a type that is refused
abbrev pub type_number : File → Name → ℕ
type_number file n = unwrap_or (type_named file n) 0

-- `number` gives the number of each key that is in scope
abbrev pub key_numbers : (number : List ℕ → ℕ) → List Name → List ℕ
key_numbers number = map (λ k. number k.text)

abbrev pub is_variant_in : Option Sort → Bool
is_variant_in None = false
is_variant_in (Some kind) = is_variant kind

unfoldable pub owned_ty : File → (number : List ℕ → ℕ) → Option s.States → Named → core.Ty
owned_ty file number ss n =
    if is_variant_in (sort_in (shape_named file n.name))
    then core.owning_variant (type_number file n.name) (key_numbers number n.keys)
    else core.owning (states_listed (state_names file (shape_named file n.name)) ss) (type_number file n.name)
    (key_numbers number n.keys)

-- the core type of a type that isn't refused
abbrev pub core_ty : File → (number : List ℕ → ℕ) → Ty → core.Ty
core_ty file number (s.int at) = core.int
core_ty file number (s.bool at) = core.bool
core_ty file number (s.tracked k n at) =
    core.tracked (number k.text) (type_number file n.name) (key_numbers number n.keys)
core_ty file number (s.owning ss n at) = owned_ty file number ss n
core_ty file number (s.guarded k n) =
    core.guarded (number k.text) (type_number file n.name) (key_numbers number n.keys)
core_ty file number (s.plain n) = core.variant (type_number file n.name) (key_numbers number n.keys)
