-- Phase B, the rules on declared types: what each of them refuses, and where.
use Rattle.std.specs.Prelude.{ℕ, Bool, true, false, not, ◌&&◌, ◌||◌, ◌==◌, if◌then◌else◌, List, [], ◌∷◌, ◌++◌, Option, Some, None}
use Rattle.std.specs.List.{list_any, position}
use Rattle.std.specs.Str.{bytes_eq}
use Rattle.vlt_syntax.specs.Tree as s
use Rattle.vlt_syntax.specs.Tree.{Name, States, KeyStates, Ty, SetState, HeaderKey, Field, Case, Decl}
use Rattle.vlt_core.specs.Core.{Link}
use Rattle.vlt_core.specs.Lookups.{leads_up}
use Rattle.vlt_kinds_types.specs.declared.names.found.Refusal.{Refusal}
use Rattle.vlt_core.specs.declared.rules.TheConstants as rule
use Rattle.vlt_kinds_types.specs.Names.Refusals.{refusal, refuse_if, of_each}
use Rattle.vlt_kinds_types.specs.Names.Along.{along}
use Rattle.vlt_kinds_types.specs.Names.Globals.{Globals}
use Rattle.vlt_kinds_types.specs.declared.shapes.Sort.{Sort}
use Rattle.vlt_kinds_types.specs.declared.shapes.Sort.TheVariants as sort
use Rattle.vlt_kinds_types.specs.declared.shapes.Wanted.{Wanted}
use Rattle.vlt_kinds_types.specs.declared.shapes.Wanted.TheVariants as wanted
use Rattle.vlt_kinds_types.specs.Files.{File, wanted_in, shape_named, shape_at, state_names, links_of}
use Rattle.vlt_kinds_types.specs.Types.{is_variant, sort_in, shape_in, is_unknown_or_listed, with_listed, states_refused, owned_states_refused, ty_place, ty_refused, KeyUse, ty_uses}
use Rattle.vlt_kinds_decls.specs.declared.parts.Part.{Part}
use Rattle.vlt_kinds_decls.specs.declared.parts.Part.TheVariants as part

-- ---- 7, 17: the type of a header key

abbrev pub object_refused : Option Sort → Name → List Refusal
object_refused None n = refusal rule.NOT_A_TYPE n.at.from ∷ []
object_refused (Some kind) n = refuse_if (is_variant kind) rule.HEADER_TYPE n.at.from

abbrev pub key_type_refused : File → Option Name → List Refusal
key_type_refused file None = []
key_type_refused file (Some n) = object_refused (sort_in (shape_named file n)) n

unfoldable pub header_refused : File → HeaderKey → List Refusal
header_refused file p = key_type_refused file p.key_type

-- ---- 9, 18: the keys in a field's or a payload's type

-- what the header says of the object of this key, where it has the key
abbrev pub wanted_of : Globals → List HeaderKey → List ℕ → Option Wanted
wanted_of known [] k = None
wanted_of known (p ∷ ps) k = if bytes_eq k p.key.text then Some (wanted_in known p.key_type) else wanted_of known ps k

-- A key whose object is of any type, or of another one, doesn't do where an object of a type is wanted.
abbrev pub disagrees : (has wants : Wanted) → Bool
disagrees wanted.Any (wanted.OfType t) = true
disagrees (wanted.OfType u) (wanted.OfType t) = not (u == t)
disagrees _ _ = false

abbrev pub key_refused : Option Wanted → KeyUse → List Refusal
key_refused None u = refusal rule.KEY_NOT_IN_HEADER u.at ∷ []
key_refused (Some has) u = refuse_if (not u.tracked && disagrees has u.wanted) rule.KEY_ARGUMENT u.at

unfoldable pub use_refused : Globals → List HeaderKey → KeyUse → List Refusal
use_refused known ps u = key_refused (wanted_of known ps u.key) u

-- ---- 14, 15: types that no field, or no payload, has

abbrev pub is_wrong_field : Ty → Option Sort → Bool
is_wrong_field (s.tracked k n at) kind = true
is_wrong_field (s.owning ss n at) (Some sort.KeyedVariant) = true
is_wrong_field (s.plain n) (Some sort.KeyedVariant) = true
is_wrong_field _ _ = false

abbrev pub is_wrong_payload : Ty → Option Sort → Bool
is_wrong_payload (s.tracked k n at) kind = true
is_wrong_payload (s.owning ss n at) (Some kind) = is_variant kind
is_wrong_payload (s.plain n) (Some kind) = true
is_wrong_payload _ _ = false

abbrev pub part_refused : Part → Ty → Option Sort → List Refusal
part_refused part.Field t kind = refuse_if (is_wrong_field t kind) rule.FIELD_TYPE (ty_place t)
part_refused part.Payload t kind = refuse_if (is_wrong_payload t kind) rule.PAYLOAD_TYPE (ty_place t)

-- a type in a declaration with this header
unfoldable pub typed_refused : File → List HeaderKey → Part → Ty → List Refusal
typed_refused file ps p t =
    ty_refused file t
    ++ (part_refused p t (sort_in (shape_in file t)) ++ of_each (use_refused file.globals ps) (ty_uses file t))

-- ---- structs, with the names of their states

unfoldable pub field_refused : File → List HeaderKey → Option (List (List ℕ)) → Field → List Refusal
field_refused file ps known f = typed_refused file ps part.Field f.ty ++ states_refused known f.states

unfoldable pub struct_refused : File → Name → List HeaderKey → List Field → Option States → List Refusal
struct_refused file n ps fs r =
    of_each (header_refused file) ps
    ++ (of_each (field_refused file ps (state_names file (shape_named file n))) fs
    ++ states_refused (state_names file (shape_named file n)) r)

-- ---- 16: the keys that a case lists, and their states

abbrev pub header_position : List HeaderKey → List ℕ → Option ℕ
header_position ps k = position (λ p. bytes_eq k p.key.text) ps

-- A key must be one of the header, with a type there, and not be listed before.
abbrev pub is_any : Option Wanted → Bool
is_any (Some wanted.Any) = true
is_any _ = false

abbrev pub object_states_refused : File → Option Wanted → Option States → List Refusal
object_states_refused file (Some (wanted.OfType t)) ss = owned_states_refused file (shape_at file t) ss
object_states_refused file _ ss = []

unfoldable pub case_key_refused : File → List HeaderKey → (is_wrong : Bool) → KeyStates → List Refusal
case_key_refused file ps is_wrong k =
    if is_wrong || is_any (wanted_of file.globals ps k.key.text) then refusal rule.CASE_KEY k.key.at.from ∷ []
    else object_states_refused file (wanted_of file.globals ps k.key.text) k.states

-- the positions of the keys that are listed, once the next one is read
abbrev pub with_key : List HeaderKey → (seen : List ℕ) → KeyStates → List ℕ
with_key ps seen k = with_listed seen (header_position ps k.key.text)

unfoldable pub next_key_refused : File → List HeaderKey → (seen : List ℕ) → KeyStates → List Refusal
next_key_refused file ps seen k =
    case_key_refused file ps (is_unknown_or_listed seen (header_position ps k.key.text)) k

abbrev pub case_keys_refused : File → List HeaderKey → List KeyStates → List Refusal
case_keys_refused file ps = along (with_key ps) (next_key_refused file ps) []

-- ---- variants

unfoldable pub case_refused : File → List HeaderKey → Case → List Refusal
case_refused file ps c =
    of_each (typed_refused file ps part.Payload) c.payload ++ case_keys_refused file ps c.keys

unfoldable pub variant_refused : File → List HeaderKey → List Case → List Refusal
variant_refused file ps cs = of_each (header_refused file) ps ++ of_each (case_refused file ps) cs

-- ---- 45: the order of a state set leads from a state to itself

abbrev pub has_loop : List Link → Bool
has_loop ls = list_any (λ l. leads_up ls 31 l.upper l.lower) ls

unfoldable pub set_refused : Name → List SetState → List Refusal
set_refused n ss = refuse_if (has_loop (links_of ss)) rule.ORDER_LOOP n.at.from

-- ---- the whole phase

abbrev pub type_refused : File → Decl → List Refusal
type_refused file (s.stateset n ss at) = set_refused n ss
type_refused file (s.struct n ps ss fs r at) = struct_refused file n ps fs r
type_refused file (s.variant n ps cs at) = variant_refused file ps cs
type_refused file _ = []

-- what the rules on declared types refuse
unfoldable pub types_refused : File → List Decl → List Refusal
types_refused file ds = of_each (type_refused file) ds
