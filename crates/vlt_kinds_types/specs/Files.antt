-- What a file declares: its names, the states of its sets, and what the name of each type stands for.
use Rattle.std.specs.Prelude.{ℕ, Bool, true, false, not, if◌then◌else◌, List, [], ◌∷◌, ◌++◌, map, Option, Some, None, slice_get, option_and_then, unwrap_or}
use Rattle.std.specs.List.{list_any, position}
use Rattle.std.specs.Str.{bytes_eq}
use Rattle.vlt_syntax.specs.Tree as s
use Rattle.vlt_syntax.specs.Tree.{Name, Ty, SetState, HeaderKey, Case, Decl}
use Rattle.vlt_core.specs.Core.{Link, SetDecl}
use Rattle.vlt_kinds_types.specs.Names.Refusals.{of_each}
use Rattle.vlt_kinds_types.specs.Names.Globals.{Globals, global_in, globals_of}
use Rattle.vlt_kinds_types.specs.declared.names.globals.Entity.{Entity}
use Rattle.vlt_kinds_types.specs.declared.names.globals.Entity.TheVariants.{ASet, AType}
use Rattle.vlt_kinds_types.specs.declared.shapes.Sort.{Sort}
use Rattle.vlt_kinds_types.specs.declared.shapes.Sort.TheVariants as sort
use Rattle.vlt_kinds_types.specs.declared.shapes.Wanted.{Wanted}
use Rattle.vlt_kinds_types.specs.declared.shapes.Wanted.TheVariants as wanted
use Rattle.vlt_kinds_types.specs.declared.shapes.Shape.{Shape}

-- `o.and_then(go)`, in the order in which it is read
abbrev pub then_with : {A B : Type 0} → Option A → (A → Option B) → Option B
then_with o go = option_and_then go o

-- ---- names of types and of sets

abbrev pub as_type : Option Entity → Option ℕ
as_type (Some (AType t)) = Some t
as_type _ = None

abbrev pub as_set : Option Entity → Option ℕ
as_set (Some (ASet i)) = Some i
as_set _ = None

abbrev pub type_in : Globals → Name → Option ℕ
type_in known n = as_type (global_in known n.text)

abbrev pub set_in : Globals → Option Name → Option ℕ
set_in known None = None
set_in known (Some n) = as_set (global_in known n.text)

-- ---- the shape of a declared type

-- what an object of a named type has to be of
abbrev pub wanted_type : Option ℕ → Wanted
wanted_type None = wanted.Unknown
wanted_type (Some t) = wanted.OfType t

abbrev pub wanted_in : Globals → Option Name → Wanted
wanted_in known None = wanted.Any
wanted_in known (Some n) = wanted_type (type_in known n)

abbrev pub header_in : Globals → List HeaderKey → List Wanted
header_in known = map (λ p. wanted_in known p.key_type)

abbrev pub is_filled : {A : Type 0} → List A → Bool
is_filled [] = false
is_filled (x ∷ xs) = true

-- a case that lists keys
abbrev pub lists_keys : Case → Bool
lists_keys c = is_filled c.keys

-- the payload is written `tracked`, before the name of a type, or before an unknown name
abbrev pub is_known_type : Option ℕ → Bool
is_known_type None = false
is_known_type (Some t) = true

abbrev pub owns_payload : Globals → Ty → Bool
owns_payload known (s.owning ss n at) = is_known_type (type_in known n.name)
owns_payload known _ = false

abbrev pub leaves_payload_open : Globals → Ty → Bool
leaves_payload_open known (s.owning ss n at) = not (is_known_type (type_in known n.name))
leaves_payload_open known _ = false

-- A variant is keyed where a case lists a key, and owning where it is keyed or has a payload that is written `tracked`. An
-- unknown name after that leaves it open.
abbrev pub variant_sort : (keyed owning left_open : Bool) → Sort
variant_sort true owning left_open = sort.KeyedVariant
variant_sort false true left_open = sort.OwningVariant
variant_sort false false true = sort.OpenVariant
variant_sort false false false = sort.CopiedVariant

unfoldable pub sort_of_cases : Globals → List Case → Sort
sort_of_cases known cs =
    variant_sort (list_any lists_keys cs)
    (list_any (λ c. list_any (owns_payload known) c.payload) cs)
    (list_any (λ c. list_any (leaves_payload_open known) c.payload) cs)

-- the shape of the type that is declared here, if it is one
abbrev pub shapes_in : Globals → Decl → List Shape
shapes_in known (s.abstract n ss at) =
    record { sort = sort.Abstract; header = []; set = set_in known ss } ∷ []
shapes_in known (s.struct n ps ss fs r at) =
    record { sort = sort.Struct; header = header_in known ps; set = set_in known ss } ∷ []
shapes_in known (s.variant n ps cs at) =
    record { sort = sort_of_cases known cs; header = header_in known ps; set = None } ∷ []
shapes_in known _ = []

-- ---- the states of a set

-- the number of a state among these
abbrev pub state_number : List (List ℕ) → Name → Option ℕ
state_number known n = position (bytes_eq n.text) known

-- Each state has its name once, at its first place.
abbrev pub with_text : List (List ℕ) → List ℕ → List (List ℕ)
with_text known t = if list_any (bytes_eq t) known then known else known ++ t ∷ []

abbrev pub texts_after : (known : List (List ℕ)) → List SetState → List (List ℕ)
texts_after known [] = known
texts_after known (x ∷ xs) = texts_after (with_text known x.name.text) xs

abbrev pub state_texts : List SetState → List (List ℕ)
state_texts = texts_after []

-- the number of a state that is one of these
abbrev pub number_of : List (List ℕ) → Name → ℕ
number_of known n = unwrap_or (state_number known n) 0

abbrev pub links_to : (lower upper : ℕ) → (above : Bool) → List Link
links_to lower upper true = record { lower = lower; upper = upper } ∷ []
links_to lower upper false = []

-- the links to these states, each from the state before it
abbrev pub links_after : (known : List (List ℕ)) → (lower : ℕ) → List SetState → List Link
links_after known lower [] = []
links_after known lower (x ∷ xs) =
    links_to lower (number_of known x.name) x.above ++ links_after known (number_of known x.name) xs

-- the links of a set as written; none leads to its first state
abbrev pub links_of : List SetState → List Link
links_of xs = links_after (state_texts xs) 0 xs

-- ---- the file

-- the set that is declared here, if it is one
abbrev pub sets_in : Decl → List SetDecl
sets_in (s.stateset n ss at) = record { name = n.text; states = state_texts ss; links = links_of ss } ∷ []
sets_in _ = []

-- Sets and types are numbered in the order of their declarations.
pub record File : Type 0 where
  pub globals : Globals
  pub sets : List SetDecl
  pub shapes : List Shape

abbrev pub file_of : List Decl → File
file_of ds = record {
  globals = globals_of ds;
  sets = of_each sets_in ds;
  shapes = of_each (shapes_in (globals_of ds)) ds;
}

-- ---- look-ups

abbrev pub type_named : File → Name → Option ℕ
type_named file n = type_in file.globals n

unfoldable pub shape_at : File → (type : ℕ) → Option Shape
shape_at file t = slice_get file.shapes t

-- the shape of the type of this name
unfoldable pub shape_named : File → Name → Option Shape
shape_named file n = then_with (type_named file n) (shape_at file)

abbrev pub states_in : Option SetDecl → Option (List (List ℕ))
states_in None = None
states_in (Some d) = Some d.states

-- the names of the states of a type, where it has a set
unfoldable pub state_names : File → Option Shape → Option (List (List ℕ))
state_names file None = None
state_names file (Some shape) = then_with shape.set (λ i. states_in (slice_get file.sets i))
