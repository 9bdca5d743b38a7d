-- The rule on heads of externals: what no host gives or takes.
use Rattle.std.specs.Prelude.{ℕ, suc, Bool, true, false, not, ◌&&◌, ◌||◌, ◌==◌, if◌then◌else◌, List, [], ◌++◌, length, Option, Some, None, slice_get}
use Rattle.std.specs.List.{list_any, list_all}
use Rattle.vlt_syntax.specs.Tree as s
use Rattle.vlt_syntax.specs.Tree.{Name, Named, Entry, ResultType, Parameter, Head, Ty}
use Rattle.vlt_core.specs.Core as core
use Rattle.vlt_core.specs.Core.{TypeDecl, CaseDecl}
use Rattle.vlt_core.specs.Lookups.{cases_in}
use Rattle.vlt_core.specs.Types.{is_abstract}
use Rattle.vlt_core.specs.declared.rules.TheConstants as rule
use Rattle.vlt_kinds_types.specs.declared.names.found.Refusal.{Refusal}
use Rattle.vlt_kinds_types.specs.Names.Refusals.{refuse_if, of_each}
use Rattle.vlt_kinds_types.specs.Names.Along.{along}
use Rattle.vlt_kinds_types.specs.declared.shapes.Sort.{Sort}
use Rattle.vlt_kinds_types.specs.declared.shapes.Sort.TheVariants as sort
use Rattle.vlt_kinds_types.specs.Files.{File, type_named, shape_named}
use Rattle.vlt_kinds_types.specs.Types.{is_variant, sort_in, shape_in, header_in, ty_place}
use Rattle.vlt_kinds_heads.specs.Places.{clause_in, entry_key, is_fresh}
use Rattle.vlt_kinds_heads.specs.Keys.{Keys, facts_of}

-- ---- parameters: no variants

abbrev pub is_wrong_parameter : Ty → Option Sort → Bool
is_wrong_parameter (s.owning ss n at) (Some kind) = is_variant kind
is_wrong_parameter (s.plain n) (Some kind) = is_variant kind
is_wrong_parameter _ _ = false

unfoldable pub host_parameter_refused : File → Parameter → List Refusal
host_parameter_refused file p =
    refuse_if (is_wrong_parameter p.ty (sort_in (shape_in file p.ty))) rule.EXTERN_HEAD (ty_place p.ty)

-- ---- results

-- The payloads that a host gives are numbers, truths and abstract objects that are owned.
abbrev pub is_host_payload : List TypeDecl → core.Ty → Bool
is_host_payload types core.int = true
is_host_payload types core.bool = true
is_host_payload types (core.owning states t args) = is_abstract (slice_get types t)
is_host_payload types _ = false

abbrev pub has_host_payload : List TypeDecl → CaseDecl → Bool
has_host_payload types c = list_all (is_host_payload types) c.payload

-- the cases of the variant of this number, none where there is none
abbrev pub variant_cases : List TypeDecl → Option ℕ → List CaseDecl
variant_cases types None = []
variant_cases types (Some t) = cases_in (slice_get types t)

unfoldable pub cases_named : File → List TypeDecl → Named → List CaseDecl
cases_named file types n = variant_cases types (type_named file n.name)

abbrev pub is_no_abstract : Option Sort → Bool
is_no_abstract None = false
is_no_abstract (Some sort.Abstract) = false
is_no_abstract (Some sort.Struct) = true
is_no_abstract (Some kind) = true

abbrev pub is_struct : Option Sort → Bool
is_struct (Some sort.Struct) = true
is_struct _ = false

unfoldable pub is_wrong_variant : File → List TypeDecl → Named → Bool
is_wrong_variant file types n = not (list_all (has_host_payload types) (cases_named file types n))

-- A host gives numbers, truths, an abstract object under a `new` key or owned, and variants with such payloads.
abbrev pub is_wrong_result : File → List TypeDecl → Keys → Ty → Bool
is_wrong_result file types keys (s.int at) = false
is_wrong_result file types keys (s.bool at) = false
is_wrong_result file types keys (s.tracked k n at) =
    not (facts_of keys k.text).is_fresh || is_no_abstract (sort_in (shape_named file n.name))
is_wrong_result file types keys (s.owning ss n at) =
    is_struct (sort_in (shape_named file n.name)) || is_wrong_variant file types n
is_wrong_result file types keys (s.guarded k n) = true
is_wrong_result file types keys (s.plain n) = is_wrong_variant file types n

-- ---- the keys that a case of the result lists

abbrev pub lists_position : List CaseDecl → ℕ → Bool
lists_position cs i = list_any (λ c. list_any (λ k. k.position == i) c.keys) cs

-- such a key is that of a `tracked(K)` parameter
unfoldable pub case_argument_refused : Keys → List CaseDecl → ℕ → Name → List Refusal
case_argument_refused keys cs i k =
    refuse_if (lists_position cs i && not (facts_of keys k.text).is_tracked_parameter) rule.EXTERN_HEAD k.at.from

abbrev pub next_position : ℕ → Name → ℕ
next_position i k = suc i

-- the key arguments, each at its position of the header
abbrev pub case_arguments_refused : Keys → List CaseDecl → List Name → List Refusal
case_arguments_refused keys cs = along next_position (case_argument_refused keys cs) 0

unfoldable pub fitting_refused : File → List TypeDecl → Keys → Named → List Refusal
fitting_refused file types keys n = case_arguments_refused keys (cases_named file types n) n.keys

-- Of another number of arguments than the header has keys nothing is known.
unfoldable pub arguments_refused : File → List TypeDecl → Keys → Named → List Refusal
arguments_refused file types keys n =
    if length n.keys == length (header_in (shape_named file n.name)) then fitting_refused file types keys n else []

abbrev pub result_arguments_refused : File → List TypeDecl → Keys → Ty → List Refusal
result_arguments_refused file types keys (s.owning ss n at) = arguments_refused file types keys n
result_arguments_refused file types keys (s.plain n) = arguments_refused file types keys n
result_arguments_refused file types keys _ = []

unfoldable pub host_ty_refused : File → List TypeDecl → Keys → Ty → List Refusal
host_ty_refused file types keys t =
    refuse_if (is_wrong_result file types keys t) rule.EXTERN_HEAD (ty_place t)
    ++ result_arguments_refused file types keys t

abbrev pub host_result_refused : File → List TypeDecl → Keys → ResultType → List Refusal
host_result_refused file types keys (s.void at) = []
host_result_refused file types keys (s.value t) = host_ty_refused file types keys t

-- ---- clauses: a key, `new` aside, is that of a `tracked(K)` parameter

unfoldable pub host_entry_refused : Keys → Entry → List Refusal
host_entry_refused keys e =
    refuse_if (not (is_fresh e || (facts_of keys (entry_key e).text).is_tracked_parameter)) rule.EXTERN_HEAD
    (entry_key e).at.from

-- the head of an external, with its keys
unfoldable pub external_refused : File → List TypeDecl → Head → Keys → List Refusal
external_refused file types h keys =
    of_each (host_parameter_refused file) h.parameters
    ++ (host_result_refused file types keys h.result_type
    ++ of_each (host_entry_refused keys) (clause_in h.clause))
