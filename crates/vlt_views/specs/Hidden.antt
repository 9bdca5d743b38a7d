-- Rule 50, one of those on heads: an external that a module itself declares gives what stays abstract of the interface.
use Rattle.std.specs.Prelude.{ℕ, Bool, false, ◌||◌, ◌==◌, if◌then◌else◌, List, [], ◌∷◌, ◌++◌, Option, Some, None, slice_get}
use Rattle.std.specs.List.{list_any}
use Rattle.std.specs.Str.{bytes_eq}
use Rattle.vlt_syntax.specs.Tree as s
use Rattle.vlt_syntax.specs.Tree.{Named, Ty, ResultType, Decl}
use Rattle.vlt_core.specs.Core as core
use Rattle.vlt_core.specs.Core.{TypeDecl, an_abstract, a_struct, a_variant, CaseDecl}
use Rattle.vlt_kinds_types.specs.declared.names.found.Refusal.{Refusal}
use Rattle.vlt_kinds_types.specs.Names.Refusals.{refuse_if}
use Rattle.vlt_kinds_types.specs.Files.{File, type_named, then_with}
use Rattle.vlt_kinds_heads.specs.Externals.{cases_named}
use Rattle.vlt_iface.specs.declared.rules.TheConstants.{ABSTRACT_RESULT}

-- The names of the interface's types that stay abstract in the view. A type that the module gives is a struct here, so where an
-- external gives it the rule on heads of externals refuses at the result's type, which comes before the name.
abbrev pub hidden_name : (origin : ℕ) → Decl → List (List ℕ)
hidden_name o (s.abstract n ss at) = if o == 0 then n.text ∷ [] else []
hidden_name o d = []

abbrev pub hidden_names : (origins : List ℕ) → List Decl → List (List ℕ)
hidden_names [] ds = []
hidden_names (o ∷ os) [] = []
hidden_names (o ∷ os) (d ∷ ds) = hidden_name o d ++ hidden_names os ds

abbrev pub type_name : TypeDecl → List ℕ
type_name (an_abstract n set) = n
type_name (a_struct d) = d.name
type_name (a_variant d) = d.name

-- the type has one of these names
abbrev pub is_hidden : (hidden : List (List ℕ)) → Option TypeDecl → Bool
is_hidden hidden None = false
is_hidden hidden (Some d) = list_any (bytes_eq (type_name d)) hidden

module _ (hidden : List (List ℕ)) (types : List TypeDecl) where
  abbrev pub hides : core.Ty → Bool
  hides core.int = false
  hides core.bool = false
  hides (core.tracked k t args) = is_hidden hidden (slice_get types t)
  hides (core.owning states t args) = is_hidden hidden (slice_get types t)
  hides (core.guarded k t args) = is_hidden hidden (slice_get types t)
  hides (core.variant t args) = is_hidden hidden (slice_get types t)
  hides (core.owning_variant t args) = is_hidden hidden (slice_get types t)

  abbrev pub case_hides : CaseDecl → Bool
  case_hides c = list_any hides c.payload

  -- the type of this name, or a payload of the variant of this name
  abbrev pub named_hides : File → Named → Bool
  named_hides file n =
      is_hidden hidden (then_with (type_named file n.name) (slice_get types)) ||
      list_any case_hides (cases_named file types n)

  abbrev pub ty_hides : File → Ty → Bool
  ty_hides file (s.int at) = false
  ty_hides file (s.bool at) = false
  ty_hides file (s.tracked k n at) = named_hides file n
  ty_hides file (s.owning ss n at) = named_hides file n
  ty_hides file (s.guarded k n) = named_hides file n
  ty_hides file (s.plain n) = named_hides file n

  abbrev pub result_hides : File → ResultType → Bool
  result_hides file (s.void at) = false
  result_hides file (s.value t) = ty_hides file t

  -- a declaration of this origin
  abbrev pub own_refused_in : File → (origin : ℕ) → Decl → List Refusal
  own_refused_in file o (s.extern h at) =
      if o == 0 then [] else refuse_if (result_hides file h.result_type) ABSTRACT_RESULT h.name.at.from
  own_refused_in file o d = []

  abbrev pub own_refused : File → (origins : List ℕ) → List Decl → List Refusal
  own_refused file [] ds = []
  own_refused file (o ∷ os) [] = []
  own_refused file (o ∷ os) (d ∷ ds) = own_refused_in file o d ++ own_refused file os ds
