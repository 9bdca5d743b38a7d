-- What a declared type becomes that isn't refused.
use Rattle.std.specs.Prelude.{ℕ, List, [], ◌∷◌, map, drop, Option, Some, None, unwrap_or}
use Rattle.vlt_syntax.specs.Tree as s
use Rattle.vlt_syntax.specs.Tree.{Name, States, KeyStates, HeaderKey, Field, Case, Decl}
use Rattle.vlt_core.specs.Core as core
use Rattle.vlt_kinds_types.specs.Names.Refusals.{of_each}
use Rattle.vlt_kinds_types.specs.Names.Globals.{Globals}
use Rattle.vlt_kinds_types.specs.declared.shapes.Wanted.{Wanted}
use Rattle.vlt_kinds_types.specs.declared.shapes.Wanted.TheVariants as wanted
use Rattle.vlt_kinds_types.specs.Files.{File, set_in, header_in, shape_named, shape_at, state_names}
use Rattle.vlt_kinds_types.specs.Types.{states_listed, core_ty}
use Rattle.vlt_kinds_decls.specs.Decls.{wanted_of, header_position}

abbrev pub type_wanted : Wanted → Option ℕ
type_wanted (wanted.OfType t) = Some t
type_wanted _ = None

abbrev pub core_header : Globals → List HeaderKey → core.Header
core_header known ps = map type_wanted (header_in known ps)

-- a key goes by its position in the header
abbrev pub header_number : List HeaderKey → List ℕ → ℕ
header_number ps k = unwrap_or (header_position ps k) 0

unfoldable pub core_field : File → List HeaderKey → Option (List (List ℕ)) → Field → core.FieldDecl
core_field file ps known f = record {
  name = f.name.text;
  ty = core_ty file (header_number ps) f.ty;
  states = states_listed known f.states;
}

unfoldable pub core_struct : File → Name → List HeaderKey → Option Name → List Field → Option States → core.StructDecl
core_struct file n ps ss fs r = record {
  name = n.text;
  header = core_header file.globals ps;
  set = set_in file.globals ss;
  release = states_listed (state_names file (shape_named file n)) r;
  fields = map (core_field file ps (state_names file (shape_named file n))) fs;
}

-- the names of the states of a header key's object
abbrev pub object_states : File → Option Wanted → Option (List (List ℕ))
object_states file (Some (wanted.OfType t)) = state_names file (shape_at file t)
object_states file _ = None

unfoldable pub core_case_key : File → List HeaderKey → KeyStates → core.CaseKey
core_case_key file ps k = record {
  position = header_number ps k.key.text;
  states = states_listed (object_states file (wanted_of file.globals ps k.key.text)) k.states;
}

-- a case's name has no tick here
unfoldable pub core_case : File → List HeaderKey → Case → core.CaseDecl
core_case file ps c = record {
  name = drop 1 c.name.text;
  payload = map (core_ty file (header_number ps)) c.payload;
  keys = map (core_case_key file ps) c.keys;
}

unfoldable pub core_variant : File → Name → List HeaderKey → List Case → core.VariantDecl
core_variant file n ps cs = record {
  name = n.text;
  header = core_header file.globals ps;
  cases = map (core_case file ps) cs;
}

-- the type that is declared here, if it is one
abbrev pub core_types_in : File → Decl → List core.TypeDecl
core_types_in file (s.abstract n ss at) = core.an_abstract n.text (set_in file.globals ss) ∷ []
core_types_in file (s.struct n ps ss fs r at) = core.a_struct (core_struct file n ps ss fs r) ∷ []
core_types_in file (s.variant n ps cs at) = core.a_variant (core_variant file n ps cs) ∷ []
core_types_in file _ = []

abbrev pub core_types : File → List Decl → List core.TypeDecl
core_types file = of_each (core_types_in file)
