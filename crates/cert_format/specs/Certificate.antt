-- Which text is the certificate of a program and its notes.
use Rattle.std.specs.Prelude.{◌≡◌, ◌≤◌, ℕ, suc, ◌+◌, Bool, true, false, if◌then◌else◌, List, [], ◌∷◌, ◌++◌, map, length, codes, Option, None}
use Rattle.std.specs.List.{flat_map}
use Rattle.std.specs.Str.{bytes_eq}
use Rattle.serde_json.specs.Data.{Data}
use Rattle.vlt_core.specs.Core as core
use Rattle.vlt_core.specs.Core.{TypeDecl, an_abstract, a_struct, a_variant, Func, Program}
use Rattle.cert_format.specs.Places.{unplaced_program}
use Rattle.cert_rows.specs.Parts.{list, All}
use Rattle.cert_rows.specs.Values.{Shape}
use Rattle.cert_rows.specs.Rows.{FnRow, Row, version, states, abstract_type, struct_type, variant_type, case_of, function, external, row_data, FitsRow}
use Rattle.cert_format.specs.Text.{marked, is_plain, IsJsonOf}
use Rattle.cert_format.specs.Notes.{maps_of}
use Rattle.cert_format.specs.Drafts.{Drafts, list_rows}
use Rattle.cert_format.specs.Notes.{Note}
use Rattle.cert_format.specs.Bodies.{length_of, list_draft, list_notes, AreWithin}
use Rattle.cert_format.specs.Bounds.{instances, are_bounds_known}

-- ---- the rows of a program, in version 1 or, where they may have links and bounds, in version 2

abbrev pub shape : (ordered : Bool) → (instances : Option ℕ) → Shape
shape o n = record { ordered = o; instances = n }

abbrev pub fn_shape : (ordered : Bool) → Program → Func → Shape
fn_shape o p f = shape o (instances p f)

abbrev pub type_rows : TypeDecl → List Row
type_rows (an_abstract name set) = abstract_type name set ∷ []
type_rows (a_struct d) = struct_type d ∷ []
type_rows (a_variant d) = variant_type d.name d.header (length d.cases) ∷ map case_of d.cases

abbrev pub fn_row : Func → FnRow
fn_row f = (f.name, f.result, f.params, f.clause, f.keys, f.vars, length_of f.body)

abbrev pub body_draft : Func → List Note → Drafts
body_draft f notes = list_draft (maps_of notes) 0 f.body

abbrev pub function_rows : Func → List Note → List Row
function_rows f notes =
    (if f.external then external (fn_row f) else function (fn_row f)) ∷
    list_rows (body_draft f notes)

abbrev pub functions_data : (ordered : Bool) → Program → List Func → List (List Note) → List Data
functions_data o p [] all = []
functions_data o p (f ∷ fs) [] =
    map (row_data (fn_shape o p f)) (function_rows f []) ++ functions_data o p fs []
functions_data o p (f ∷ fs) (notes ∷ all) =
    map (row_data (fn_shape o p f)) (function_rows f notes) ++ functions_data o p fs all

-- those of state sets and types
abbrev pub table_rows : Program → List Row
table_rows p = map states p.sets ++ flat_map type_rows p.types

abbrev pub program_data : (ordered : Bool) → Program → List (List Note) → List Data
program_data o p all =
    row_data (shape o None) (version o) ∷
    (map (row_data (shape o None)) (table_rows p) ++ functions_data o p p.fns all)

-- ---- programs that have a certificate

abbrev pub is_main : Func → Bool
is_main f = if f.external then false else bytes_eq f.name (codes "main")

-- the first function with a body that is named `main`, else the number of functions
abbrev pub main_from : ℕ → List Func → ℕ
main_from n [] = n
main_from n (f ∷ fs) = if is_main f then n else main_from (suc n) fs

-- at most so many declarations
abbrev pub most_declarations : ℕ
most_declarations = 4096

-- The rows of the function fit, its blocks are within the limit, an external has no body, and its
-- bounds are states.
pub record FitsFunction (o : Bool) (p : Program) (f : Func) (notes : List Note) : Type 0 where
  pub rows : All (FitsRow (fn_shape o p f)) (function_rows f notes)
  pub depth : AreWithin 1 f.body
  pub blank : f.external ≡ true → f.body ≡ core.done
  pub bounds : are_bounds_known p f ≡ true
  -- the notes of just those statements that have one, in order
  pub listed : notes ≡ list_notes 0 (body_draft f notes)

abbrev pub FitFunctions : Bool → Program → List Func → List (List Note) → Type 0
FitFunctions o p [] [] = Unit {0}
FitFunctions o p (f ∷ fs) (notes ∷ all) = FitsFunction o p f notes × FitFunctions o p fs all
FitFunctions o p _ _ = ⊥

pub record FitsCertificate (o : Bool) (p : Program) (all : List (List Note)) : Type 0 where
  pub tables : All (FitsRow (shape o None)) (table_rows p)
  pub functions : FitFunctions o p p.fns all
  pub few : length p.sets + length p.types + length p.fns ≤ most_declarations
  pub main : p.main ≡ main_from 0 p.fns
  -- a certificate has no places
  pub unplaced : unplaced_program p ≡ p

-- The text is the certificate of the program, and of the notes of each of its functions, in one of
-- the two versions.
pub record IsCertificateOf (text : List ℕ) (p : Program) (all : List (List Note)) : Type 0 where
  pub ordered : Bool
  pub json : IsJsonOf text (list (program_data ordered p all))
  pub plain : (body : List ℕ) → text ≡ marked body → is_plain body ≡ true
  pub fits : FitsCertificate ordered p all
