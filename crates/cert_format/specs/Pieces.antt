-- Declarations as rows give them, and the first row that isn't of its form.
use Rattle.std.specs.Prelude.{◌≡◌, ◌≤◌, ◌<◌, ℕ, zero, suc, ◌+◌, ◌==◌, nat_le, ◌&&◌, Bool, true, false, if◌then◌else◌, List, [], ◌∷◌, ◌++◌, map, length, Option, Some, None}
use Rattle.serde_json.specs.Data.{Data}
use Rattle.vlt_core.specs.Core as core
use Rattle.vlt_core.specs.Core.{Name, SetDecl, StructDecl, CaseDecl, Func, Program}
use Rattle.cert_rows.specs.Parts.{All}
use Rattle.cert_rows.specs.Values.{Shape}
use Rattle.cert_rows.specs.Rows.{FnRow, Row, version, states, abstract_type, struct_type, variant_type, case_of, function, external, row_data, FitsRow, row_part}
use Rattle.cert_format.specs.Drafts.{Drafts, list_rows, is_whole_list, AreTaken}
use Rattle.cert_format.specs.Endings.{wrong_list, or_else}
use Rattle.cert_format.specs.Bounds.{are_bounds_known}
use Rattle.cert_format.specs.Certificate.{shape, fn_shape}

-- A declaration as its rows give it. A variant says how many cases it has and a function how many
-- statements, and the last piece may break off before.
pub data Piece : Type 0 where
  a_set : SetDecl → Piece
  an_abstract : Name → (set : Option ℕ) → Piece
  a_struct : StructDecl → Piece
  a_variant : Name → (header : List (Option ℕ)) → (count : ℕ) → List CaseDecl → Piece
  an_external : FnRow → Piece
  a_function : FnRow → Drafts → Piece

abbrev pub piece_rows : Piece → List Row
piece_rows (a_set d) = states d ∷ []
piece_rows (an_abstract name set) = abstract_type name set ∷ []
piece_rows (a_struct d) = struct_type d ∷ []
piece_rows (a_variant name h count cases) = variant_type name h count ∷ map case_of cases
piece_rows (an_external f) = external f ∷ []
piece_rows (a_function f ss) = function f ∷ list_rows ss

-- sets, then types, then functions
abbrev pub phase_of : Piece → ℕ
phase_of (a_set d) = 0
phase_of (an_abstract name set) = 1
phase_of (a_struct d) = 1
phase_of (a_variant name h count cases) = 1
phase_of (an_external f) = 2
phase_of (a_function f ss) = 2

abbrev pub is_whole_piece : Piece → Bool
is_whole_piece (a_variant name h count cases) = length cases == count
is_whole_piece (a_function f ss) = is_whole_list f.6 ss
is_whole_piece x = true

-- ---- the declarations before a piece: a program without functions

abbrev pub empty_program : Program
empty_program = record { sets = []; types = []; fns = []; main = 0 }

abbrev pub with_piece : Program → Piece → Program
with_piece t (a_set d) = record t { sets = t.sets ++ d ∷ [] }
with_piece t (an_abstract name set) = record t { types = t.types ++ core.an_abstract name set ∷ [] }
with_piece t (a_struct d) = record t { types = t.types ++ core.a_struct d ∷ [] }
with_piece t (a_variant name h count cases) =
    record t {
      types = t.types ++ core.a_variant (record { name = name; header = h; cases = cases }) ∷ [];
    }
with_piece t (an_external f) = t
with_piece t (a_function f ss) = t

-- a function of a row with this body
abbrev pub func_of : (external : Bool) → FnRow → core.Stmts → Func
func_of ext r body = record {
  name = r.0;
  external = ext;
  result = r.1;
  params = r.2;
  clause = r.3;
  keys = r.4;
  vars = r.5;
  body = body;
  end = 0;
}

abbrev pub head_shape : (ordered : Bool) → Program → FnRow → Shape
head_shape o t f = fn_shape o t (func_of false f core.done)

abbrev pub has_known_bounds : Program → FnRow → Bool
has_known_bounds t f = are_bounds_known t (func_of false f core.done)

-- how the rows of a piece are written, after these declarations
abbrev pub piece_shape : (ordered : Bool) → Program → Piece → Shape
piece_shape o t (an_external f) = head_shape o t f
piece_shape o t (a_function f ss) = head_shape o t f
piece_shape o t x = shape o None

abbrev pub piece_data : (ordered : Bool) → Program → Piece → List Data
piece_data o t x = map (row_data (piece_shape o t x)) (piece_rows x)

abbrev pub pieces_data : (ordered : Bool) → Program → List Piece → List Data
pieces_data o t [] = []
pieces_data o t (x ∷ xs) = piece_data o t x ++ pieces_data o (with_piece t x) xs

abbrev pub pieces_rows : List Piece → List Row
pieces_rows [] = []
pieces_rows (x ∷ xs) = piece_rows x ++ pieces_rows xs

-- ---- pieces are what the rows say, as far as they go

abbrev pub is_case : Option Row → Bool
is_case (Some (case_of c)) = true
is_case _ = false

abbrev pub BeginsNoCase : (ordered : Bool) → List Data → Type 0
BeginsNoCase o [] = Unit {0}
BeginsNoCase o (d ∷ ds) = is_case ((row_part (shape o None)).of_data d) ≡ false

abbrev pub bounds_hold : Program → Piece → Bool
bounds_hold t (an_external f) = has_known_bounds t f
bounds_hold t (a_function f ss) = has_known_bounds t f
bounds_hold t x = true

-- its inside is what the rows say, where `rest` comes after the piece
abbrev pub IsSaid : (ordered : Bool) → Program → Piece → (rest : List Data) → Type 0
IsSaid o t (a_variant name h count cases) rest =
    (length cases ≤ count) × (length cases < count → BeginsNoCase o rest)
IsSaid o t (a_function f ss) rest =
    AreTaken 1 f.6 ss (map (row_part (head_shape o t f)).of_data rest)
IsSaid o t x rest = Unit {0}

pub record IsPiece (o : Bool) (t : Program) (phase : ℕ) (x : Piece)
    (rest : List Data) : Type 0 where
  pub in_order : nat_le phase (phase_of x) ≡ true
  pub bounds : bounds_hold t x ≡ true
  pub rows : All (FitsRow (piece_shape o t x)) (piece_rows x)
  pub said : IsSaid o t x rest

-- a row of a declaration of this phase or a later one
abbrev pub is_begun : Program → (phase : ℕ) → Option Row → Bool
is_begun t phase (Some (states d)) = nat_le phase 0
is_begun t phase (Some (abstract_type name set)) = nat_le phase 1
is_begun t phase (Some (struct_type d)) = nat_le phase 1
is_begun t phase (Some (variant_type name h count)) = nat_le phase 1
is_begun t phase (Some (external f)) = nat_le phase 2 && has_known_bounds t f
is_begun t phase (Some (function f)) = nat_le phase 2 && has_known_bounds t f
is_begun t phase _ = false

-- the first row begins no declaration, while some are left of so many
abbrev pub IsEnd : (ordered : Bool) → Program → (phase left : ℕ) → List Data → Type 0
IsEnd o t phase zero ds = Unit {0}
IsEnd o t phase (suc left) [] = Unit {0}
IsEnd o t phase (suc left) (d ∷ ds) = is_begun t phase ((row_part (shape o None)).of_data d) ≡ false

-- The pieces are what rows say as far as they go, and `more` comes after them.
abbrev pub ArePieces : (ordered : Bool) → Program → (phase left : ℕ) → List Piece →
    (more : List Data) → Type 0
ArePieces o t phase left [] more = IsEnd o t phase left more
ArePieces o t phase zero (x ∷ xs) more = ⊥
ArePieces o t phase (suc left) (x ∷ xs) more =
    IsPiece o t phase x (pieces_data o (with_piece t x) xs ++ more) ×
    (is_whole_piece x ≡ true → ArePieces o (with_piece t x) (phase_of x) left xs more) ×
    (is_whole_piece x ≡ false → xs ≡ [])

-- ---- the first row that isn't of its form

abbrev pub wrong_piece : (at : ℕ) → Piece → Option ℕ
wrong_piece at (a_function f ss) = wrong_list (suc at) ss
wrong_piece at x = None

abbrev pub wrong_pieces : (at : ℕ) → List Piece → Option ℕ
wrong_pieces at [] = None
wrong_pieces at (x ∷ xs) = or_else (wrong_piece at x) (wrong_pieces (at + length (piece_rows x)) xs)

abbrev pub are_whole : List Piece → Bool
are_whole [] = true
are_whole (x ∷ xs) = is_whole_piece x && are_whole xs

abbrev pub is_nothing : List Data → Bool
is_nothing [] = true
is_nothing (d ∷ ds) = false

-- The first row that has 0 or maps against what the rows before the break say, or else the break.
abbrev pub first_fault : List Piece → (more : List Data) → Option ℕ
first_fault ps more =
    or_else (wrong_pieces 1 ps)
    (if are_whole ps && is_nothing more then None else Some (1 + length (pieces_rows ps)))

-- ---- the version, of the first row

abbrev pub version_in : Option Row → Option Bool
version_in (Some (version o)) = Some o
version_in _ = None

abbrev pub version_of : Data → Option Bool
version_of d = version_in ((row_part (shape true None)).of_data d)

abbrev pub first_version : List Data → Option Bool
first_version [] = None
first_version (d ∷ ds) = version_of d
