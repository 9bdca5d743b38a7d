-- What reading declarations gives, one after another.
use Rattle.std.specs.Prelude.{◌≡◌, ◌≤◌, ◌<◌, ◌+◌, ℕ, nat_le, Bool, true, false, List, [], ◌∷◌, ◌++◌, map, drop, length, Option, Some, None}
use Rattle.serde_json.specs.Data.{Data}
use Rattle.serde_json.specs.View.{view}
use Rattle.serde_json.specs.declared.value.Value.{Value}
use Rattle.vlt_core.specs.Core as core
use Rattle.vlt_core.specs.View.{func_of, program_of}
use Rattle.vlt_core.specs.declared.program.SetDecl.{SetDecl}
use Rattle.vlt_core.specs.declared.program.TypeDecl.{TypeDecl}
use Rattle.cert_rows.specs.Rows.{FnRow, Row, row_part}
use Rattle.cert_format.specs.Drafts.{Drafts}
use Rattle.cert_format.specs.Notes.{Note}
use Rattle.cert_format.specs.Bodies.{core_list, list_notes}
use Rattle.cert_format.specs.Endings.{or_else}
use Rattle.cert_format.specs.Certificate.{shape, most_declarations}
use Rattle.cert_format.specs.Pieces as pieces
use Rattle.cert_format.specs.Pieces.{Piece, piece_rows, phase_of, is_whole_piece, empty_program, with_piece, has_known_bounds, piece_data, pieces_data, IsPiece, is_begun, ArePieces, wrong_piece, first_fault}
use Rattle.cert_format_laws.specs.Pieces.{fn_in, notes_in, sets_of, types_of, fns_of, all_of}
use Rattle.cert_read_bodies.specs.Notes.{note_of}
use Rattle.cert_read_bodies.specs.declared.notes.MapsNote.{MapsNote}
use Rattle.cert_read.specs.Cases.{decls_at, first_at}
use Rattle.cert_read.specs.declared.declarations.Declarations.{Declarations}
use Rattle.cert_read.specs.declared.declarations.Phase.{Phase}
use Rattle.cert_read.specs.declared.declarations.Phase.TheVariants.{Sets, Types, Functions}
use Rattle.cert_read.specs.declared.declarations.Next.{Next}
use Rattle.cert_read.specs.declared.declarations.Next.TheVariants.{Nothing, Whole, Part}

abbrev pub phase_number : Phase → ℕ
phase_number Sets = 0
phase_number Types = 1
phase_number Functions = 2

-- the notes of each function
abbrev pub notes_of_all : List (List MapsNote) → List (List Note)
notes_of_all = map (map note_of)

-- the values from a row on
abbrev pub values_at : List Value → (at : ℕ) → List Data
values_at rows at = map view (drop at rows)

-- this row of a declaration comes next
abbrev pub Stands : (ordered : Bool) → List Value → (at : ℕ) → Row → Type 0
Stands o rows at r = (at < length rows) × (first_at (decls_at o rows at) ≡ Some r)

-- no declaration comes next that may stand there
abbrev pub BeginsNone : (ordered : Bool) → core.Program → (phase : ℕ) → List Data → Type 0
BeginsNone o t phase [] = Unit {0}
BeginsNone o t phase (d ∷ ds) = is_begun t phase ((row_part (shape o None)).of_data d) ≡ false

-- The piece is what the next rows say as far as they go, and the rows are read up to its end.
pub record IsRead (o : Bool) (rows : List Value) (old new : Declarations) (x : Piece) : Type 0 where
  pub here : values_at rows old.at
      ≡ piece_data o (program_of old.tables) x ++ values_at rows new.at
  pub goes_on : new.at ≡ old.at + length (piece_rows x)
  pub within : new.at ≤ length rows
  pub is : IsPiece o (program_of old.tables) (phase_number old.phase) x (values_at rows new.at)
  pub phase : phase_number new.phase ≡ phase_of x
  pub fault : new.wrong ≡ or_else old.wrong (wrong_piece old.at x)

-- A whole piece comes to what is there.
pub record Adds (old new : Declarations) (x : Piece) : Type 0 where
  pub tables : program_of new.tables ≡ with_piece (program_of old.tables) x
  pub fns : map func_of new.fns ≡ map func_of old.fns ++ fn_in x
  pub notes : notes_of_all new.notes ≡ notes_of_all old.notes ++ notes_in x

abbrev pub Goes : (ordered : Bool) → List Value → (old new : Declarations) → Next → Type 0
Goes o rows old new Nothing =
    (new ≡ old) ×
    BeginsNone o (program_of old.tables) (phase_number old.phase) (values_at rows old.at)
Goes o rows old new Whole =
    (x : Piece) × IsRead o rows old new x × Adds old new x × (is_whole_piece x ≡ true)
Goes o rows old new Part =
    (x : Piece) × IsRead o rows old new x × (is_whole_piece x ≡ false)

-- ---- declarations of one row

abbrev pub with_set : Declarations → SetDecl → Declarations
with_set d set = record d {
  tables = record d.tables { sets = d.tables.sets ++ set ∷ [] };
  at = d.at + 1;
}

abbrev pub GoesBySet : (old new : Declarations) → SetDecl → Next → Type 0
GoesBySet old new set Nothing = (new ≡ old) × (nat_le (phase_number old.phase) 0 ≡ false)
GoesBySet old new set Whole =
    (new ≡ with_set old set) × (nat_le (phase_number old.phase) 0 ≡ true)
GoesBySet old new set Part = ⊥

abbrev pub with_type : Declarations → TypeDecl → Declarations
with_type d t = record d {
  tables = record d.tables { types = d.tables.types ++ t ∷ [] };
  phase = Types;
  at = d.at + 1;
}

abbrev pub GoesByType : (old new : Declarations) → TypeDecl → Next → Type 0
GoesByType old new t Nothing = (new ≡ old) × (nat_le (phase_number old.phase) 1 ≡ false)
GoesByType old new t Whole =
    (new ≡ with_type old t) × (nat_le (phase_number old.phase) 1 ≡ true)
GoesByType old new t Part = ⊥

-- a function and its notes come to what is there, and no set or type
pub record AddsFunction (old new : Declarations) (f : core.Func) (ns : List Note) : Type 0 where
  pub tables : new.tables ≡ old.tables
  pub fns : map func_of new.fns ≡ map func_of old.fns ++ f ∷ []
  pub notes : notes_of_all new.notes ≡ notes_of_all old.notes ++ ns ∷ []

pub record AddsExternal (old new : Declarations) (r : FnRow) : Type 0 where
  pub adds : AddsFunction old new (pieces.func_of true r core.done) []
  pub phase : new.phase ≡ Functions
  pub goes_on : new.at ≡ old.at + 1
  pub fault : new.wrong ≡ old.wrong

abbrev pub GoesByExternal : (old new : Declarations) → FnRow → Next → Type 0
GoesByExternal old new r Nothing =
    (new ≡ old) × (has_known_bounds (program_of old.tables) r ≡ false)
GoesByExternal old new r Whole =
    AddsExternal old new r × (has_known_bounds (program_of old.tables) r ≡ true)
GoesByExternal old new r Part = ⊥

pub record AddsBody (old new : Declarations) (r : FnRow) (ss : Drafts) : Type 0 where
  pub adds : AddsFunction old new (pieces.func_of false r (core_list ss)) (list_notes 0 ss)
  pub phase : new.phase ≡ old.phase
  pub goes_on : new.at ≡ old.at
  pub fault : new.wrong ≡ old.wrong

-- ---- all declarations

-- the sets, types, functions and notes are those of the pieces
pub record AreOf (d : Declarations) (ps : List Piece) : Type 0 where
  pub sets : (program_of d.tables).sets ≡ sets_of ps
  pub types : (program_of d.tables).types ≡ types_of ps
  pub fns : map func_of d.fns ≡ fns_of ps
  pub notes : notes_of_all d.notes ≡ all_of ps

-- The pieces are what the rows from the second one on say, and the fault is the first row that
-- isn't of its form.
pub record AreRead (o : Bool) (rows : List Value) (d : Declarations)
    (fault : Option ℕ) : Type 0 where
  pub read : List Piece
  pub more : List Data
  pub made : values_at rows 1 ≡ pieces_data o empty_program read ++ more
  pub are : ArePieces o empty_program 0 most_declarations read more
  pub first : first_fault read more ≡ fault
  pub right : fault ≡ None → AreOf d read
