-- What a text reads as: a certificate, no JSON text, or one that isn't of its form, by the first
-- row that isn't.
use Rattle.std.specs.Prelude.{◌≡◌, ℕ, ◌+◌, Bool, true, false, List, ◌∷◌, ◌++◌, Some, None}
use Rattle.serde_json.specs.Data.{Data}
use Rattle.serde_json.specs.Find.{as_array}
use Rattle.vlt_core.specs.Core as core
use Rattle.vlt_core.specs.Core.{Program}
use Rattle.cert_rows.specs.Parts.{list}
use Rattle.cert_format.specs.Text.{marked, is_plain, IsJsonOf}
use Rattle.cert_format.specs.Notes.{Note}
use Rattle.cert_format.specs.Certificate.{most_declarations, IsCertificateOf}
use Rattle.cert_format.specs.Pieces.{Piece, empty_program, pieces_data, ArePieces, first_fault, version_of, first_version}

-- Between the marks there is no JSON text, or there are no marks.
pub record IsNotJson (text : List ℕ) : Type 0 where
  pub none : (d : Data) → IsJsonOf text d → ⊥

-- A text that isn't plain, isn't an array, or whose first row names no version fails at row 0.
pub data IsFormRefusal (text : List ℕ) : ℕ → Type 0 where
  not_plain : (d : Data) (body : List ℕ) → IsJsonOf text d → text ≡ marked body →
      is_plain body ≡ false → IsFormRefusal text 0
  not_array : (d : Data) → IsJsonOf text d → as_array d ≡ None → IsFormRefusal text 0
  no_version : (ds : List Data) → IsJsonOf text (list ds) → first_version ds ≡ None →
      IsFormRefusal text 0
  at_row : (o : Bool) (d : Data) (ps : List Piece) (more : List Data) (n : ℕ) →
      IsJsonOf text (list (d ∷ (pieces_data o empty_program ps ++ more))) →
      ((body : List ℕ) → text ≡ marked body → is_plain body ≡ true) → version_of d ≡ Some o →
      ArePieces o empty_program 0 most_declarations ps more → first_fault ps more ≡ Some n →
      IsFormRefusal text n

-- ---- one of the three

pub data Reading : Type 0 where
  certificate : Program → List (List Note) → Reading
  not_json : Reading
  not_of_its_form : (row : ℕ) → Reading

abbrev pub IsReading : List ℕ → Reading → Type 0
IsReading text (certificate p all) = IsCertificateOf text p all
IsReading text not_json = IsNotJson text
IsReading text (not_of_its_form n) = IsFormRefusal text n
