-- What reading a text gives.
use Rattle.std.specs.Prelude.{◌≡◌, ℕ, Bool, true, List, map, Some, None, Result, Ok, Err}
use Rattle.serde_json.specs.Data.{Data}
use Rattle.serde_json.specs.Read.{read}
use Rattle.serde_json.specs.View.{view}
use Rattle.serde_json.specs.declared.value.Value.{Value}
use Rattle.vlt_core.specs.View.{func_of, program_of}
use Rattle.cert_format.specs.Text.{marked, is_plain, IsJsonOf}
use Rattle.cert_rows.specs.Parts.{list}
use Rattle.cert_format.specs.Certificate.{main_from, IsCertificateOf}
use Rattle.cert_format.specs.Pieces.{first_version}
use Rattle.cert_format.specs.Readings.{IsNotJson, IsFormRefusal, Reading, certificate, not_json, not_of_its_form}
use Rattle.cert_read.specs.Declarations.{notes_of_all}
use Rattle.cert_read.specs.declared.declarations.Declarations.{Declarations}
use Rattle.cert_read.specs.declared.read.Certificate.{Certificate}
use Rattle.cert_read.specs.declared.error.ReadError.{ReadError}
use Rattle.cert_read.specs.declared.error.ReadError.TheVariants.{Memory, NotJson, Form}

-- The first row of the text names the version: 2, in which sets may have links and entries be bound,
-- or 1.
pub record IsOfVersion (text : List ℕ) (ordered : Bool) : Type 0 where
  pub rows : List Data
  pub json : IsJsonOf text (list rows)
  pub names : first_version rows ≡ Some ordered

-- The text is the certificate of the program and its notes, in this version, or is none for this
-- cause; out of memory says nothing of it.
abbrev pub IsReadAs : (text : List ℕ) → Result Certificate ReadError → Type 0
IsReadAs text (Ok c) =
    IsCertificateOf text (program_of c.program) (notes_of_all c.notes) ×
    IsOfVersion text c.ordered
IsReadAs text (Err NotJson) = IsNotJson text
IsReadAs text (Err (Form n)) = IsFormRefusal text n
IsReadAs text (Err Memory) = Unit {0}

-- the result is this reading, unless there was no memory
abbrev pub Is : Result Certificate ReadError → Reading → Type 0
Is (Ok c) x = certificate (program_of c.program) (notes_of_all c.notes) ≡ x
Is (Err NotJson) x = not_json ≡ x
Is (Err (Form n)) x = not_of_its_form n ≡ x
Is (Err Memory) x = Unit {0}

-- ---- for private clauses

-- the value of a JSON text, or that it is none
abbrev pub IsParsed : (text : List ℕ) → Result Value ReadError → Type 0
IsParsed text (Ok v) = read text ≡ Some (view v)
IsParsed text (Err NotJson) = read text ≡ None
IsParsed text (Err (Form n)) = ⊥
IsParsed text (Err Memory) = Unit {0}

-- the text is plain, and its value is this one
pub record IsPlainJson (text : List ℕ) (d : Data) : Type 0 where
  pub json : IsJsonOf text d
  pub plain : (body : List ℕ) → text ≡ marked body → is_plain body ≡ true

-- the certificate has what is read of its declarations, in this version
pub record IsCertificateWith (o : Bool) (d : Declarations) (c : Certificate) : Type 0 where
  pub version : c.ordered ≡ o
  pub sets : c.program.sets ≡ d.tables.sets
  pub types : c.program.types ≡ d.tables.types
  pub fns : c.program.fns ≡ d.fns
  pub main : (program_of c.program).main ≡ main_from 0 (map func_of d.fns)
  pub notes : c.notes ≡ d.notes
