-- The certificate that is written of an accepted program.
use Rattle.std.specs.Prelude.{◌≡◌, ℕ, List}
use Rattle.vlt_core.specs.Core.{Program}
use Rattle.cert_format.specs.Places.{unplaced_program}
use Rattle.cert_format.specs.Notes.{Note}
use Rattle.cert_format.specs.Certificate.{program_data}
use Rattle.cert_format_laws.specs.Versions.{is_ordered}
use Rattle.cert_write.specs.Texts.{text_of_rows}
use Rattle.cert_least_laws.specs.LeastNotes.{IsLeastCertificate}

-- The text of the rows of the program, without its places, and of these notes of its functions, in
-- the version that it needs.
abbrev pub certificate_of : Program → List (List Note) → List ℕ
certificate_of p notes =
    let q = unplaced_program p in text_of_rows (program_data (is_ordered q) q notes)

-- The notes are those of the least annotation of each body.
pub record IsLeastText (p : Program) (text : List ℕ) : Type 0 where
  pub notes : List (List Note)
  pub least : IsLeastCertificate p notes
  pub is : text ≡ certificate_of p notes
