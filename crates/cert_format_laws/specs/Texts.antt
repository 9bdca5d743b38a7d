-- What is written for a program is its certificate.
use Rattle.std.specs.Prelude.{◌≡◌, ℕ, Bool, List, Some}
use Rattle.std.specs.Str.{IsUtf8}
use Rattle.serde_json.specs.Data.{Data}
use Rattle.serde_json.specs.Read.{read}
use Rattle.serde_json.specs.Written.{IsInOrder}
use Rattle.vlt_core.specs.Core.{Program}
use Rattle.cert_rows.specs.Parts.{list}
use Rattle.cert_rows.specs.Laws.{IsExact}
use Rattle.cert_format.specs.Text.{marked}
use Rattle.cert_format.specs.Notes.{Note}
use Rattle.cert_format.specs.Certificate.{program_data, FitsCertificate, IsCertificateOf}

-- what serde_json promises of the text of a value that nests little and whose numbers are whole
pub record IsWrittenText (bytes : List ℕ) (d : Data) : Type 0 where
  pub utf8 : IsUtf8 bytes
  pub order : IsInOrder bytes d
  pub reads_back : read bytes ≡ Some d

-- What serde_json writes of the values of a program that has a certificate is, between the marks,
-- that certificate.
pub record IsWritten (o : Bool) (p : Program) (all : List (List Note)) : Type 0 where
  pub exact : IsExact 6 (list (program_data o p all))
  pub certificate : (bytes : List ℕ) → IsWrittenText bytes (list (program_data o p all)) →
      IsCertificateOf (marked bytes) p all

abbrev pub CertificatesAreWritten : Type 0
CertificatesAreWritten =
    (o : Bool) (p : Program) (all : List (List Note)) → FitsCertificate o p all → IsWritten o p all
