-- The compact text of a certificate's value is read as that value.
use Rattle.std.specs.Prelude.{Bool, List}
use Rattle.serde_json.specs.Data.{Data}
use Rattle.serde_json.specs.Written.{compact_text}
use Rattle.vlt_core.specs.Core.{Program}
use Rattle.cert_rows.specs.Parts.{list}
use Rattle.cert_format.specs.Places.{unplaced_program}
use Rattle.cert_format.specs.Text.{marked}
use Rattle.cert_format.specs.Notes.{Note}
use Rattle.cert_format.specs.Certificate.{program_data, FitsCertificate, IsCertificateOf}
use Rattle.cert_format_laws.specs.Texts.{IsWrittenText}
use Rattle.cert_values.specs.Declarations.Names.{HasTextNames}

-- the array of the rows of a program with its maps
abbrev pub certificate_data : (ordered : Bool) → Program → List (List Note) → Data
certificate_data o p all = list (program_data o p all)

-- Of a program that has a certificate and whose names are UTF-8, the text without blanks is UTF-8,
-- and is read as the value that it was written for.
abbrev pub CompactTextsAreReadBack : Type 0
CompactTextsAreReadBack =
    (o : Bool) (p : Program) (all : List (List Note)) → FitsCertificate o p all → HasTextNames p →
    IsWrittenText (compact_text (certificate_data o p all)) (certificate_data o p all)

-- So between the marks it is that certificate.
abbrev pub CompactTextsAreCertificates : Type 0
CompactTextsAreCertificates =
    (o : Bool) (p : Program) (all : List (List Note)) → FitsCertificate o p all → HasTextNames p →
    IsCertificateOf (marked (compact_text (certificate_data o p all))) p all

-- names are not places
abbrev pub NamesStayWithoutPlaces : Type 0
NamesStayWithoutPlaces = (p : Program) → HasTextNames p → HasTextNames (unplaced_program p)
