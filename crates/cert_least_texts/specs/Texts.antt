-- An accepted program of a text surely has a least certificate, which fits, verifies and is read back.
use Rattle.std.specs.Prelude.{◌≡◌, ℕ, List}
use Rattle.vlt_base.specs.Sure.{Surely}
use Rattle.vlt_syntax.specs.Tree.{Tree}
use Rattle.vlt_core.specs.Core.{Program}
use Rattle.vlt_core.specs.Derives.{IsAccepted}
use Rattle.vlt_core.specs.View.{program_of}
use Rattle.vlt_core.specs.declared.notes.Annotation.{Annotation}
use Rattle.vlt_core.specs.declared.program.Program.{Program as CodeProgram}
use Rattle.vlt_kinds_types.specs.Kinds.{Kinds}
use Rattle.vlt_resolve_laws.specs.Elaborated.{IsElaborated}
use Rattle.c_lower.specs.Lowering.{lowered}
use Rattle.cert_rows.specs.Parts.{list}
use Rattle.cert_format.specs.Places.{unplaced_program}
use Rattle.cert_format.specs.Text.{marked}
use Rattle.cert_format.specs.Notes.{Note}
use Rattle.cert_format.specs.Certificate.{program_data, FitsCertificate, IsCertificateOf}
use Rattle.cert_format_laws.specs.Texts.{IsWrittenText}
use Rattle.cert_format_laws.specs.Versions.{is_ordered}
use Rattle.cert_write.specs.Notes.{notes_in}
use Rattle.cert_fit_laws.specs.Annotation.{IsVerified}
use Rattle.cert_least_laws.specs.LeastNotes.{IsLeastCertificate}
use Rattle.cert_text_laws.specs.Texts.{IsProgramOfTexts}
use Rattle.cert_least_texts.specs.Annotated.{AreAnnotatedBy}

-- It can't be that there is none.
abbrev pub AcceptedTextsHaveOne : Type 0
AcceptedTextsHaveOne =
    (p : Program) → IsProgramOfTexts p → IsAccepted p →
    Surely ((all : List (List Note)) × IsLeastCertificate p all)

-- Without its places the program breaks no rule on names and types, and the notes hold in its bodies.
-- It has the same C program as with its places.
pub record Verifies (p : Program) (all : List (List Note)) : Type 0 where
  pub verified : IsVerified (unplaced_program p) all
  pub same_c : lowered (unplaced_program p) ≡ lowered p

-- The least certificate of any elaborated program.
abbrev pub ElaboratedProgramsVerify : Type 0
ElaboratedProgramsVerify =
    (t : Tree) (kinds : Kinds) (p : Program) (all : List (List Note)) →
    IsElaborated t kinds p → IsLeastCertificate p all → Verifies p all

-- It verifies, and without its places the program has a certificate with these notes, in the version
-- that is written: 1 without links and bound entries, else 2.
pub record IsCertified (p : Program) (all : List (List Note)) : Type 0 where
  pub fits : FitsCertificate (is_ordered (unplaced_program p)) (unplaced_program p) all
  pub verifies : Verifies p all

-- The least certificate of the program that the code makes of texts.
abbrev pub LeastCertificatesVerify : Type 0
LeastCertificatesVerify =
    (p : CodeProgram) (all : List (List Note)) →
    IsProgramOfTexts (program_of p) → IsLeastCertificate (program_of p) all →
    IsCertified (program_of p) all

-- ---- what is read of it

-- the text is the certificate of the program without its places, and of these notes, and of no
-- other ones
pub record IsReadBack (p : Program) (all : List (List Note)) (text : List ℕ) : Type 0 where
  pub certificate : IsCertificateOf text (unplaced_program p) all
  pub only : (q : Program) (notes : List (List Note)) → IsCertificateOf text q notes →
      (q ≡ unplaced_program p) × (notes ≡ all)

abbrev pub LeastCertificatesAreReadBack : Type 0
LeastCertificatesAreReadBack =
    (p : CodeProgram) (all : List (List Note)) (body : List ℕ) →
    IsProgramOfTexts (program_of p) → IsLeastCertificate (program_of p) all →
    (let q = unplaced_program (program_of p) in
    IsWrittenText body (list (program_data (is_ordered q) q all))) →
    IsReadBack (program_of p) all (marked body)

-- ---- annotations of the code

-- The notes that are written of them are the least certificate of the program of texts.
abbrev pub AnnotationsAreLeast : Type 0
AnnotationsAreLeast =
    (p : CodeProgram) (all : List (List Annotation)) →
    IsProgramOfTexts (program_of p) → AreAnnotatedBy p p.fns all →
    IsLeastCertificate (program_of p) (notes_in (program_of p).fns all)
