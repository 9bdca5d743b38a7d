-- What is so of the notes of certificates.
use Rattle.std.specs.Prelude.{◌⊎◌, ◌<◌, ◌^◌, ℕ, Bool, List, length}
use Rattle.vlt_base.specs.Sure.{Surely}
use Rattle.vlt_core.specs.Core.{Program}
use Rattle.vlt_core.specs.Kinded.{IsKinded}
use Rattle.vlt_core.specs.Least.{first_number}
use Rattle.vlt_core.specs.View.{program_of}
use Rattle.vlt_core.specs.declared.program.Program.{Program as CodeProgram}
use Rattle.cert_format.specs.Notes.{Note}
use Rattle.cert_format.specs.Certificate.{FitsCertificate, IsCertificateOf}
use Rattle.cert_fit_laws.specs.Annotation.{IsLocalCertificate}
use Rattle.cert_check.specs.Unfit.{IsUnfit}
use Rattle.cert_check.specs.Whole.{ProgramRefusal, IsFirstRefusal}

-- ---- how many statements there are

-- fewer than 2^62 come before each function, and in all
abbrev pub HasFewStatements : Program → Type 0
HasFewStatements p = (g : ℕ) → first_number p g < 2 ^ 62

-- A program has fewer statements than the text of its certificate, in either version, has bytes.
abbrev pub TextsHaveMoreBytes : Type 0
TextsHaveMoreBytes =
    (text : List ℕ) (p : Program) (all : List (List Note)) → IsCertificateOf text p all →
    (g : ℕ) → first_number p g < length text

-- ---- notes, where the program breaks no rule on names and types

-- They aren't unfit to be tested.
abbrev pub CertificatesArentUnfit : Type 0
CertificatesArentUnfit =
    (ordered : Bool) (p : CodeProgram) (all : List (List Note)) →
    FitsCertificate ordered (program_of p) all → IsKinded (program_of p) →
    HasFewStatements (program_of p) → IsUnfit (program_of p) all → ⊥

-- The notes hold, or a test of them refuses first.
abbrev pub HasAnswer : Program → List (List Note) → Type 0
HasAnswer p all = IsLocalCertificate p all ⊎ ((x : ProgramRefusal) × IsFirstRefusal p all x)

abbrev pub CertificatesHaveAnAnswer : Type 0
CertificatesHaveAnAnswer =
    (ordered : Bool) (p : CodeProgram) (all : List (List Note)) →
    FitsCertificate ordered (program_of p) all → IsKinded (program_of p) →
    Surely (HasAnswer (program_of p) all)
