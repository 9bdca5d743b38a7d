-- Programs of certificates and of texts are programs of the code.
use Rattle.std.specs.Prelude.{◌≡◌, Bool, List}
use Rattle.vlt_core.specs.Core.{Program}
use Rattle.vlt_core.specs.View.{program_of}
use Rattle.vlt_core.specs.declared.program.Program.{Program as CodeProgram}
use Rattle.cert_format.specs.Notes.{Note}
use Rattle.cert_format.specs.Certificate.{FitsCertificate}
use Rattle.cert_text_laws.specs.Texts.{IsProgramOfTexts}

-- a program of the code stands for it
pub record IsOfCode (p : Program) : Type 0 where
  pub program : CodeProgram
  pub is : program_of program ≡ p

-- So it is with each program that has a certificate: each set of states in it is one of the code.
abbrev pub CertificatesAreOfCode : Type 0
CertificatesAreOfCode =
    (ordered : Bool) (p : Program) (all : List (List Note)) → FitsCertificate ordered p all →
    IsOfCode p

-- and with the program of each text
abbrev pub TextsAreOfCode : Type 0
TextsAreOfCode = (p : Program) → IsProgramOfTexts p → IsOfCode p
