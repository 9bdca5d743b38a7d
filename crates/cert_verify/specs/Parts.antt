-- What the parts of `verify` give. Private contracts alone cite this.
use Rattle.std.specs.Prelude.{ℕ, List, Result, Ok, Err}
use Rattle.vlt_core.specs.View.{program_of}
use Rattle.c_syntax.specs.View as c_view
use Rattle.c_reader.specs.declared.error.CError.{CError}
use Rattle.c_reader.specs.declared.error.CError.TheVariants as c_error
use Rattle.c_match.specs.declared.error.MatchError.{MatchError}
use Rattle.c_match.specs.declared.error.MatchError.TheVariants as match_error
use Rattle.vlt_core.specs.Core.{Program}
use Rattle.cert_format.specs.Notes.{Note}
use Rattle.cert_fit_laws.specs.Annotation.{IsLocalCertificate}
use Rattle.cert_read.specs.Declarations.{notes_of_all}
use Rattle.cert_read.specs.declared.error.ReadError.{ReadError}
use Rattle.cert_read.specs.declared.error.ReadError.TheVariants as read_error
use Rattle.cert_kinds.specs.declared.whole.KindedError.{KindedError}
use Rattle.cert_kinds.specs.declared.whole.KindedError.TheVariants as kinded_error
use Rattle.cert_check.specs.Whole.{refusal_in, IsFirstRefusal}
use Rattle.cert_verify.specs.Verified.{IsCertified}
use Rattle.cert_verify.specs.Outcomes.{IsRefusedAs}
use Rattle.cert_verify.specs.declared.error.VerifyError.{VerifyError}
use Rattle.cert_verify.specs.declared.error.VerifyError.TheVariants as error
use Rattle.cert_verify.specs.declared.file.CertifiedFile.{CertifiedFile}

-- ---- the errors of the parts

abbrev pub of_c : CError → VerifyError
of_c c_error.Memory = error.Memory
of_c e = error.C e

abbrev pub of_read : ReadError → VerifyError
of_read read_error.Memory = error.Memory
of_read e = error.Certificate

abbrev pub of_kinded : KindedError → VerifyError
of_kinded (kinded_error.Broken row rule) = error.Kind rule
of_kinded kinded_error.Memory = error.Memory

abbrev pub of_match : MatchError → VerifyError
of_match (match_error.Differs statement) = error.NotLowered statement
of_match match_error.Memory = error.Memory

-- ---- the C program and the certificate

abbrev pub IsFileOf : List ℕ → CertifiedFile → Type 0
IsFileOf text f =
    IsCertified text (c_view.program_of f.c_program) (program_of f.program) (notes_of_all f.notes)

abbrev pub IsOpened : List ℕ → Result CertifiedFile VerifyError → Type 0
IsOpened text (Ok f) = IsFileOf text f
IsOpened text (Err e) = IsRefusedAs text e

-- ---- the notes

-- the notes hold, or this is the first test that they fail
abbrev pub AreTested : Program → List (List Note) → Result (Unit {0}) VerifyError → Type 0
AreTested p all (Ok u) = IsLocalCertificate p all
AreTested p all (Err (error.Local first)) = IsFirstRefusal p all (refusal_in first)
AreTested p all (Err error.Memory) = Unit {0}
AreTested p all (Err e) = ⊥
