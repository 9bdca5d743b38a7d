-- What is emitted of a text's program verifies.
use Rattle.std.specs.Prelude.{◌≡◌, ◌≤◌, List, ◌++◌, length}
use Rattle.vlt_base.specs.Limits.{limit_of}
use Rattle.vlt_base.specs.declared.limits.TheConstants.{C_BYTES}
use Rattle.vlt_core.specs.Core.{Program}
use Rattle.vlt_core.specs.Derives.{IsAccepted}
use Rattle.c_syntax.specs.Canonical.{canonical_text}
use Rattle.c_lower.specs.Lowering.{lowered}
use Rattle.cert_format.specs.Places.{unplaced_program}
use Rattle.cert_format.specs.Notes.{Note}
use Rattle.cert_least_laws.specs.LeastNotes.{IsLeastCertificate}
use Rattle.cert_text_laws.specs.Texts.{IsProgramOfTexts}
use Rattle.cert_least_texts.specs.Texts.{IsCertified}
use Rattle.cert_emit.specs.Certificates.{certificate_of}
use Rattle.cert_verify.specs.Verified.{IsVerifiedFile, body_count}

-- The least certificate of each text's program fits the format and verifies.
abbrev pub LeastCertificatesFit : Type 0
LeastCertificatesFit =
    (p : Program) (all : List (List Note)) → IsProgramOfTexts p →
    IsLeastCertificate p all → IsCertified p all

-- The C text of an accepted text's program, which is no longer than a C file may be (limit 2), with
-- its least certificate after it, verifies with the program without its places.
abbrev pub EmittedFilesVerify : Type 0
EmittedFilesVerify =
    (p : Program) (all : List (List Note)) → IsProgramOfTexts p →
    IsAccepted p → IsLeastCertificate p all → length (canonical_text (lowered p)) ≤ limit_of C_BYTES →
    IsVerifiedFile (canonical_text (lowered p) ++ certificate_of p all) (unplaced_program p) all

-- Without its places a program has as many functions with a body.
abbrev pub PlacesKeepCounts : Type 0
PlacesKeepCounts = (p : Program) → body_count (unplaced_program p) ≡ body_count p
