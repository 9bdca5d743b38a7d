-- Which texts of C files verify, and how many functions with a body they have.
use Rattle.std.specs.Prelude.{◌≡◌, ℕ, not, List, length, filter, drop, Some}
use Rattle.vlt_base.specs.declared.places.Span.{Span}
use Rattle.vlt_core.specs.Core.{Program}
use Rattle.c_syntax.specs.C as c
use Rattle.c_syntax.specs.Reading.{IsCProgramOf}
use Rattle.c_lower.specs.Lowering.{lowered}
use Rattle.cert_format.specs.Notes.{Note}
use Rattle.cert_format.specs.Certificate.{IsCertificateOf}
use Rattle.cert_fit_laws.specs.Annotation.{IsVerified}

-- a C file's text from the first mark of its certificate to the end of the file
abbrev pub certificate_text : List ℕ → Span → List ℕ
certificate_text text cert = drop cert.from text

-- The text stands for the C program x, and its certificate is that of the program p and of these
-- notes.
pub record IsCertified (text : List ℕ) (x : c.Program) (p : Program)
    (all : List (List Note)) : Type 0 where
  pub cert : Span
  pub reads : IsCProgramOf text x (Some cert)
  pub certificate : IsCertificateOf (certificate_text text cert) p all

-- The C text of the file is the lowering of the program that its certificate says. That program
-- breaks no rule on names and types, and the notes hold in each of its bodies.
pub record IsVerifiedFile (text : List ℕ) (p : Program) (all : List (List Note)) : Type 0 where
  pub x : c.Program
  pub certified : IsCertified text x p all
  pub verified : IsVerified p all
  pub lowered : x ≡ lowered p

-- how many functions have a body
abbrev pub body_count : Program → ℕ
body_count p = length (filter (λ f. not f.external) p.fns)
