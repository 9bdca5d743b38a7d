-- Why a C file doesn't verify: the first part of its verification that fails. The parts are the C
-- text, the certificate, the rules on names and types, the notes, and the lowering, in this order.
use Rattle.std.specs.Prelude.{◌≡◌, ℕ, List, Some, None}
use Rattle.vlt_base.specs.declared.places.Span.{Span}
use Rattle.vlt_core.specs.Core.{Program}
use Rattle.vlt_core.specs.Kinded as kinds
use Rattle.vlt_core.specs.Kinded.{IsKinded}
use Rattle.c_syntax.specs.C as c
use Rattle.c_syntax.specs.Reading.{IsCProgramOf}
use Rattle.c_reader.specs.declared.error.CError.{CError}
use Rattle.c_reader.specs.Reads.{IsUnread}
use Rattle.c_lower.specs.Lowering.{lowered}
use Rattle.c_match.specs.Apart.{IsApartAt}
use Rattle.cert_format.specs.Notes.{Note}
use Rattle.cert_format.specs.Readings.{IsNotJson, IsFormRefusal}
use Rattle.cert_fit_laws.specs.Annotation.{IsVerified}
use Rattle.cert_check.specs.Whole.{ProgramRefusal, IsFirstRefusal}
use Rattle.cert_verify.specs.Verified.{certificate_text, IsCertified}

pub data Refusal : Type 0 where
  unread : CError → Refusal
  no_certificate : Refusal
  kind : (rule : ℕ) → Refusal
  local : ProgramRefusal → Refusal
  not_lowered : (statement : ℕ) → Refusal

-- The text is no certificate.
pub data IsNoCertificate (text : List ℕ) : Type 0 where
  not_json : IsNotJson text → IsNoCertificate text
  not_of_its_form : (row : ℕ) → IsFormRefusal text row → IsNoCertificate text

-- The text stands for a C program. It has no mark of a certificate, or what it has from there on is
-- none.
pub data IsUncertified (text : List ℕ) : Type 0 where
  no_mark : (x : c.Program) → IsCProgramOf text x None → IsUncertified text
  no_certificate_there : (x : c.Program) (cert : Span) → IsCProgramOf text x (Some cert) →
      IsNoCertificate (certificate_text text cert) → IsUncertified text

-- The certificate's program breaks this rule on names and types; it is the least that the first
-- broken row breaks.
pub record IsUnkinded (text : List ℕ) (rule : ℕ) : Type 0 where
  pub x : c.Program
  pub p : Program
  pub all : List (List Note)
  pub certified : IsCertified text x p all
  pub row : ℕ
  pub breaks : kinds.breaks p ≡ Some (row, rule)

-- The certificate's program breaks no rule on names and types, and this is the first test that its
-- notes fail.
pub record IsNotLocal (text : List ℕ) (first : ProgramRefusal) : Type 0 where
  pub x : c.Program
  pub p : Program
  pub all : List (List Note)
  pub certified : IsCertified text x p all
  pub kinded : IsKinded p
  pub refused : IsFirstRefusal p all first

-- The notes hold too, and the C program isn't the lowering of the certificate's: this is the first
-- statement whose lowering isn't there, or the number of all where they differ outside them.
pub record IsNotLowered (text : List ℕ) (statement : ℕ) : Type 0 where
  pub x : c.Program
  pub p : Program
  pub all : List (List Note)
  pub certified : IsCertified text x p all
  pub verified : IsVerified p all
  pub apart : x ≡ lowered p → ⊥
  pub first : IsApartAt p x statement

-- this is the first part that fails, and why
abbrev pub IsRefusal : List ℕ → Refusal → Type 0
IsRefusal text (unread e) = IsUnread text e
IsRefusal text no_certificate = IsUncertified text
IsRefusal text (kind rule) = IsUnkinded text rule
IsRefusal text (local first) = IsNotLocal text first
IsRefusal text (not_lowered n) = IsNotLowered text n
