-- A text verifies in one way, or is refused in one way.
use Rattle.std.specs.Prelude.{◌≡◌, ◌⊎◌, ℕ, Bool, List}
use Rattle.vlt_base.specs.Sure.{Surely}
use Rattle.vlt_core.specs.Core.{Program}
use Rattle.vlt_core.specs.Kinded.{IsKinded}
use Rattle.cert_format.specs.Notes.{Note}
use Rattle.cert_format.specs.Certificate.{FitsCertificate}
use Rattle.cert_fit_laws.specs.Annotation.{IsLocalCertificate}
use Rattle.cert_check.specs.Whole.{ProgramRefusal, IsFirstRefusal}
use Rattle.cert_verify.specs.Verified.{IsVerifiedFile}
use Rattle.cert_verify.specs.Refusals.{Refusal, IsRefusal}

-- The text verifies with one program and its notes, or is refused for one reason, and never both.
pub record VerifiesInOneWay (text : List ℕ) : Type 0 where
  pub one_program : (p q : Program) (a b : List (List Note)) → IsVerifiedFile text p a →
      IsVerifiedFile text q b → (p ≡ q) × (a ≡ b)
  pub one_refusal : (r s : Refusal) → IsRefusal text r → IsRefusal text s → r ≡ s
  pub never_both : (p : Program) (all : List (List Note)) (r : Refusal) →
      IsVerifiedFile text p all → IsRefusal text r → ⊥

abbrev pub Verifies : List ℕ → Type 0
Verifies text = (p : Program) × (all : List (List Note)) × IsVerifiedFile text p all

abbrev pub IsRefused : List ℕ → Type 0
IsRefused text = (r : Refusal) × IsRefusal text r

-- It can't be that the text neither verifies nor is refused.
abbrev pub VerifiesInSomeWay : List ℕ → Type 0
VerifiesInSomeWay text = Surely (Verifies text ⊎ IsRefused text)

-- It can't be that the notes of a certificate, whose program breaks no rule on names and types, neither
-- hold nor are refused. A premise here, which `cert_verify_laws` proves.
abbrev pub NotesHaveAnAnswer : Type 0
NotesHaveAnAnswer =
    (ordered : Bool) (p : Program) (all : List (List Note)) → FitsCertificate ordered p all →
    IsKinded p → Surely (IsLocalCertificate p all ⊎
    ((first : ProgramRefusal) × IsFirstRefusal p all first))

abbrev pub TextsVerifyInSomeWay : Type 0
TextsVerifyInSomeWay = NotesHaveAnAnswer → (text : List ℕ) → VerifiesInSomeWay text
