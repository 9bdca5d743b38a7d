-- What an answer of `verify` means.
use Rattle.std.specs.Prelude.{◌≡◌, ℕ, List, Option, Some, None, IfSome, Result, Ok, Err}
use Rattle.vlt_core.specs.Core.{Program}
use Rattle.cert_format.specs.Notes.{Note}
use Rattle.cert_check.specs.Whole.{refusal_in}
use Rattle.cert_verify.specs.Verified.{IsVerifiedFile, body_count}
use Rattle.cert_verify.specs.Refusals.{Refusal, unread, no_certificate, kind, local, not_lowered, IsRefusal}
use Rattle.cert_verify.specs.declared.error.VerifyError.{VerifyError}
use Rattle.cert_verify.specs.declared.error.VerifyError.TheVariants as error

-- the refusal that an error says; out of memory says none
abbrev pub refusal_of : VerifyError → Option Refusal
refusal_of (error.C e) = Some (unread e)
refusal_of error.Certificate = Some no_certificate
refusal_of (error.Kind rule) = Some (kind rule)
refusal_of (error.Local first) = Some (local (refusal_in first))
refusal_of (error.NotLowered statement) = Some (not_lowered statement)
refusal_of error.Memory = None

-- The file verifies, and its certificate's program has so many functions with a body.
pub record IsVerifiedWith (text : List ℕ) (count : ℕ) : Type 0 where
  pub p : Program
  pub all : List (List Note)
  pub file : IsVerifiedFile text p all
  pub counted : count ≡ body_count p

-- the text is refused as the error says
abbrev pub IsRefusedAs : List ℕ → VerifyError → Type 0
IsRefusedAs text e = IfSome (refusal_of e) (IsRefusal text)

abbrev pub IsAnswer : List ℕ → Result ℕ VerifyError → Type 0
IsAnswer text (Ok count) = IsVerifiedWith text count
IsAnswer text (Err e) = IsRefusedAs text e

-- ---- and no other one

-- the answer is this refusal, unless there was no memory
abbrev pub Refuses : Result ℕ VerifyError → Refusal → Type 0
Refuses (Ok count) r = ⊥
Refuses (Err e) r = IfSome (refusal_of e) (λ x. x ≡ r)

-- the answer counts the functions of this program, unless there was no memory
abbrev pub Counts : Result ℕ VerifyError → Program → Type 0
Counts (Ok count) p = count ≡ body_count p
Counts (Err e) p = refusal_of e ≡ None
