-- What a part gives, and what it refuses where it fails.
use Rattle.std.proofs.Common.{◌≡◌, ◌≤◌, ◌<◌, ◌-◌, ◌^◌, refl, ap, ◌∙◌, ℕ, nat_le, nat_lt, ◌&&◌, ◌||◌, Bool, true, false, if◌then◌else◌, List, [], ◌∷◌, length, Option, Some, None, Ok, Err, arith}
use Rattle.std.specs.List.{list_any}
use Rattle.std.proofs.lemmas.Bool.Decides.{nat_tests}
use Rattle.std.proofs.lemmas.List.{length-drop}
use Rattle.vlt_base.specs.declared.places.Span.{Span}
use Rattle.vlt_core.specs.Core.{Ty, int, bool, tracked, owning, guarded, variant, owning_variant, Func, Program}
use Rattle.vlt_core.specs.Kinded.{IsKinded}
use Rattle.vlt_core.specs.Lookups.{cases_of}
use Rattle.vlt_core.specs.View.{program_of}
use Rattle.vlt_core.specs.declared.program.Program.{Program as CodeProgram}
use Rattle.vlt_core_laws.proofs.Unbroken.{some_same, some_not_none}
use Rattle.c_syntax.specs.C as c
use Rattle.c_syntax.specs.Text.{before_mark}
use Rattle.c_syntax.specs.Reading.{IsCProgramOf}
use Rattle.c_reader.specs.Reads as c_reads
use Rattle.c_reader.specs.declared.error.CError.{CError}
use Rattle.c_reader.specs.declared.error.CError.TheVariants as c_error
use Rattle.c_lower_program.specs.Glue.ManyCases.{has_many_cases, gives_many_cases}
use Rattle.c_match.specs.Refusals as match_refusals
use Rattle.c_match.specs.declared.error.MatchError.{MatchError}
use Rattle.c_match.specs.declared.error.MatchError.TheVariants as match_error
use Rattle.cert_format.specs.Notes.{Note}
use Rattle.cert_fit_laws.specs.Annotation.{IsLocalCertificate}
use Rattle.cert_fit_laws.specs.Programs.{CertificatesAreFormed}
use Rattle.cert_read.specs.Certificates as read
use Rattle.cert_read.specs.Declarations.{notes_of_all}
use Rattle.cert_read.specs.declared.read.Certificate.{Certificate}
use Rattle.cert_read.specs.declared.error.ReadError.{ReadError}
use Rattle.cert_read.specs.declared.error.ReadError.TheVariants as read_error
use Rattle.cert_kinds.specs.Outcomes as kinds
use Rattle.cert_kinds.specs.declared.whole.KindedError.{KindedError}
use Rattle.cert_kinds.specs.declared.whole.KindedError.TheVariants as kinded_error
use Rattle.cert_check.specs.Unfit.{IsUnfit}
use Rattle.cert_check_laws.specs.Laws.{TextsHaveMoreBytes, CertificatesArentUnfit}
use Rattle.cert_verify.specs.Verified.{certificate_text, IsCertified}
use Rattle.cert_verify.specs.Refusals.{not_json, not_of_its_form, no_certificate_there}
use Rattle.cert_verify.specs.Outcomes.{IsRefusedAs}
use Rattle.cert_verify.specs.Parts.{of_c, of_read, of_kinded, of_match, AreTested}
use Rattle.cert_verify.specs.declared.error.VerifyError.{VerifyError}
use Rattle.cert_verify.specs.declared.error.VerifyError.TheVariants as error

-- ---- the C text

pub unread_as : (text : List ℕ) (e : CError) → c_reads.IsReadAs text (Err e) → IsRefusedAs text (of_c e)
unread_as text c_error.Memory is = tt
unread_as text (c_error.Unexpected at) is = is
unread_as text c_error.EndOfText is = is
unread_as text (c_error.Kind rule at) is = is
unread_as text (c_error.Limit n) is = is

marked_by : (b : Bool) (m n : ℕ) (cert : Span) → nat_lt m n ≡ b →
    Some cert ≡ (let o : Option Span = if b then Some (record { from = m; to = n }) else None in o) → cert.from ≤ n
marked_by true m n cert lt e =
    let from : cert.from ≡ m = ap (λ s. s.from) (some_same cert (record { from = m; to = n }) e) in
    grind (arith, nat_tests, lt, from)
marked_by false m n cert lt e = absurd (some_not_none cert e)

-- the mark is in the text
pub marked_within : (text : List ℕ) (x : c.Program) (cert : Span) → IsCProgramOf text x (Some cert) → cert.from ≤ length text
marked_within text x cert is =
    marked_by (nat_lt (length (before_mark text)) (length text)) (length (before_mark text)) (length text) cert refl is.span

-- ---- the certificate

module _ (text : List ℕ) (x : c.Program) (cert : Span) (reads : IsCProgramOf text x (Some cert)) where
  pub uncertified_as : (e : ReadError) → read.IsReadAs (certificate_text text cert) (Err e) → IsRefusedAs text (of_read e)
  uncertified_as read_error.Memory is = tt
  uncertified_as read_error.NotJson is = no_certificate_there x cert reads (not_json is)
  uncertified_as (read_error.Form n) is = no_certificate_there x cert reads (not_of_its_form n is)

  pub certified : (y : Certificate) → read.IsReadAs (certificate_text text cert) (Ok y) → IsCertified text x (program_of y.program) (notes_of_all y.notes)
  certified y is = record { cert = cert; reads = reads; certificate = is.0 }

-- ---- programs of certificates

not_many : (n : ℕ) → n ≤ 32 → nat_le 64 n ≡ false
not_many n few = grind (arith, nat_tests, few)

few_given : (p : Program) → ((n : ℕ) → length (cases_of p n) ≤ 32) → (ty : Option Ty) → has_many_cases p ty ≡ false
few_given p few None = refl
few_given p few (Some int) = refl
few_given p few (Some bool) = refl
few_given p few (Some (tracked k t args)) = refl
few_given p few (Some (owning states t args)) = refl
few_given p few (Some (guarded k t args)) = refl
few_given p few (Some (variant t args)) = not_many (length (cases_of p t)) (few t)
few_given p few (Some (owning_variant t args)) = not_many (length (cases_of p t)) (few t)

none_gives : (p : Program) → ((n : ℕ) → length (cases_of p n) ≤ 32) → (fs : List Func) →
    list_any (λ f. f.external && has_many_cases p f.result) fs ≡ false
none_gives p few [] = refl
none_gives p few (f ∷ fs) =
    ap (λ b. (f.external && b) || list_any (λ f. f.external && has_many_cases p f.result) fs) (few_given p few f.result)
    ∙ neither f.external (none_gives p few fs)
  where
    neither : {b : Bool} (a : Bool) → b ≡ false → ((a && false) || b) ≡ false
    neither true e = e
    neither false e = e

module _ (text : List ℕ) (x : c.Program) (p : Program) (all : List (List Note)) (is : IsCertified text x p all) where
  pub few_types : length p.types ≤ 2 ^ 32
  few_types = let h = is.certificate.fits.few in omega (arith, h)

  pub few_functions : length p.fns ≤ 4294967295
  few_functions = let h = is.certificate.fits.few in omega (arith, h)

  pub few_cases : CertificatesAreFormed → gives_many_cases p ≡ false
  few_cases formed = none_gives p (formed is.certificate.ordered p all is.certificate.fits).few_cases p.fns

  -- ---- the other parts

  pub unkinded_as : (e : KindedError) → kinds.IsAnswered p (Err e) → IsRefusedAs text (of_kinded e)
  unkinded_as (kinded_error.Broken row rule) h =
      record { x = x; p = p; all = all; certified = is; row = h.number; breaks = h.breaks }
  unkinded_as kinded_error.Memory h = tt

  module _ (kinded : IsKinded p) where
    pub not_local_as : (e : VerifyError) → AreTested p all (Err e) → IsRefusedAs text e
    not_local_as (error.Local first) h = record { x = x; p = p; all = all; certified = is; kinded = kinded; refused = h }
    not_local_as error.Memory h = tt
    not_local_as (error.C e) h = absurd h
    not_local_as error.Certificate h = absurd h
    not_local_as (error.Kind rule) h = absurd h
    not_local_as (error.NotLowered n) h = absurd h

    pub not_lowered_as : IsLocalCertificate p all → (e : MatchError) → match_refusals.Refuses p x e → IsRefusedAs text (of_match e)
    not_lowered_as local (match_error.Differs n) h =
        record { x = x; p = p; all = all; certified = is; verified = record { kinded = kinded; local = local }; apart = h.other; first = h.first }
    not_lowered_as local match_error.Memory h = tt

-- the notes of a program of the code can be tested
pub testable : TextsHaveMoreBytes → CertificatesArentUnfit → (text : List ℕ) (x : c.Program) (p : CodeProgram) (all : List (List Note)) → length text < 2 ^ 32 - 1 →
    IsCertified text x (program_of p) all → IsKinded (program_of p) → IsUnfit (program_of p) all → ⊥
testable more arent text x p all short is kinded =
    arent is.certificate.ordered p all is.certificate.fits kinded
    (λ g. (let less = more (certificate_text text is.cert) (program_of p) all is.certificate g in
    let dropped = length-drop is.cert.from text in omega (arith, less, dropped, short)))
