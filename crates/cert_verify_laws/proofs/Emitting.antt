-- A C text with a certificate after it verifies.
use Rattle.std.proofs.Common.{◌≡◌, ℕ, suc, not, Bool, true, false, if◌then◌else◌, List, [], ◌∷◌, ◌++◌, map, length, drop, Some, refl, sym, ap, ◌∙◌, subst}
use Rattle.std.specs.Prelude.{filter}
use Rattle.std.proofs.lemmas.List.{append_assoc}
use Rattle.serde_json.specs.Written.{compact_text}
use Rattle.vlt_core.specs.Core.{Func, Program}
use Rattle.vlt_core.specs.Derives.{IsAccepted}
use Rattle.vlt_elaboration.specs.Programs.{with_kinds}
use Rattle.vlt_fit_laws.specs.Fit.{IsTextTree}
use Rattle.c_syntax.specs.Canonical.{canonical_text}
use Rattle.c_syntax.specs.Reading.{IsCProgramOf}
use Rattle.c_syntax.specs.Text.{mark}
use Rattle.c_reader_laws.specs.PrinterLaws.ReadAgain.{ReadsAs}
use Rattle.c_lower.specs.Lowering.{lowered}
use Rattle.c_lower_accepted.specs.Texts.{IsAcceptedTree}
use Rattle.cert_rows.specs.Parts.{list}
use Rattle.cert_format.specs.Places.{unplaced_func, unplaced_program}
use Rattle.cert_format.specs.Text.{closing}
use Rattle.cert_format.specs.Notes.{Note}
use Rattle.cert_format.specs.Certificate.{program_data, IsCertificateOf}
use Rattle.cert_format_laws.specs.Texts.{IsWrittenText, CertificatesAreWritten}
use Rattle.cert_format_laws.specs.Versions.{is_ordered}
use Rattle.cert_text_laws.specs.Texts.{IsProgramOfTexts}
use Rattle.cert_least_texts.specs.Texts as least
use Rattle.cert_emit.specs.Certificates.{certificate_of}
use Rattle.cert_verify.specs.Verified.{IsVerifiedFile}

-- ---- functions with a body

pub same_count : (fs : List Func) → length (filter (λ (f : Func). not f.external) (map unplaced_func fs)) ≡ length (filter (λ (f : Func). not f.external) fs)
same_count [] = refl
same_count (f ∷ fs) = by (not f.external) (same_count fs)
  where
    by : (b : Bool) → length (filter (λ (f : Func). not f.external) (map unplaced_func fs)) ≡ length (filter (λ (f : Func). not f.external) fs) →
        length (if b then unplaced_func f ∷ filter (λ (f : Func). not f.external) (map unplaced_func fs) else filter (λ (f : Func). not f.external) (map unplaced_func fs)) ≡
        length (if b then f ∷ filter (λ (f : Func). not f.external) fs else filter (λ (f : Func). not f.external) fs)
    by true more = ap suc more
    by false more = more

-- ---- texts

pub text_tree : (p : Program) (is : IsProgramOfTexts p) → IsTextTree is.tree
text_tree p is = record { tree = is.elaborated.tree; ticks = is.elaborated.ticks; numbers = is.numbers }

pub accepted_tree : (p : Program) (is : IsProgramOfTexts p) → IsAccepted p → IsAcceptedTree is.tree p
accepted_tree p is accepted = record {
  text = text_tree p is;
  elaborates = ap (with_kinds is.tree) is.elaborated.told ∙ is.elaborated.gives;
  accepted = accepted;
}

-- ---- certificates

following : (xs ys : List ℕ) → drop (length xs) (xs ++ ys) ≡ ys
following [] ys = refl
following (x ∷ xs) ys = following xs ys

module _ (p : Program) (all : List (List Note)) (fit : least.IsCertified p all) where
  abbrev q : Program
  q = unplaced_program p

  abbrev front : List ℕ
  front = canonical_text (lowered p)

  abbrev file : List ℕ
  file = front ++ certificate_of p all

  read : ReadsAs front (lowered p) → IsCProgramOf file (lowered p) (Some (record { from = length front; to = length file }))
  read again =
      let more = compact_text (list (program_data (is_ordered q) q all)) ++ closing in
      subst (λ l. IsCProgramOf l (lowered p) (Some (record { from = length front; to = length l }))) (append_assoc front mark more) (again.certified more)

  certificate : CertificatesAreWritten → IsWrittenText (compact_text (list (program_data (is_ordered q) q all))) (list (program_data (is_ordered q) q all)) → IsCertificateOf (drop (length front) file) q all
  certificate written text =
      subst (λ t. IsCertificateOf t q all) (sym (following front (certificate_of p all))) ((written (is_ordered q) q all fit.fits).certificate (compact_text (list (program_data (is_ordered q) q all))) text)

pub emitted : CertificatesAreWritten → (p : Program) (all : List (List Note)) → least.IsCertified p all →
    (let q = unplaced_program p in IsWrittenText (compact_text (list (program_data (is_ordered q) q all))) (list (program_data (is_ordered q) q all))) →
    ReadsAs (canonical_text (lowered p)) (lowered p) → IsVerifiedFile (canonical_text (lowered p) ++ certificate_of p all) (unplaced_program p) all
emitted written p all fit text again = record {
  x = lowered p;
  certified = record {
    cert = record { from = length (front p all fit); to = length (file p all fit) };
    reads = read p all fit again;
    certificate = certificate p all fit written text;
  };
  verified = fit.verifies.verified;
  lowered = sym fit.verifies.same_c;
}
