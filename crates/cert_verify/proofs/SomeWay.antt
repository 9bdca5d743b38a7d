-- It can't be that a text neither verifies nor is refused.
use Rattle.std.proofs.Common.{◌≡◌, ◌⊎◌, inl, inr, ⊎_elim, refl, ℕ, List, Option, Some, None}
use Rattle.vlt_base.specs.Sure.{Surely}
use Rattle.vlt_base.specs.declared.places.Span.{Span}
use Rattle.vlt_base.proofs.Surely.{sure, surely, so, one_way}
use Rattle.vlt_core.specs.Core.{Program}
use Rattle.vlt_core.specs.Kinded.{breaks}
use Rattle.c_syntax.specs.C as c
use Rattle.c_syntax.specs.Reading.{IsCProgramOf}
use Rattle.c_reader_laws.specs.Laws.{IsReadInOneWay}
use Rattle.c_lower.specs.Lowering.{lowered}
use Rattle.cert_format.specs.Notes.{Note}
use Rattle.cert_format.specs.Readings.{Reading, certificate, not_json as no_json, not_of_its_form as wrong_row, IsReading}
use Rattle.cert_format_laws.specs.Readings.{HasSomeReading}
use Rattle.c_match.specs.Laws.{OthersAreApart}
use Rattle.cert_verify.specs.Verified.{certificate_text, IsCertified}
use Rattle.cert_verify.specs.Refusals.{unread, no_certificate, kind, local, not_lowered, not_json, not_of_its_form, no_mark, no_certificate_there}
use Rattle.cert_verify.specs.Laws.{Verifies, IsRefused, VerifiesInSomeWay, NotesHaveAnAnswer}

pub record Laws : Type 0 where
  pub reads : (text : List ℕ) → IsReadInOneWay text
  pub reading : HasSomeReading
  pub answer : NotesHaveAnAnswer
  pub others : OthersAreApart

module _ (laws : Laws) (text : List ℕ) where
  abbrev Way : Type 0
  Way = Verifies text ⊎ IsRefused text

  module _ (x : c.Program) (p : Program) (all : List (List Note)) (is : IsCertified text x p all) where
    judged_program : Surely Way
    judged_program = by (breaks p) refl
      where
        by : (o : Option (ℕ × ℕ)) → breaks p ≡ o → Surely Way
        by (Some r) e =
            sure (inr (kind r.1, record { x = x; p = p; all = all; certified = is; row = r.0; breaks = e }))
        by None kinded = surely (laws.answer is.certificate.ordered p all is.certificate.fits kinded) (λ y. ⊎_elim
            (λ holds. surely (one_way (x ≡ lowered p)) (λ z. ⊎_elim
            (λ low. sure (inl (p, all, record { x = x; certified = is; verified = record { kinded = kinded; local = holds }; lowered = low })))
            (λ apart. so (laws.others p x apart) (λ n. inr (
              not_lowered n.0,
              record {
                x = x;
                p = p;
                all = all;
                certified = is;
                verified = record { kinded = kinded; local = holds };
                apart = apart;
                first = n.1;
              },
            ))) z))
            (λ first. sure (inr (
              local first.0,
              record {
                x = x;
                p = p;
                all = all;
                certified = is;
                kinded = kinded;
                refused = first.1;
              },
            ))) y)

  module _ (x : c.Program) (cert : Span) (reads : IsCProgramOf text x (Some cert)) where
    judged_reading : (r : Reading) → IsReading (certificate_text text cert) r → Surely Way
    judged_reading (certificate p all) is = judged_program x p all (record { cert = cert; reads = reads; certificate = is })
    judged_reading no_json is = sure (inr (no_certificate, no_certificate_there x cert reads (not_json is)))
    judged_reading (wrong_row n) is = sure (inr (no_certificate, no_certificate_there x cert reads (not_of_its_form n is)))

  judged_mark : (x : c.Program) (o : Option Span) → IsCProgramOf text x o → Surely Way
  judged_mark x None reads = sure (inr (no_certificate, no_mark x reads))
  judged_mark x (Some cert) reads =
      let r = laws.reading (certificate_text text cert) in
      judged_reading x cert reads r.0 r.1

  pub in_some_way : VerifiesInSomeWay text
  in_some_way = ⊎_elim (λ t. judged_mark t.0 t.1 t.2) (λ e. sure (inr (unread e.0, e.1))) (laws.reads text).either
