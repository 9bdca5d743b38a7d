-- A text verifies in one way, or is refused in one way.
use Rattle.std.proofs.Common.{◌≡◌, refl, sym, ap, ◌∙◌, subst, ℕ, List, Option, Some, None, IfSome, Result, Ok, Err}
use Rattle.vlt_base.specs.declared.places.Span.{Span}
use Rattle.vlt_core.specs.Core.{Program}
use Rattle.vlt_core.specs.Kinded.{breaks, IsKinded}
use Rattle.vlt_core_laws.proofs.Unbroken.{some_same, some_not_none}
use Rattle.c_syntax.specs.C as c
use Rattle.c_syntax.specs.Reading.{IsCProgramOf}
use Rattle.c_reader.specs.declared.error.CError.{CError}
use Rattle.c_reader.specs.Reads.{IsUnread}
use Rattle.c_reader_laws.specs.Laws.{IsReadInOneWay}
use Rattle.c_lower.specs.Lowering.{lowered}
use Rattle.cert_format.specs.Notes.{Note}
use Rattle.cert_format.specs.Certificate.{IsCertificateOf}
use Rattle.cert_format.specs.Readings.{Reading, certificate, not_json as no_json, not_of_its_form as wrong_row}
use Rattle.cert_format_laws.specs.Readings.{HasOneReading}
use Rattle.cert_fit_laws.specs.Annotation.{IsVerified}
use Rattle.cert_check.specs.Laws.{NoneIsRefused, RefusedInOneWay}
use Rattle.cert_check.specs.Whole.{ProgramRefusal, IsFirstRefusal}
use Rattle.c_match.specs.Apart.{IsApartAt}
use Rattle.c_match.specs.Laws.{ApartAtOne}
use Rattle.cert_verify.specs.Verified.{certificate_text, IsCertified, IsVerifiedFile, body_count}
use Rattle.cert_verify.specs.Refusals.{Refusal, unread, no_certificate, kind, local, not_lowered, IsNoCertificate, not_json, not_of_its_form, IsUncertified, no_mark, no_certificate_there, IsRefusal}
use Rattle.cert_verify.specs.Outcomes.{refusal_of, IsAnswer, Refuses, Counts}
use Rattle.cert_verify.specs.Laws.{VerifiesInOneWay}
use Rattle.cert_verify.specs.declared.error.VerifyError.{VerifyError}

-- what is known of texts, certificates and notes
pub record Laws : Type 0 where
  pub reads : (text : List ℕ) → IsReadInOneWay text
  pub reading : HasOneReading
  pub none : NoneIsRefused
  pub one : RefusedInOneWay
  pub apart : ApartAtOne

-- ---- what is found of a program and its C program, where the text has both

abbrev Finds : c.Program → Program → List (List Note) → Refusal → Type 0
Finds x p all (unread e) = ⊥
Finds x p all no_certificate = ⊥
Finds x p all (kind rule) = (row : ℕ) × (breaks p ≡ Some (row, rule))
Finds x p all (local first) = IsKinded p × IsFirstRefusal p all first
Finds x p all (not_lowered n) = IsVerified p all × (x ≡ lowered p → ⊥) × IsApartAt p x n

record Late (text : List ℕ) (r : Refusal) : Type 0 where
  x : c.Program
  p : Program
  all : List (List Note)
  certified : IsCertified text x p all
  finds : Finds x p all r

late_kind : (text : List ℕ) (rule : ℕ) → IsRefusal text (kind rule) → Late text (kind rule)
late_kind text rule r = record { x = r.x; p = r.p; all = r.all; certified = r.certified; finds = (r.row, r.breaks) }

late_local : (text : List ℕ) (first : ProgramRefusal) → IsRefusal text (local first) → Late text (local first)
late_local text first r = record { x = r.x; p = r.p; all = r.all; certified = r.certified; finds = (r.kinded, r.refused) }

late_lowering : (text : List ℕ) (n : ℕ) → IsRefusal text (not_lowered n) → Late text (not_lowered n)
late_lowering text n r = record { x = r.x; p = r.p; all = r.all; certified = r.certified; finds = (r.verified, r.apart, r.first) }

unbroken : (p : Program) (row rule : ℕ) → breaks p ≡ Some (row, rule) → IsKinded p → ⊥
unbroken p row rule broken kinded = some_not_none (row, rule) (sym broken ∙ kinded)

module _ (laws : Laws) where
  module _ (x : c.Program) (p : Program) (all : List (List Note)) where
    one_found : (r s : Refusal) → Finds x p all r → Finds x p all s → r ≡ s
    one_found (unread e) s a b = absurd a
    one_found no_certificate s a b = absurd a
    one_found (kind m) (unread e) a b = absurd b
    one_found (kind m) no_certificate a b = absurd b
    one_found (kind m) (kind n) a b = ap (λ z. kind z.1) (some_same (a.0, m) (b.0, n) (sym a.1 ∙ b.1))
    one_found (kind m) (local y) a b = absurd (unbroken p a.0 m a.1 b.0)
    one_found (kind m) (not_lowered n) a b = absurd (unbroken p a.0 m a.1 b.0.kinded)
    one_found (local y) (unread e) a b = absurd b
    one_found (local y) no_certificate a b = absurd b
    one_found (local y) (kind n) a b = absurd (unbroken p b.0 n b.1 a.0)
    one_found (local y) (local z) a b = ap local (laws.one p all y z a.1 b.1)
    one_found (local y) (not_lowered n) a b = absurd (laws.none p all y b.0.local a.1)
    one_found (not_lowered m) (unread e) a b = absurd b
    one_found (not_lowered m) no_certificate a b = absurd b
    one_found (not_lowered m) (kind n) a b = absurd (unbroken p b.0 n b.1 a.0.kinded)
    one_found (not_lowered m) (local z) a b = absurd (laws.none p all z a.0.local b.1)
    one_found (not_lowered m) (not_lowered n) a b = ap not_lowered (laws.apart p x m n a.2 b.2)

    none_found : (r : Refusal) → Finds x p all r → IsVerified p all → x ≡ lowered p → ⊥
    none_found (unread e) a v low = a
    none_found no_certificate a v low = a
    none_found (kind m) a v low = unbroken p a.0 m a.1 v.kinded
    none_found (local y) a v low = laws.none p all y v.local a.1
    none_found (not_lowered m) a v low = a.1 low

  -- ---- what a text has

  module _ (text : List ℕ) where
    one_cert : (x y : c.Program) (s t : Span) → IsCProgramOf text x (Some s) → IsCProgramOf text y (Some t) → (x ≡ y) × (s ≡ t)
    one_cert x y s t a b =
        let e = (laws.reads text).one_program x y (Some s) (Some t) a b in
        (e.0, some_same s t e.1)

    one_certified : (x y : c.Program) (p q : Program) (a b : List (List Note)) → IsCertified text x p a → IsCertified text y q b →
        (x ≡ y) × (p ≡ q) × (a ≡ b)
    one_certified x y p q a b s t =
        let e = one_cert x y s.cert t.cert s.reads t.reads in
        let there = subst (λ d. IsCertificateOf (certificate_text text d) q b) (sym e.1) t.certificate in
        let is = laws.reading (certificate_text text s.cert) (certificate p a) (certificate q b) s.certificate there in
        (e.0, ap program_in is, ap notes_in is)
      where
        program_in : Reading → Program
        program_in (certificate q b) = q
        program_in no_json = p
        program_in (wrong_row n) = p

        notes_in : Reading → List (List Note)
        notes_in (certificate q b) = b
        notes_in no_json = a
        notes_in (wrong_row n) = a

    -- a text with a program is none without
    read_not_unread : (x : c.Program) (o : Option Span) (e : CError) → IsCProgramOf text x o → IsUnread text e → ⊥
    read_not_unread x o e a b = (laws.reads text).never_both x o e a b

    uncertified_not_unread : (e : CError) → IsUncertified text → IsUnread text e → ⊥
    uncertified_not_unread e (no_mark x reads) b = read_not_unread x None e reads b
    uncertified_not_unread e (no_certificate_there x cert reads is) b = read_not_unread x (Some cert) e reads b

    no_certificate_is : (t : List ℕ) (p : Program) (all : List (List Note)) → IsCertificateOf t p all → IsNoCertificate t → ⊥
    no_certificate_is t p all is (not_json h) = absurd (named (laws.reading t (certificate p all) no_json is h))
      where
        named : certificate p all ≡ no_json → ⊥
        named e = cc
    no_certificate_is t p all is (not_of_its_form n h) = absurd (named (laws.reading t (certificate p all) (wrong_row n) is h))
      where
        named : certificate p all ≡ wrong_row n → ⊥
        named e = cc

    certified_not_uncertified : (x : c.Program) (p : Program) (all : List (List Note)) → IsCertified text x p all → IsUncertified text → ⊥
    certified_not_uncertified x p all s (no_mark y reads) =
        some_not_none s.cert ((laws.reads text).one_program x y (Some s.cert) None s.reads reads).1
    certified_not_uncertified x p all s (no_certificate_there y cert reads is) =
        let e = one_cert x y s.cert cert s.reads reads in
        no_certificate_is (certificate_text text s.cert) p all s.certificate
        (subst (λ d. IsNoCertificate (certificate_text text d)) (sym e.1) is)

    found_again : (x y : c.Program) (p q : Program) (a b : List (List Note)) → (x ≡ y) × (p ≡ q) × (a ≡ b) → (r : Refusal) →
        Finds y q b r → Finds x p a r
    found_again x y p q a b e r h =
        subst (λ z. Finds z p a r) (sym e.0) (subst (λ z. Finds y z a r) (sym e.1) (subst (λ z. Finds y q z r) (sym e.2) h))

    one_late : (r s : Refusal) → Late text r → Late text s → r ≡ s
    one_late r s a b =
        one_found a.x a.p a.all r s a.finds
        (found_again a.x b.x a.p b.p a.all b.all (one_certified a.x b.x a.p b.p a.all b.all a.certified b.certified) s b.finds)

    -- a later refusal than that of the certificate is another than each earlier one
    late_not_unread : (r : Refusal) (e : CError) → Late text r → IsUnread text e → ⊥
    late_not_unread r e a b = read_not_unread a.x (Some a.certified.cert) e a.certified.reads b

    late_not_uncertified : (r : Refusal) → Late text r → IsUncertified text → ⊥
    late_not_uncertified r a b = certified_not_uncertified a.x a.p a.all a.certified b

    data Place (r : Refusal) : Type 0 where
      first : (e : CError) → r ≡ unread e → IsUnread text e → Place r
      second : r ≡ no_certificate → IsUncertified text → Place r
      late : Late text r → Place r

    place_of : (r : Refusal) → IsRefusal text r → Place r
    place_of (unread e) h = first e refl h
    place_of no_certificate h = second refl h
    place_of (kind rule) h = late (late_kind text rule h)
    place_of (local y) h = late (late_local text y h)
    place_of (not_lowered n) h = late (late_lowering text n h)

    one_place : (r s : Refusal) → Place r → Place s → r ≡ s
    one_place r s (first e is a) (first d same b) = is ∙ ap unread ((laws.reads text).one_reason e d a b) ∙ sym same
    one_place r s (first e is a) (second same b) = absurd (uncertified_not_unread e b a)
    one_place r s (first e is a) (late b) = absurd (late_not_unread s e b a)
    one_place r s (second is a) (first d same b) = absurd (uncertified_not_unread d a b)
    one_place r s (second is a) (second same b) = is ∙ sym same
    one_place r s (second is a) (late b) = absurd (late_not_uncertified s b a)
    one_place r s (late a) (first d same b) = absurd (late_not_unread r d a b)
    one_place r s (late a) (second same b) = absurd (late_not_uncertified r a b)
    one_place r s (late a) (late b) = one_late r s a b

    never_placed : (p : Program) (all : List (List Note)) (r : Refusal) → IsVerifiedFile text p all → Place r → ⊥
    never_placed p all r v (first e is a) = read_not_unread v.x (Some v.certified.cert) e v.certified.reads a
    never_placed p all r v (second is a) = certified_not_uncertified v.x p all v.certified a
    never_placed p all r v (late a) =
        none_found v.x p all r
        (found_again v.x a.x p a.p all a.all (one_certified v.x a.x p a.p all a.all v.certified a.certified) r a.finds)
        v.verified v.lowered

    pub in_one_way : VerifiesInOneWay text
    in_one_way = record {
      one_program = λ p q a b v w. let e = one_certified v.x w.x p q a b v.certified w.certified in (e.1, e.2);
      one_refusal = λ r s a b. one_place r s (place_of r a) (place_of s b);
      never_both = λ p all r v a. never_placed p all r v (place_of r a);
    }

-- ---- the answer is the only one

module _ (text : List ℕ) (way : VerifiesInOneWay text) where
  pub refuses : (result : Result ℕ VerifyError) → IsAnswer text result → (r : Refusal) → IsRefusal text r → Refuses result r
  refuses (Ok n) a r h = way.never_both a.p a.all r a.file h
  refuses (Err e) a r h = by (refusal_of e) a
    where
      by : (o : Option Refusal) → IfSome o (IsRefusal text) → IfSome o (λ x. x ≡ r)
      by None i = tt
      by (Some x) i = way.one_refusal x r i h

  pub counts : (result : Result ℕ VerifyError) → IsAnswer text result → (p : Program) (all : List (List Note)) → IsVerifiedFile text p all →
      Counts result p
  counts (Ok n) a p all v = a.counted ∙ ap body_count (way.one_program a.p p a.all all a.file v).0
  counts (Err e) a p all v = by (refusal_of e) a
    where
      by : (o : Option Refusal) → IfSome o (IsRefusal text) → o ≡ None
      by None i = refl
      by (Some x) i = absurd (way.never_both p all x v i)
