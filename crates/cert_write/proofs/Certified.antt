-- The text of a program's rows is its certificate, where it has one.
use Rattle.std.proofs.Common.{◌≡◌, ◌≤◌, ℕ, Bool, true, false, if◌then◌else◌, List, [], ◌∷◌, map, None, Result, Ok, Err, IfOk, refl, sym, ap, ◌∙◌, subst, arith}
use Rattle.std.specs.List.{list_any, flat_map}
use Rattle.serde_json.specs.Data.{Data}
use Rattle.serde_json.specs.Written.{compact_text}
use Rattle.vlt_core.specs.Core.{SetDecl, Mode, kept, taken, given, fresh, up_to, Entry, Func, Program}
use Rattle.vlt_core.specs.KindedHeads.{is_bounded, is_bound_entry}
use Rattle.vlt_core.specs.declared.notes.Annotation.{Annotation}
use Rattle.cert_rows.specs.Parts.{All, list}
use Rattle.cert_rows.specs.Values.{mode_number, entry}
use Rattle.cert_rows.specs.Rows.{states, external, function, FitsRow}
use Rattle.cert_format.specs.Notes.{Note}
use Rattle.cert_format.specs.Places.{unplaced_program}
use Rattle.cert_format.specs.Certificate.{shape, fn_shape, type_rows, fn_row, program_data, FitFunctions, FitsCertificate, IsCertificateOf}
use Rattle.cert_format_laws.specs.Texts.{CertificatesAreWritten}
use Rattle.cert_format_laws.specs.Versions.{is_linked, is_ordered, HasWrittenVersion}
use Rattle.cert_format_laws.proofs.Decoding.{all_left}
use Rattle.cert_write.specs.Notes.{notes_in}
use Rattle.cert_write.specs.Texts.{IsTextOfRows}
use Rattle.cert_write.specs.Rows.{rows_data}
use Rattle.cert_write.proofs.Functions.{program_same}
use Rattle.cert_write.proofs.Placing.{ordered_same}

-- what is written for the program
pub written_data : (p : Program) (all : List (List Annotation)) (o : Bool) (ds : List Data) → o ≡ is_ordered p → ds ≡ rows_data o p all →
    ds ≡ program_data (is_ordered (unplaced_program p)) (unplaced_program p) (notes_in p.fns all)
written_data p all o ds is rows =
    rows ∙ ap (λ v. rows_data v p all) (is ∙ sym (ordered_same p)) ∙ sym (program_same (is_ordered (unplaced_program p)) p all)

-- ---- a program with a certificate of version 1 has no links and no bound entries

sets_plain : (ds : List SetDecl) → All (FitsRow (shape false None)) (map states ds) → list_any (λ d. is_linked d.links) ds ≡ false
sets_plain [] h = refl
sets_plain (d ∷ ds) h = rw (ap (λ x. is_linked x.links) (sym h.0.1)) (sets_plain ds h.1)

unbounded : (m : Mode) → mode_number m ≤ 3 → is_bounded m ≡ false
unbounded kept l = refl
unbounded taken l = refl
unbounded given l = refl
unbounded fresh l = refl
unbounded (up_to b) l = absurd (omega (arith, l))

clause_plain : (es : List Entry) → All (entry false).Fits es → list_any is_bound_entry es ≡ false
clause_plain [] h = refl
clause_plain (e ∷ es) h = rw (unbounded e.mode h.0.0.0.0) (clause_plain es h.1)

head_plain : (f : Func) (e : Bool) (p : Program) → FitsRow (fn_shape false p f) (if e then external (fn_row f) else function (fn_row f)) →
    All (entry false).Fits f.clause
head_plain f true p h = h.3
head_plain f false p h = h.3

fns_plain : (p : Program) (fs : List Func) (all : List (List Note)) → FitFunctions false p fs all → list_any (λ f. list_any is_bound_entry f.clause) fs ≡ false
fns_plain p [] all h = refl
fns_plain p (f ∷ fs) [] h = absurd h
fns_plain p (f ∷ fs) (notes ∷ all) h = rw (clause_plain f.clause (head_plain f f.external p h.0.rows.0)) (fns_plain p fs all h.1)

pub first_version : (p : Program) (all : List (List Note)) → FitsCertificate false p all → is_ordered p ≡ false
first_version p all h =
    rw (sets_plain p.sets (all_left (FitsRow (shape false None)) (map states p.sets) (flat_map type_rows p.types) h.tables))
    (fns_plain p p.fns all h.functions)

written_version : HasWrittenVersion → (o : Bool) (p : Program) (all : List (List Note)) → FitsCertificate o p all → FitsCertificate (is_ordered p) p all
written_version law true p all h = law p all h
written_version law false p all h = subst (λ o. FitsCertificate o p all) (sym (first_version p all h)) h

-- ---- the certificate

certified : CertificatesAreWritten → HasWrittenVersion → (p : Program) (all : List (List Note)) (text : List ℕ) →
    IsTextOfRows (program_data (is_ordered p) p all) text → (o : Bool) → FitsCertificate o p all → IsCertificateOf text p all
certified written version p all text t o fits =
    subst (λ s. IsCertificateOf s p all) (sym t.compact)
    ((written (is_ordered p) p all (written_version version o p all fits)).certificate (compact_text (list (program_data (is_ordered p) p all))) t.written)

pub all_certified : {A E : Type 0} → CertificatesAreWritten → HasWrittenVersion → (p : Program) (all : List (List Note)) (bytes : A → List ℕ) (r : Result A E) →
    IfOk r (λ text. IsTextOfRows (program_data (is_ordered p) p all) (bytes text)) → IfOk r (λ text. (o : Bool) → FitsCertificate o p all → IsCertificateOf (bytes text) p all)
all_certified written version p all bytes (Ok text) h = certified written version p all (bytes text) h
all_certified written version p all bytes (Err e) h = tt
