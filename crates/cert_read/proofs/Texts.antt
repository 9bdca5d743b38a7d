-- What is read of a text.
use Rattle.std.proofs.Common.{◌≡◌, ◌≤◌, refl, sym, ap, ◌∙◌, subst, ℕ, suc, Bool, true, false, List, [], ◌∷◌, ◌++◌, map, length, Option, Some, None, option_map, IfSome, IsUtf8, Ok, Err, Result, arith}
use Rattle.serde_json.specs.Data.{Data}
use Rattle.serde_json.specs.Find.{as_array}
use Rattle.serde_json.specs.Read.{read}
use Rattle.serde_json.specs.View.{view}
use Rattle.serde_json.specs.declared.value.Value.{Value}
use Rattle.vlt_core.specs.Core as core
use Rattle.vlt_core.specs.View.{func_of, set_of, type_of, program_of}
use Rattle.vlt_core_laws.proofs.Unbroken.{some_not_none}
use Rattle.cert_rows.specs.Parts.{list, list_in, array_in}
use Rattle.cert_rows.proofs.Codec.{array_read}
use Rattle.cert_format.specs.Text.{marked, is_plain, IsJsonOf}
use Rattle.cert_format.specs.Certificate.{main_from, IsCertificateOf, most_declarations}
use Rattle.cert_format.specs.Pieces.{empty_program, pieces_data, ArePieces, are_whole, wrong_pieces, first_version}
use Rattle.cert_format.specs.Readings.{IsNotJson, IsFormRefusal, not_plain, not_array, at_row, Reading, certificate, not_json, not_of_its_form, IsReading}
use Rattle.cert_format_laws.proofs.Answering.{body_same, one_reading}
use Rattle.cert_format_laws.proofs.Deciding.{fault_none, certified}
use Rattle.cert_format_laws.specs.Pieces as folded
use Rattle.cert_format_laws.proofs.Folded.{few}
use Rattle.cert_format_laws.specs.Pieces.{sets_of, types_of, all_of}
use Rattle.cert_read.specs.Declarations.{notes_of_all, values_at, AreRead}
use Rattle.cert_read.specs.Certificates.{IsOfVersion, IsReadAs, Is, IsParsed, IsPlainJson, IsCertificateWith}
use Rattle.cert_read.specs.declared.declarations.Declarations.{Declarations}
use Rattle.cert_read.specs.declared.read.Certificate.{Certificate}
use Rattle.cert_read.specs.declared.error.ReadError.{ReadError}
use Rattle.cert_read.specs.declared.error.ReadError.TheVariants.{Memory, NotJson, Form}

-- ---- one reading

pub is_only : (text : List ℕ) (r : Result Certificate ReadError) → IsReadAs text r → (x : Reading) → IsReading text x → Is r x
is_only text (Ok c) h x i = one_reading text (certificate (program_of c.program) (notes_of_all c.notes)) x h.0 i
is_only text (Err NotJson) h x i = one_reading text not_json x h i
is_only text (Err (Form n)) h x i = one_reading text (not_of_its_form n) x h i
is_only text (Err Memory) h x i = tt

-- ---- rows

pub has_first : (rows : List Value) (o : Bool) → first_version (map view rows) ≡ Some o → 1 ≤ length rows
has_first [] o e = absurd (some_not_none o (sym e))
has_first (v ∷ rows) o e = omega arith

module _ (o : Bool) (rows : List Value) (d : Declarations) (fault : Option ℕ) (r : AreRead o rows d fault) where
  module _ (e : fault ≡ None) where
    faultless : (wrong_pieces 1 r.read ≡ None) × (are_whole r.read ≡ true) × (r.more ≡ [])
    faultless = fault_none r.read r.more (r.first ∙ e)

    are : ArePieces o empty_program 0 most_declarations r.read []
    are = subst (ArePieces o empty_program 0 most_declarations r.read) faultless.2 r.are

    lengths_mapped : {A B : Type 0} (f : A → B) (xs : List A) → length (map f xs) ≡ length xs
    lengths_mapped f [] = refl
    lengths_mapped f (x ∷ xs) = ap (λ n. suc n) (lengths_mapped f xs)

    pub few_functions : length d.fns ≤ 4294967295
    few_functions =
        let h = few o (folded.program_of r.read) r.read empty_program 0 most_declarations are faultless.1 in
        let k = ap length (r.right e).fns in
        let l = lengths_mapped func_of d.fns in
        omega (arith, h, k, l)

    program_is : (c : Certificate) → IsCertificateWith o d c → program_of c.program ≡ folded.program_of r.read
    program_is c x =
        ap (λ z. record (program_of c.program) { sets = map set_of z }) x.sets
        ∙ ap (λ z. record (program_of c.program) { sets = map set_of d.tables.sets; types = map type_of z }) x.types
        ∙ ap (λ z. record (program_of c.program) { sets = map set_of d.tables.sets; types = map type_of d.tables.types; fns = map func_of z }) x.fns
        ∙ ap (λ z. (let q : core.Program = record { sets = map set_of d.tables.sets; types = map type_of d.tables.types; fns = map func_of d.fns; main = z } in q)) x.main
        ∙ ap (λ z. (let q : core.Program = record { sets = z; types = map type_of d.tables.types; fns = map func_of d.fns; main = main_from 0 (map func_of d.fns) } in q)) (r.right e).sets
        ∙ ap (λ z. (let q : core.Program = record { sets = sets_of r.read; types = z; fns = map func_of d.fns; main = main_from 0 (map func_of d.fns) } in q)) (r.right e).types
        ∙ ap (λ z. (let q : core.Program = record { sets = sets_of r.read; types = types_of r.read; fns = z; main = main_from 0 z } in q)) (r.right e).fns

  module _ (text : List ℕ) (j : IsPlainJson text (list (map view rows))) (names : first_version (map view rows) ≡ Some o) where
    -- the first row, and what the others say
    rows_said : (first : Data) × (map view rows ≡ first ∷ (pieces_data o empty_program r.read ++ r.more)) × (first_version (first ∷ []) ≡ Some o)
    rows_said = by rows names r.made
      where
        by : (vs : List Value) → first_version (map view vs) ≡ Some o → values_at vs 1 ≡ pieces_data o empty_program r.read ++ r.more →
            (first : Data) × (map view vs ≡ first ∷ (pieces_data o empty_program r.read ++ r.more)) × (first_version (first ∷ []) ≡ Some o)
        by [] e m = absurd (some_not_none o (sym e))
        by (v ∷ vs) e m = (view v, ap (λ z. view v ∷ z) m, e)

    json : IsJsonOf text (list (rows_said.0 ∷ (pieces_data o empty_program r.read ++ r.more)))
    json = subst (λ z. IsJsonOf text (list z)) rows_said.1 j.json

    pub at_fault : (n : ℕ) → fault ≡ Some n → IsFormRefusal text n
    at_fault n e = at_row o rows_said.0 r.read r.more n json j.plain rows_said.2 r.are (r.first ∙ e)

    said : fault ≡ None → IsCertificateOf text (folded.program_of r.read) (all_of r.read)
    said e = certified text o r.read
        (record {
          first = rows_said.0;
          json = subst (λ z. IsJsonOf text (list (rows_said.0 ∷ (pieces_data o empty_program r.read ++ z)))) (faultless e).2 json;
          plain = j.plain;
          names = rows_said.2;
          are = are e;
        })
        (faultless e).1 (faultless e).0

    of_version : (c : Certificate) → IsCertificateWith o d c → IsOfVersion text c.ordered
    of_version c x = record { rows = map view rows; json = j.json; names = names ∙ ap (λ v. Some v) (sym x.version) }

    pub at_none : fault ≡ None → (c : Certificate) → IsCertificateWith o d c → IsReadAs text (Ok c)
    at_none e c x = (
      subst (λ p. IsCertificateOf text p (notes_of_all c.notes)) (sym (program_is e c x))
          (subst (IsCertificateOf text (folded.program_of r.read)) (sym (ap notes_of_all x.notes ∙ (r.right e).notes)) (said e)),
      of_version c x,
    )

-- ---- values and texts

array_none : (d : Data) → None ≡ array_in d → as_array d ≡ None
array_none d e = by (as_array d) e
  where
    by : (o : Option _) → None ≡ option_map list_in o → o ≡ None
    by None e = refl
    by (Some ds) e = absurd (some_not_none (list_in ds) (sym e))

pub no_marks : (text : List ℕ) → ((body : List ℕ) → text ≡ marked body → ⊥) → IsNotJson text
no_marks text h = record { none = λ d j. h j.body j.marks }

pub no_utf8 : (text body : List ℕ) → text ≡ marked body → (IsUtf8 body → ⊥) → IsNotJson text
no_utf8 text body marks h = record { none = λ d j. h (subst IsUtf8 (body_same j.body body (sym j.marks ∙ marks)) j.utf8) }

module _ (text body : List ℕ) (marks : text ≡ marked body) where
  pub parsed_not : (e : ReadError) → IsParsed body (Err e) → IsReadAs text (Err e)
  parsed_not NotJson h =
      record { none = λ d j. some_not_none d (sym j.value ∙ ap read (body_same j.body body (sym j.marks ∙ marks)) ∙ h) }
  parsed_not (Form n) h = absurd h
  parsed_not Memory h = tt

  pub parsed : (d : Data) → IsUtf8 body → read body ≡ Some d → IsJsonOf text d
  parsed d utf8 h = record { body = body; marks = marks; utf8 = utf8; value = h }

  pub bad_signs : (d : Data) → IsJsonOf text d → is_plain body ≡ false → IsFormRefusal text 0
  bad_signs d j e = not_plain d body j marks e

  pub no_array : (d : Data) → IsJsonOf text d → None ≡ array_in d → IsFormRefusal text 0
  no_array d j e = not_array d j (array_none d e)

  pub plain_rows : (d : Data) (ds : List Data) → IsJsonOf text d → is_plain body ≡ true → Some ds ≡ array_in d → IsPlainJson text (list ds)
  plain_rows d ds j plain e = record {
    json = subst (IsJsonOf text) (subst (λ o. IfSome o (λ xs. d ≡ list xs)) (sym e) (array_read d)) j;
    plain = λ b f. ap is_plain (body_same b body (sym f ∙ marks)) ∙ plain;
  }
