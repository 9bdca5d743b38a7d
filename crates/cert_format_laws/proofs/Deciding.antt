-- Each text has a reading.
use Rattle.std.proofs.Common.{◌≡◌, ◌+◌, ◌==◌, refl, sym, ap, ◌∙◌, subst, ℕ, ◌&&◌, Bool, true, false, true≢false, if◌then◌else◌, List, [], ◌∷◌, ◌++◌, map, length, Option, Some, None, IsUtf8, arith}
use Rattle.std.specs.List.{flat_map}
use Rattle.std.specs.Str.{bytes_eq, is_utf8}
use Rattle.std.proofs.lemmas.Str.{is_utf8-from_IsUtf8, IsUtf8-from_is_utf8}
use Rattle.std.proofs.lemmas.Slice.Eq.{bytes_eq-Decides}
use Rattle.std.proofs.lemmas.Bool.Decides.{nat_tests}
use Rattle.serde_json.specs.Data.{Data, null, boolean, number, string, array, object}
use Rattle.serde_json.specs.Read.{read}
use Rattle.vlt_core_laws.proofs.Unbroken.{some_same, some_not_none}
use Rattle.cert_rows.specs.Parts.{list, list_in}
use Rattle.cert_rows.specs.Rows.{Row, version, states, row_data, FitsRow, row_part}
use Rattle.cert_rows.proofs.Codec.{array_read}
use Rattle.cert_format.specs.Text.{opening, closing, marked, is_plain, IsJsonOf}
use Rattle.cert_format.specs.Certificate.{shape, type_rows, functions_data, program_data, FitsCertificate, IsCertificateOf, most_declarations}
use Rattle.cert_format.specs.Pieces.{Piece, empty_program, pieces_data, pieces_rows, ArePieces, wrong_pieces, are_whole, is_nothing, first_fault, version_in, version_of}
use Rattle.cert_format.specs.Readings.{not_plain, not_array, no_version, at_row, Reading, certificate, not_json, not_of_its_form, IsReading}
use Rattle.cert_format_laws.proofs.Decoding.{joined, no_end, map_joined, all_joined, row_said, nothing_there, head_same, tail_same}
use Rattle.cert_format_laws.proofs.Redrafted.{both_so, first_none}
use Rattle.cert_format_laws.proofs.Pieced.{pieced}
use Rattle.cert_format_laws.proofs.Folded.{sets_fit, types_fit, fns_fit, few, unplaced_fns, made}
use Rattle.cert_format_laws.specs.Pieces.{program_of, all_of, sets_of, types_of, fns_of}
use Rattle.cert_format_laws.proofs.Answering.{IsPlainText, AreSaid, body_same}

-- ---- the text between the marks

data Split (prefix suffix xs : List ℕ) : Type 0 where
  between : (b : List ℕ) → xs ≡ prefix ++ (b ++ suffix) → Split prefix suffix xs
  nothing_between : ((b : List ℕ) → xs ≡ prefix ++ (b ++ suffix) → ⊥) → Split prefix suffix xs

filled : (ys : List ℕ) (x : ℕ) (xs : List ℕ) → [] ≡ ys ++ (x ∷ xs) → ⊥
filled [] x xs e = nothing_there x xs e
filled (y ∷ ys) x xs e = nothing_there y (ys ++ (x ∷ xs)) e

-- a list that ends so, or doesn't
suffixed : (s : ℕ) (suffix xs : List ℕ) → Split [] (s ∷ suffix) xs
suffixed s suffix [] = nothing_between (λ b e. filled b s suffix e)
suffixed s suffix (x ∷ xs) = by (bytes_eq (x ∷ xs) (s ∷ suffix)) refl (suffixed s suffix xs)
  where
    none : bytes_eq (x ∷ xs) (s ∷ suffix) ≡ false → ((b : List ℕ) → xs ≡ b ++ (s ∷ suffix) → ⊥) → (b : List ℕ) → x ∷ xs ≡ b ++ (s ∷ suffix) → ⊥
    none is rest [] e = true≢false (sym ((bytes_eq-Decides (x ∷ xs) (s ∷ suffix)).1 e) ∙ is)
    none is rest (y ∷ b) e = rest b (tail_same x y xs (b ++ (s ∷ suffix)) e)

    by : (b : Bool) → bytes_eq (x ∷ xs) (s ∷ suffix) ≡ b → Split [] (s ∷ suffix) xs → Split [] (s ∷ suffix) (x ∷ xs)
    by true is rest = between [] ((bytes_eq-Decides (x ∷ xs) (s ∷ suffix)).0 is)
    by false is (between b e) = between (x ∷ b) (ap (λ z. x ∷ z) e)
    by false is (nothing_between k) = nothing_between (none is k)

same_sign : (x y : ℕ) → (x == y) ≡ true → x ≡ y
same_sign x y is = grind (arith, nat_tests)

alike : (y : ℕ) → (y == y) ≡ true
alike y = grind (arith, nat_tests)

unlike : (x y : ℕ) → (x == y) ≡ false → x ≡ y → ⊥
unlike x y is e = true≢false (sym (alike y) ∙ ap (λ z. z == y) (sym e) ∙ is)

marked_by : (prefix : List ℕ) (s : ℕ) (suffix xs : List ℕ) → Split prefix (s ∷ suffix) xs
marked_by [] s suffix xs = suffixed s suffix xs
marked_by (p ∷ ps) s suffix [] = nothing_between (λ b e. nothing_there p (ps ++ (b ++ (s ∷ suffix))) e)
marked_by (p ∷ ps) s suffix (x ∷ xs) = by (x == p) refl (marked_by ps s suffix xs)
  where
    by : (b : Bool) → (x == p) ≡ b → Split ps (s ∷ suffix) xs → Split (p ∷ ps) (s ∷ suffix) (x ∷ xs)
    by true is (between b e) = between b (ap (λ z. z ∷ xs) (same_sign x p is) ∙ ap (λ z. p ∷ z) e)
    by true is (nothing_between k) = nothing_between (λ b e. k b (tail_same x p xs (ps ++ (b ++ (s ∷ suffix))) e))
    by false is rest = nothing_between (λ b e. unlike x p is (head_same x p xs (ps ++ (b ++ (s ∷ suffix))) e))

-- ---- declarations that are all there and right

abbrev IsRead : List ℕ → Type 0
IsRead text = (x : Reading) × IsReading text x

module _ (text : List ℕ) (o : Bool) (ps : List Piece) (x : AreSaid text o ps []) (w : are_whole ps ≡ true) (r : wrong_pieces 1 ps ≡ None) where
  pub fits : FitsCertificate o (program_of ps) (all_of ps)
  fits = record {
    tables = all_joined (FitsRow (shape o None)) (map states (sets_of ps)) (flat_map type_rows (types_of ps))
        (sets_fit o (program_of ps) ps empty_program 0 most_declarations x.are w)
        (types_fit o (program_of ps) ps empty_program 0 most_declarations x.are w);
    functions = fns_fit o (program_of ps) ps empty_program 0 most_declarations 1 x.are w r (refl, refl);
    few = few o (program_of ps) ps empty_program 0 most_declarations x.are w;
    main = refl;
    unplaced = ap (λ fs. record (program_of ps) { fns = fs }) (unplaced_fns o (program_of ps) ps);
  }

  named : (r : Option Row) → version_in r ≡ Some o → r ≡ Some (version o)
  named (Some (version v)) e = ap (λ z. Some (version z)) (some_same v o e)
  named r e = absurd (some_not_none o (sym e))

  row_first : x.first ≡ row_data (shape o None) (version o)
  row_first = (row_said (shape true None) x.first (version o) (named ((row_part (shape true None)).of_data x.first) x.names)).0

  values : x.first ∷ (pieces_data o empty_program ps ++ []) ≡ program_data o (program_of ps) (all_of ps)
  values =
      ap (λ z. z ∷ (pieces_data o empty_program ps ++ [])) row_first
      ∙ ap (λ z. row_data (shape o None) (version o) ∷ z)
      (no_end (pieces_data o empty_program ps) ∙ made o (program_of ps) ps empty_program 0 most_declarations 1 x.are w r (refl, refl)
      ∙ sym (joined (map (row_data (shape o None)) (map states (sets_of ps)))
      (map (row_data (shape o None)) (flat_map type_rows (types_of ps)))
      (functions_data o (program_of ps) (fns_of ps) (all_of ps)))
      ∙ ap (λ z. z ++ functions_data o (program_of ps) (fns_of ps) (all_of ps))
      (sym (map_joined (row_data (shape o None)) (map states (sets_of ps)) (flat_map type_rows (types_of ps)))))

  pub certified : IsCertificateOf text (program_of ps) (all_of ps)
  certified = record { ordered = o; json = subst (λ z. IsJsonOf text (list z)) values x.json; plain = x.plain; fits = fits }

-- ---- each reading

pub fault_none : (ps : List Piece) (more : List Data) → first_fault ps more ≡ None → (wrong_pieces 1 ps ≡ None) × (are_whole ps ≡ true) × (more ≡ [])
fault_none ps more e =
    let x = first_none (wrong_pieces 1 ps) (if are_whole ps && is_nothing more then None else Some (1 + length (pieces_rows ps))) e in
    let y = both_so (are_whole ps) (is_nothing more) (so (are_whole ps && is_nothing more) (1 + length (pieces_rows ps)) x.1) in
    (x.0, y.0, empty more y.1)
  where
    so : (b : Bool) (n : ℕ) → (let z : Option ℕ = if b then None else Some n in z) ≡ None → b ≡ true
    so true n e = refl
    so false n e = absurd (some_not_none n e)

    empty : (more : List Data) → is_nothing more ≡ true → more ≡ []
    empty [] e = refl
    empty (d ∷ ds) e = absurd (true≢false (sym e))

pub by_fault : (text : List ℕ) (o : Bool) (d : Data) (ps : List Piece) (more : List Data) →
    IsJsonOf text (list (d ∷ (pieces_data o empty_program ps ++ more))) → IsPlainText text → version_of d ≡ Some o →
    ArePieces o empty_program 0 most_declarations ps more → (f : Option ℕ) → first_fault ps more ≡ f → IsRead text
by_fault text o d ps more j plain names are (Some n) is = (not_of_its_form n, at_row o d ps more n j plain names are is)
by_fault text o d ps more j plain names are None is =
    let x = fault_none ps more is in (
      certificate (program_of ps) (all_of ps),
      certified text o ps
          (record {
            first = d;
            json = subst (λ z. IsJsonOf text (list (d ∷ (pieces_data o empty_program ps ++ z)))) x.2 j;
            plain = plain;
            names = names;
            are = subst (ArePieces o empty_program 0 most_declarations ps) x.2 are;
          })
          x.1 x.0,
    )

by_version : (text : List ℕ) (d : Data) (ds : List Data) → IsJsonOf text (list (d ∷ ds)) → IsPlainText text → (v : Option Bool) →
    version_of d ≡ v → IsRead text
by_version text d ds j plain None is = (not_of_its_form 0, no_version (d ∷ ds) j is)
by_version text d ds j plain (Some o) is =
    let x = pieced most_declarations o empty_program 0 ds in
    by_fault text o d x.pieces x.more (subst (λ z. IsJsonOf text (list (d ∷ z))) x.made j) plain is x.are (first_fault x.pieces x.more) refl

by_items : (text : List ℕ) (ds : List Data) → IsJsonOf text (list ds) → IsPlainText text → IsRead text
by_items text [] j plain = (not_of_its_form 0, no_version [] j refl)
by_items text (d ∷ ds) j plain = by_version text d ds j plain (version_of d) refl

by_value : (text : List ℕ) (d : Data) → IsJsonOf text d → IsPlainText text → IsRead text
by_value text null j plain = (not_of_its_form 0, not_array null j refl)
by_value text (boolean b) j plain = (not_of_its_form 0, not_array (boolean b) j refl)
by_value text (number n) j plain = (not_of_its_form 0, not_array (number n) j refl)
by_value text (string s) j plain = (not_of_its_form 0, not_array (string s) j refl)
by_value text (array ds) j plain = by_items text (list_in ds) (subst (IsJsonOf text) (array_read (array ds)) j) plain
by_value text (object ms) j plain = (not_of_its_form 0, not_array (object ms) j refl)

by_plain : (text body : List ℕ) (d : Data) → text ≡ marked body → IsJsonOf text d → (b : Bool) → is_plain body ≡ b → IsRead text
by_plain text body d e j true is = by_value text d j (λ other f. ap is_plain (body_same other body (sym f ∙ e)) ∙ is)
by_plain text body d e j false is = (not_of_its_form 0, not_plain d body j e is)

by_reading : (text body : List ℕ) → text ≡ marked body → IsUtf8 body → (o : Option Data) → read body ≡ o → IsRead text
by_reading text body e u None is =
    (not_json, record { none = λ d j. some_not_none d (sym j.value ∙ ap read (body_same j.body body (sym j.marks ∙ e)) ∙ is) })
by_reading text body e u (Some d) is = by_plain text body d e (record { body = body; marks = e; utf8 = u; value = is }) (is_plain body) refl

by_utf8 : (text body : List ℕ) → text ≡ marked body → (b : Bool) → is_utf8 body ≡ b → IsRead text
by_utf8 text body e true is = by_reading text body e (IsUtf8-from_is_utf8 body is) (read body) refl
by_utf8 text body e false is = (
  not_json,
  record {
    none = λ d j. true≢false (sym
        (is_utf8-from_IsUtf8 body (subst IsUtf8 (body_same j.body body (sym j.marks ∙ e)) j.utf8)) ∙ is);
  },
)

by_marks : (text : List ℕ) → Split opening closing text → IsRead text
by_marks text (between body e) = by_utf8 text body e (is_utf8 body) refl
by_marks text (nothing_between k) = (not_json, record { none = λ d j. k j.body j.marks })

pub some_reading : (text : List ℕ) → IsRead text
some_reading text = by_marks text (marked_by opening 10 (42 ∷ 47 ∷ 10 ∷ []) text)
