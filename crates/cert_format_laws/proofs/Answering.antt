-- A text has one reading.
use Rattle.std.proofs.Common.{◌≡◌, ◌+◌, refl, sym, ap, ◌∙◌, subst, ℕ, zero, ◌&&◌, Bool, true, false, true≢false, if◌then◌else◌, List, [], ◌∷◌, ◌++◌, map, length, Some, None, arith}
use Rattle.std.specs.List.{flat_map}
use Rattle.std.proofs.lemmas.List.{append_cancel_left, append_cancel_right}
use Rattle.serde_json.specs.Data.{Data}
use Rattle.serde_json.specs.View.{items_of}
use Rattle.serde_json.specs.Find.{as_array}
use Rattle.serde_json.specs.Read.{read}
use Rattle.vlt_core.specs.Core as core
use Rattle.vlt_core.specs.Core.{SetDecl, TypeDecl, Func, Program}
use Rattle.vlt_core_laws.proofs.Unbroken.{some_same, some_not_none}
use Rattle.cert_format.specs.Places.{unplaced_func}
use Rattle.cert_rows.specs.Parts.{list, list_in, array_in}
use Rattle.cert_rows.specs.Rows.{version, states, row_data, FitsRow}
use Rattle.cert_rows.proofs.Codec.{list_in_back}
use Rattle.cert_format.specs.Text.{opening, closing, marked, is_plain, IsJsonOf}
use Rattle.cert_format.specs.Notes.{Note, maps_of}
use Rattle.cert_format.specs.Bodies.{list_draft, core_list, list_notes}
use Rattle.cert_format.specs.Certificate.{shape, type_rows, fn_row, body_draft, functions_data, table_rows, program_data, main_from, FitsFunction, FitFunctions, FitsCertificate, IsCertificateOf, most_declarations}
use Rattle.cert_format.specs.Pieces.{Piece, a_set, an_external, a_function, empty_program, func_of, pieces_data, pieces_rows, ArePieces, are_whole, first_fault, version_of, first_version}
use Rattle.cert_format.specs.Readings.{IsNotJson, IsFormRefusal, not_plain, not_array, no_version, at_row, Reading, certificate, not_json, not_of_its_form, IsReading}
use Rattle.cert_format.specs.Endings.{or_else}
use Rattle.cert_format_laws.proofs.BodyWritten.{same_list}
use Rattle.cert_format_laws.proofs.Decoding.{joined, no_end, map_joined, all_left, all_right, head_same, tail_same}
use Rattle.cert_format_laws.proofs.Taking.{one_list}
use Rattle.cert_format_laws.proofs.Written.{type_pieces, fn_piece, fn_pieces, pieces_of, AreGood, sets_good}
use Rattle.cert_format_laws.specs.Pieces.{sets_of, types_of, fns_of, all_of, program_of}

-- ---- texts

pub body_same : (x y : List ℕ) → marked x ≡ marked y → x ≡ y
body_same x y e = append_cancel_right x y closing (append_cancel_left opening (x ++ closing) (y ++ closing) e)

-- a text has one value
pub one_value : (text : List ℕ) (d e : Data) → IsJsonOf text d → IsJsonOf text e → d ≡ e
one_value text d e x y =
    let bodies : x.body ≡ y.body = body_same x.body y.body (sym x.marks ∙ y.marks) in
    some_same d e (sym x.value ∙ ap read bodies ∙ y.value)

items_same : (x y : List Data) → list x ≡ list y → x ≡ y
items_same x y e = sym (list_in_back x) ∙ some_same (list_in (items_of x)) (list_in (items_of y)) (ap array_in e) ∙ list_in_back y

abbrev pub IsPlainText : List ℕ → Type 0
IsPlainText text = (body : List ℕ) → text ≡ marked body → is_plain body ≡ true

-- the declarations that the rows of the text say
pub record AreSaid (text : List ℕ) (o : Bool) (ps : List Piece) (more : List Data) : Type 0 where
  pub first : Data
  pub json : IsJsonOf text (list (first ∷ (pieces_data o empty_program ps ++ more)))
  pub plain : IsPlainText text
  pub names : version_of first ≡ Some o
  pub are : ArePieces o empty_program 0 most_declarations ps more

one_said : (text : List ℕ) (o v : Bool) (ps qs : List Piece) (more rest : List Data) → AreSaid text o ps more →
    AreSaid text v qs rest → (ps ≡ qs) × (more ≡ rest)
one_said text o v ps qs more rest x y =
    let items = items_same (x.first ∷ (pieces_data o empty_program ps ++ more)) (y.first ∷
    (pieces_data v empty_program qs ++ rest)) (one_value text _ _ x.json y.json) in
    let firsts : x.first ≡ y.first =
    head_same x.first y.first (pieces_data o empty_program ps ++ more) (pieces_data v empty_program qs ++ rest) items in
    let versions : o ≡ v = some_same o v (sym x.names ∙ ap version_of firsts ∙ y.names) in
    one_list v empty_program 0 most_declarations ps qs more rest
    (subst (λ w. ArePieces w empty_program 0 most_declarations ps more) versions x.are) y.are
    (subst (λ w. pieces_data w empty_program ps ++ more ≡ pieces_data v empty_program qs ++ rest) versions
    (tail_same x.first y.first (pieces_data o empty_program ps ++ more) (pieces_data v empty_program qs ++ rest) items))

-- ---- certificates

version_named : (o : Bool) → version_of (row_data (shape o None) (version o)) ≡ Some o
version_named true = refl
version_named false = refl

module _ (o : Bool) (p : Program) (a : List (List Note)) (fits : FitsCertificate o p a) where
  pub good : AreGood o empty_program 0 most_declarations (pieces_of p a) (map (row_data (shape o None)) (table_rows p) ++ functions_data o p p.fns a)
  good = subst (AreGood o empty_program 0 most_declarations (pieces_of p a)) made
      (sets_good o p p.fns a fits.functions p.sets empty_program most_declarations refl refl (let h = fits.few in omega (arith, h))
      (all_left (FitsRow (shape o None)) (map states p.sets) (flat_map type_rows p.types) fits.tables)
      (all_right (FitsRow (shape o None)) (map states p.sets) (flat_map type_rows p.types) fits.tables))
    where
      made : map (row_data (shape o None)) (map states p.sets) ++
          (map (row_data (shape o None)) (flat_map type_rows p.types) ++ functions_data o p p.fns a) ≡ map
          (row_data (shape o None)) (table_rows p) ++ functions_data o p p.fns a
      made = sym (joined (map (row_data (shape o None)) (map states p.sets))
          (map (row_data (shape o None)) (flat_map type_rows p.types)) (functions_data o p p.fns a))
          ∙ ap (λ z. z ++ functions_data o p p.fns a) (sym (map_joined (row_data (shape o None)) (map states p.sets) (flat_map type_rows p.types)))

  pub no_fault : first_fault (pieces_of p a) [] ≡ None
  no_fault =
      ap (λ w. or_else w (if are_whole (pieces_of p a) && true then None else Some (1 + length (pieces_rows (pieces_of p a))))) (good.right 1)
      ∙ ap (λ b. if b && true then None else Some (1 + length (pieces_rows (pieces_of p a)))) good.whole

-- the pieces of a program give it back
sets_back : (ds : List SetDecl) (ps : List Piece) → sets_of (map a_set ds ++ ps) ≡ ds ++ sets_of ps
sets_back [] ps = refl
sets_back (d ∷ ds) ps = ap (λ z. d ∷ z) (sets_back ds ps)

types_over : (ds : List SetDecl) (ps : List Piece) → types_of (map a_set ds ++ ps) ≡ types_of ps
types_over [] ps = refl
types_over (d ∷ ds) ps = types_over ds ps

fns_over : (ds : List SetDecl) (ps : List Piece) → fns_of (map a_set ds ++ ps) ≡ fns_of ps
fns_over [] ps = refl
fns_over (d ∷ ds) ps = fns_over ds ps

all_over : (ds : List SetDecl) (ps : List Piece) → all_of (map a_set ds ++ ps) ≡ all_of ps
all_over [] ps = refl
all_over (d ∷ ds) ps = all_over ds ps

module _ (fs : List Func) (a : List (List Note)) where
  no_sets : (ts : List TypeDecl) → sets_of (type_pieces ts fs a) ≡ sets_of (fn_pieces fs a)
  no_sets [] = refl
  no_sets (core.an_abstract name set ∷ ts) = no_sets ts
  no_sets (core.a_struct d ∷ ts) = no_sets ts
  no_sets (core.a_variant d ∷ ts) = no_sets ts

  types_back : (ts : List TypeDecl) → types_of (type_pieces ts fs a) ≡ ts ++ types_of (fn_pieces fs a)
  types_back [] = refl
  types_back (core.an_abstract name set ∷ ts) = ap (λ z. core.an_abstract name set ∷ z) (types_back ts)
  types_back (core.a_struct d ∷ ts) = ap (λ z. core.a_struct d ∷ z) (types_back ts)
  types_back (core.a_variant d ∷ ts) = ap (λ z. core.a_variant d ∷ z) (types_back ts)

  fns_after : (ts : List TypeDecl) → fns_of (type_pieces ts fs a) ≡ fns_of (fn_pieces fs a)
  fns_after [] = refl
  fns_after (core.an_abstract name set ∷ ts) = fns_after ts
  fns_after (core.a_struct d ∷ ts) = fns_after ts
  fns_after (core.a_variant d ∷ ts) = fns_after ts

  all_after : (ts : List TypeDecl) → all_of (type_pieces ts fs a) ≡ all_of (fn_pieces fs a)
  all_after [] = refl
  all_after (core.an_abstract name set ∷ ts) = all_after ts
  all_after (core.a_struct d ∷ ts) = all_after ts
  all_after (core.a_variant d ∷ ts) = all_after ts

fn_piece_sets : (f : Func) (notes : List Note) (ps : List Piece) → sets_of (fn_piece f notes ∷ ps) ≡ sets_of ps
fn_piece_sets f notes ps = by f.external
  where
    by : (b : Bool) → sets_of ((if b then an_external (fn_row f) else a_function (fn_row f) (body_draft f notes)) ∷ ps) ≡ sets_of ps
    by true = refl
    by false = refl

fn_piece_types : (f : Func) (notes : List Note) (ps : List Piece) → types_of (fn_piece f notes ∷ ps) ≡ types_of ps
fn_piece_types f notes ps = by f.external
  where
    by : (b : Bool) → types_of ((if b then an_external (fn_row f) else a_function (fn_row f) (body_draft f notes)) ∷ ps) ≡ types_of ps
    by true = refl
    by false = refl

fn_sets : (fs : List Func) (a : List (List Note)) → sets_of (fn_pieces fs a) ≡ []
fn_sets [] a = refl
fn_sets (f ∷ fs) [] = fn_piece_sets f [] (fn_pieces fs []) ∙ fn_sets fs []
fn_sets (f ∷ fs) (notes ∷ a) = fn_piece_sets f notes (fn_pieces fs a) ∙ fn_sets fs a

fn_types : (fs : List Func) (a : List (List Note)) → types_of (fn_pieces fs a) ≡ []
fn_types [] a = refl
fn_types (f ∷ fs) [] = fn_piece_types f [] (fn_pieces fs []) ∙ fn_types fs []
fn_types (f ∷ fs) (notes ∷ a) = fn_piece_types f notes (fn_pieces fs a) ∙ fn_types fs a

head_or : Func → List Func → Func
head_or g [] = g
head_or g (f ∷ fs) = f

tail_of : List Func → List Func
tail_of [] = []
tail_of (f ∷ fs) = fs

first_same : (f : Func) (fs : List Func) → map unplaced_func (f ∷ fs) ≡ f ∷ fs → unplaced_func f ≡ f
unfolding head_or
first_same f fs u = ap (head_or f) u

rest_same : (f : Func) (fs : List Func) → map unplaced_func (f ∷ fs) ≡ f ∷ fs → map unplaced_func fs ≡ fs
unfolding tail_of
rest_same f fs u = ap tail_of u

-- a function is its row and its body
is_from : (f : Func) (ext : Bool) (body : core.Stmts) → unplaced_func f ≡ f → ext ≡ f.external → body ≡ f.body → func_of ext (fn_row f) body ≡ f
is_from f ext body u e b =
    ap (λ x. func_of x (fn_row f) body) e ∙ ap (λ x. func_of f.external (fn_row f) x) b ∙ ap (λ n. record f { end = n }) (ap (λ (g : Func). g.end) u)

fn_back : (o : Bool) (p : Program) (f : Func) (notes : List Note) (ps : List Piece) → unplaced_func f ≡ f → FitsFunction o p f notes →
    (fns_of (fn_piece f notes ∷ ps) ≡ f ∷ fns_of ps) × (all_of (fn_piece f notes ∷ ps) ≡ notes ∷ all_of ps)
fn_back o p f notes ps u fits = by f.external refl
  where
    by : (b : Bool) → f.external ≡ b → (fns_of ((if b then an_external (fn_row f)
        else a_function (fn_row f) (body_draft f notes)) ∷ ps) ≡ f ∷ fns_of ps) ×
        (all_of ((if b then an_external (fn_row f) else a_function (fn_row f) (body_draft f notes)) ∷ ps) ≡ notes ∷ all_of ps)
    by true is = (
      ap (λ g. g ∷ fns_of ps) (is_from f true core.done u (sym is) (sym (fits.blank is))),
      ap (λ ns. ns ∷ all_of ps) (sym (fits.listed ∙ ap (λ b. list_notes 0 (list_draft (maps_of notes) 0 b)) (fits.blank is))),
    )
    by false is = (
      ap (λ g. g ∷ fns_of ps) (is_from f false (core_list (body_draft f notes)) u (sym is) (same_list (maps_of notes) 0 f.body ∙
          ap (λ (g : Func). g.body) u)),
      ap (λ ns. ns ∷ all_of ps) (sym fits.listed),
    )

fns_back : (o : Bool) (p : Program) (fs : List Func) (a : List (List Note)) → map unplaced_func fs ≡ fs → FitFunctions o p fs a →
    (fns_of (fn_pieces fs a) ≡ fs) × (all_of (fn_pieces fs a) ≡ a)
fns_back o p [] [] u fits = (refl, refl)
fns_back o p [] (n ∷ a) u fits = absurd fits
fns_back o p (f ∷ fs) [] u fits = absurd fits
fns_back o p (f ∷ fs) (notes ∷ a) u fits =
    let here = fn_back o p f notes (fn_pieces fs a) (first_same f fs u) fits.0 in
    let there = fns_back o p fs a (rest_same f fs u) fits.1 in
    (here.0 ∙ ap (λ z. f ∷ z) there.0, here.1 ∙ ap (λ z. notes ∷ z) there.1)

abbrev whole_of : List SetDecl → List TypeDecl → List Func → Program
whole_of ds ts fs = record { sets = ds; types = ts; fns = fs; main = main_from 0 fs }

pub program_back : (o : Bool) (p : Program) (a : List (List Note)) → FitsCertificate o p a → (program_of (pieces_of p a) ≡ p) ×
    (all_of (pieces_of p a) ≡ a)
program_back o p a fits =
    let ds : sets_of (pieces_of p a) ≡ p.sets =
    sets_back p.sets (type_pieces p.types p.fns a) ∙ ap (λ z. p.sets ++ z) (no_sets p.fns a p.types ∙ fn_sets p.fns a) ∙ no_end p.sets in
    let ts : types_of (pieces_of p a) ≡ p.types =
    types_over p.sets (type_pieces p.types p.fns a) ∙ types_back p.fns a p.types ∙ ap (λ z. p.types ++ z) (fn_types p.fns a) ∙ no_end p.types in
    let bodies = fns_back o p p.fns a (ap (λ (r : Program). r.fns) fits.unplaced) fits.functions in
    let fs : fns_of (pieces_of p a) ≡ p.fns = fns_over p.sets (type_pieces p.types p.fns a) ∙ fns_after p.fns a p.types ∙ bodies.0 in (
      ap (λ z. whole_of z (types_of (pieces_of p a)) (fns_of (pieces_of p a))) ds ∙
          ap (λ z. whole_of p.sets z (fns_of (pieces_of p a))) ts ∙ ap (whole_of p.sets p.types) fs
          ∙ ap (λ n. record p { main = n }) (sym fits.main),
      all_over p.sets (type_pieces p.types p.fns a) ∙ all_after p.fns a p.types ∙ bodies.1,
    )

pub certificate_said : (text : List ℕ) (p : Program) (a : List (List Note)) (c : IsCertificateOf text p a) → AreSaid text c.ordered (pieces_of p a) []
certificate_said text p a c =
    let g = good c.ordered p a c.fits in
    record {
      first = row_data (shape c.ordered None) (version c.ordered);
      json = subst (λ z. IsJsonOf text (list (row_data (shape c.ordered None) (version c.ordered) ∷ z))) (sym g.made ∙
          sym (no_end (pieces_data c.ordered empty_program (pieces_of p a)))) c.json;
      plain = c.plain;
      names = version_named c.ordered;
      are = g.are;
    }

-- ---- refusals

-- at row 0 nothing is said; else all is
data Kind (text : List ℕ) (n : ℕ) : Type 0 where
  unsaid : n ≡ 0 → ((o : Bool) (ps : List Piece) (more : List Data) → AreSaid text o ps more → ⊥) → Kind text n
  fault : (o : Bool) (ps : List Piece) (more : List Data) → AreSaid text o ps more → first_fault ps more ≡ Some n → Kind text n

no_items : (ds : List Data) → as_array (list ds) ≡ None → ⊥
no_items ds e = some_not_none (items_of ds) e

kind : (text : List ℕ) (n : ℕ) → IsFormRefusal text n → Kind text n
kind text zero (not_plain d body j e is) = unsaid refl (λ o ps more x. true≢false (sym (x.plain body e) ∙ is))
kind text zero (not_array d j is) =
    unsaid refl (λ o ps more x. no_items (x.first ∷ (pieces_data o empty_program ps ++ more)) (ap as_array (one_value text _ d x.json j) ∙ is))
kind text zero (no_version ds j is) =
    unsaid refl (λ o ps more x. some_not_none o (sym x.names ∙
    ap first_version (items_same (x.first ∷ (pieces_data o empty_program ps ++ more)) ds (one_value text _ (list ds) x.json j)) ∙
    is))
kind text n (at_row o d ps more m j plain names are is) = fault o ps more (record { first = d; json = j; plain = plain; names = names; are = are }) is

-- ---- one reading

row_same : (text : List ℕ) (m n : ℕ) → Kind text m → Kind text n → m ≡ n
row_same text m n (unsaid e k) (unsaid f l) = e ∙ sym f
row_same text m n (unsaid e k) (fault o ps more x is) = absurd (k o ps more x)
row_same text m n (fault o ps more x is) (unsaid f l) = absurd (l o ps more x)
row_same text m n (fault o ps more x is) (fault v qs rest y so) =
    let e = one_said text o v ps qs more rest x y in
    some_same m n (sym is ∙ ap (λ z. first_fault z more) e.0 ∙ ap (first_fault qs) e.1 ∙ so)

value_of_kind : (text : List ℕ) (n : ℕ) → IsFormRefusal text n → IsNotJson text → ⊥
value_of_kind text zero (not_plain d body j e is) x = x.none d j
value_of_kind text zero (not_array d j is) x = x.none d j
value_of_kind text zero (no_version ds j is) x = x.none (list ds) j
value_of_kind text n (at_row o d ps more m j plain names are is) x = x.none (list (d ∷ (pieces_data o empty_program ps ++ more))) j

not_both : (text : List ℕ) (p : Program) (a : List (List Note)) (n : ℕ) → IsCertificateOf text p a → Kind text n → ⊥
not_both text p a n c (unsaid e k) = k c.ordered (pieces_of p a) [] (certificate_said text p a c)
not_both text p a n c (fault o ps more x is) =
    let e = one_said text c.ordered o (pieces_of p a) ps [] more (certificate_said text p a c) x in
    some_not_none n (sym is ∙ sym (ap (λ z. first_fault z []) e.0 ∙ ap (first_fault ps) e.1) ∙ no_fault c.ordered p a c.fits)

pub one_certificate : (text : List ℕ) (p q : Program) (a b : List (List Note)) → IsCertificateOf text p a →
    IsCertificateOf text q b → (p ≡ q) × (a ≡ b)
one_certificate text p q a b x y =
    let e = one_said text x.ordered y.ordered (pieces_of p a) (pieces_of q b) [] [] (certificate_said text p a x) (certificate_said text q b y) in
    let mine = program_back x.ordered p a x.fits in
    let yours = program_back y.ordered q b y.fits in
    (sym mine.0 ∙ ap program_of e.0 ∙ yours.0, sym mine.1 ∙ ap all_of e.0 ∙ yours.1)

pub one_reading : (text : List ℕ) (x y : Reading) → IsReading text x → IsReading text y → x ≡ y
one_reading text (certificate p a) (certificate q b) x y =
    let e = one_certificate text p q a b x y in ap (λ z. certificate z a) e.0 ∙ ap (certificate q) e.1
one_reading text (certificate p a) not_json x y = absurd (y.none (list (program_data x.ordered p a)) x.json)
one_reading text (certificate p a) (not_of_its_form n) x y = absurd (not_both text p a n x (kind text n y))
one_reading text not_json (certificate q b) x y = absurd (x.none (list (program_data y.ordered q b)) y.json)
one_reading text not_json not_json x y = refl
one_reading text not_json (not_of_its_form n) x y = absurd (value_of_kind text n y x)
one_reading text (not_of_its_form m) (certificate q b) x y = absurd (not_both text q b m y (kind text m x))
one_reading text (not_of_its_form m) not_json x y = absurd (value_of_kind text m x y)
one_reading text (not_of_its_form m) (not_of_its_form n) x y = ap not_of_its_form (row_same text m n (kind text m x) (kind text n y))
