-- The declarations that a certificate's rows say are the program's own.
use Rattle.std.proofs.Common.{◌≡◌, ◌≤◌, ◌+◌, refl, sym, ap, ◌∙◌, subst, ℕ, zero, suc, nat_le, ◌==◌, ◌&&◌, Bool, true, false, true≢false, if◌then◌else◌, List, [], ◌∷◌, ◌++◌, map, length, None, arith}
use Rattle.std.specs.List.{flat_map}
use Rattle.std.proofs.lemmas.Bool.{le-leb}
use Rattle.std.proofs.lemmas.Bool.Decides.{nat_tests}
use Rattle.serde_json.specs.Data.{Data}
use Rattle.vlt_core.specs.Core as core
use Rattle.vlt_core.specs.Core.{SetDecl, TypeDecl, Func, Program}
use Rattle.cert_rows.specs.Parts.{All}
use Rattle.cert_rows.specs.Values.{Shape}
use Rattle.cert_rows.specs.Rows.{FnRow, states, function, external, row_data, FitsRow, row_part}
use Rattle.cert_format.specs.Drafts.{list_rows}
use Rattle.cert_format.specs.Notes.{Note, maps_of}
use Rattle.cert_format.specs.Bodies.{list_draft}
use Rattle.cert_format.specs.Certificate.{shape, fn_shape, type_rows, fn_row, body_draft, function_rows, functions_data, FitsFunction, FitFunctions}
use Rattle.cert_format.specs.Pieces.{Piece, a_set, an_abstract, a_struct, a_variant, an_external, a_function, piece_rows, phase_of, is_whole_piece, with_piece, head_shape, has_known_bounds, piece_data, pieces_data, IsPiece, ArePieces, wrong_piece, wrong_pieces, are_whole}
use Rattle.cert_format_laws.proofs.BodyWritten.{list_takes, list_whole}
use Rattle.cert_format_laws.proofs.Decoding.{joined, no_end, map_joined, all_left, all_right}
use Rattle.cert_format_laws.proofs.Redrafted.{list_right, neither}

-- ---- the pieces of a program

abbrev pub type_piece : TypeDecl → Piece
type_piece (core.an_abstract name set) = an_abstract name set
type_piece (core.a_struct d) = a_struct d
type_piece (core.a_variant d) = a_variant d.name d.header (length d.cases) d.cases

abbrev pub fn_piece : Func → List Note → Piece
fn_piece f notes = if f.external then an_external (fn_row f) else a_function (fn_row f) (body_draft f notes)

abbrev pub fn_pieces : List Func → List (List Note) → List Piece
fn_pieces [] all = []
fn_pieces (f ∷ fs) [] = fn_piece f [] ∷ fn_pieces fs []
fn_pieces (f ∷ fs) (notes ∷ all) = fn_piece f notes ∷ fn_pieces fs all

abbrev pub type_pieces : List TypeDecl → List Func → List (List Note) → List Piece
type_pieces ts fs all = map type_piece ts ++ fn_pieces fs all

abbrev pub pieces_of : Program → List (List Note) → List Piece
pieces_of p all = map a_set p.sets ++ type_pieces p.types p.fns all

-- ---- pieces that are all there and right

pub record AreGood (o : Bool) (t : Program) (phase left : ℕ) (ps : List Piece) (ds : List Data) : Type 0 where
  pub are : ArePieces o t phase left ps []
  pub whole : are_whole ps ≡ true
  pub right : (at : ℕ) → wrong_pieces at ps ≡ None
  pub made : pieces_data o t ps ≡ ds

both_true : (a b : Bool) → a ≡ true → b ≡ true → (a && b) ≡ true
both_true a b p q = ap (λ x. x && b) p ∙ q

nothing_good : (o : Bool) (t : Program) (phase left : ℕ) → AreGood o t phase left [] []
nothing_good o t phase zero = record { are = tt; whole = refl; right = λ at. refl; made = refl }
nothing_good o t phase (suc left) = record { are = tt; whole = refl; right = λ at. refl; made = refl }

consed : (o : Bool) (t : Program) (phase left : ℕ) (x : Piece) (xs : List Piece) (ds es : List Data) →
    IsPiece o t phase x (pieces_data o (with_piece t x) xs ++ []) →
    is_whole_piece x ≡ true → ((at : ℕ) → wrong_piece at x ≡ None) → piece_data o t x ≡ ds →
    AreGood o (with_piece t x) (phase_of x) left xs es → AreGood o t phase (suc left) (x ∷ xs) (ds ++ es)
consed o t phase left x xs ds es is w r m g = record {
  are = (is, (λ v. g.are), (λ v. absurd (true≢false (sym w ∙ v))));
  whole = both_true (is_whole_piece x) (are_whole xs) w g.whole;
  right = λ at. neither (wrong_piece at x) (wrong_pieces (at + length (piece_rows x)) xs) (r at) (g.right (at + length (piece_rows x)));
  made = ap (λ z. z ++ pieces_data o (with_piece t x) xs) m ∙ ap (λ z. ds ++ z) g.made;
}

-- ---- functions

module _ (o : Bool) (p t : Program) (ss : t.sets ≡ p.sets) (ts : t.types ≡ p.types) where
  abbrev tables : List SetDecl → List TypeDecl → Program
  tables xs ys = record { sets = xs; types = ys; fns = []; main = 0 }

  pub same_shape : (f : FnRow) → head_shape o t f ≡ head_shape o p f
  same_shape f = ap (λ xs. head_shape o (tables xs t.types) f) ss ∙ ap (λ ys. head_shape o (tables p.sets ys) f) ts

  pub same_bounds : (f : FnRow) → has_known_bounds t f ≡ has_known_bounds p f
  same_bounds f = ap (λ xs. has_known_bounds (tables xs t.types) f) ss ∙ ap (λ ys. has_known_bounds (tables p.sets ys) f) ts

  external_good : (phase left : ℕ) (f : Func) (notes : List Note) (xs : List Piece) (es : List Data) → nat_le phase 2 ≡ true →
      f.external ≡ true → FitsFunction o p f notes → AreGood o t 2 left xs es →
      AreGood o t phase (suc left) (an_external (fn_row f) ∷ xs) (map (row_data (fn_shape o p f)) (function_rows f notes) ++ es)
  external_good phase left f notes xs es order is fits g =
      consed o t phase left (an_external (fn_row f)) xs (map (row_data (fn_shape o p f)) (function_rows f notes)) es
      (record {
        in_order = order;
        bounds = same_bounds (fn_row f) ∙ fits.bounds;
        rows = (
          subst (λ w. FitsRow w (external (fn_row f))) (sym (same_shape (fn_row f)))
              (subst (λ b. FitsRow (fn_shape o p f) (if b then external (fn_row f) else function (fn_row f))) is fits.rows.0),
          tt,
        );
        said = tt;
      })
      refl (λ at. refl)
      (ap (λ w. row_data w (external (fn_row f)) ∷ []) (same_shape (fn_row f))
      ∙ ap (λ b. row_data (fn_shape o p f) (if b then external (fn_row f) else function (fn_row f)) ∷ []) (sym is)
      ∙ ap (λ body. row_data (fn_shape o p f) (if f.external then external (fn_row f) else function (fn_row f)) ∷
      map (row_data (fn_shape o p f)) (list_rows (list_draft (maps_of notes) 0 body))) (sym (fits.blank is)))
      g

  function_good : (phase left : ℕ) (f : Func) (notes : List Note) (xs : List Piece) (es : List Data) → nat_le phase 2 ≡ true →
      f.external ≡ false → FitsFunction o p f notes → AreGood o t 2 left xs es →
      AreGood o t phase (suc left) (a_function (fn_row f) (body_draft f notes) ∷ xs) (map (row_data (fn_shape o p f)) (function_rows f notes) ++ es)
  function_good phase left f notes xs es order is fits g =
      consed o t phase left (a_function (fn_row f) (body_draft f notes)) xs (map (row_data (fn_shape o p f)) (function_rows f notes)) es
      (record {
        in_order = order;
        bounds = same_bounds (fn_row f) ∙ fits.bounds;
        rows = subst (λ w. All (FitsRow w) (function (fn_row f) ∷ list_rows (body_draft f notes))) (sym (same_shape (fn_row f)))
            (subst (λ b. All (FitsRow (fn_shape o p f)) ((if b then external (fn_row f) else function (fn_row f)) ∷
            list_rows (body_draft f notes))) is fits.rows);
        said = list_takes (maps_of notes) 0 1 f.body (map (row_part (head_shape o t (fn_row f))).of_data (pieces_data o t xs ++ [])) fits.depth;
      })
      (list_whole (maps_of notes) 0 f.body) (λ at. list_right (maps_of notes) 0 (suc at) f.body)
      (ap (λ w. map (row_data w) (function (fn_row f) ∷ list_rows (body_draft f notes))) (same_shape (fn_row f))
      ∙ ap (λ b. map (row_data (fn_shape o p f)) ((if b then external (fn_row f) else function (fn_row f)) ∷
      list_rows (body_draft f notes))) (sym is))
      g

  fn_good : (phase left : ℕ) (f : Func) (notes : List Note) (xs : List Piece) (es : List Data) → nat_le phase 2 ≡ true →
      FitsFunction o p f notes → AreGood o t 2 left xs es →
      AreGood o t phase (suc left) (fn_piece f notes ∷ xs) (map (row_data (fn_shape o p f)) (function_rows f notes) ++ es)
  fn_good phase left f notes xs es order fits g = by f.external refl
    where
      by : (b : Bool) → f.external ≡ b → AreGood o t phase (suc left)
          ((if b then an_external (fn_row f) else a_function (fn_row f) (body_draft f notes)) ∷ xs)
          (map (row_data (fn_shape o p f)) (function_rows f notes) ++ es)
      by true is = external_good phase left f notes xs es order is fits g
      by false is = function_good phase left f notes xs es order is fits g

  fns_good : (phase left : ℕ) (fs : List Func) (all : List (List Note)) → nat_le phase 2 ≡ true → length fs ≤ left →
      FitFunctions o p fs all → AreGood o t phase left (fn_pieces fs all) (functions_data o p fs all)
  fns_good phase left [] [] order few fits = nothing_good o t phase left
  fns_good phase left [] (n ∷ all) order few fits = absurd fits
  fns_good phase left (f ∷ fs) [] order few fits = absurd fits
  fns_good phase zero (f ∷ fs) (notes ∷ all) order few fits = absurd (omega (arith, few))
  fns_good phase (suc left) (f ∷ fs) (notes ∷ all) order few fits =
      fn_good phase left f notes (fn_pieces fs all) (functions_data o p fs all) order fits.0 (fns_good 2 left fs all refl (omega (arith, few)) fits.1)

-- ---- types

pub flat_cons : (d : TypeDecl) (ts : List TypeDecl) → flat_map type_rows (d ∷ ts) ≡ type_rows d ++ flat_map type_rows ts
flat_cons d ts = refl

module _ (o : Bool) (p : Program) (fs : List Func) (all : List (List Note)) (fits : FitFunctions o p fs all) where
  abbrev plain : Shape
  plain = shape o None

  type_good : (t : Program) (phase left : ℕ) (d : TypeDecl) (xs : List Piece) (es : List Data) → nat_le phase 1 ≡ true →
      All (FitsRow plain) (type_rows d) →
      AreGood o (record t { types = t.types ++ d ∷ [] }) 1 left xs es →
      AreGood o t phase (suc left) (type_piece d ∷ xs) (map (row_data plain) (type_rows d) ++ es)
  type_good t phase left (core.an_abstract name set) xs es order h g =
      consed o t phase left (an_abstract name set) xs (map (row_data plain) (type_rows (core.an_abstract name set))) es
      (record { in_order = order; bounds = refl; rows = h; said = tt }) refl (λ at. refl) refl g
  type_good t phase left (core.a_struct d) xs es order h g =
      consed o t phase left (a_struct d) xs (map (row_data plain) (type_rows (core.a_struct d))) es
      (record { in_order = order; bounds = refl; rows = h; said = tt }) refl (λ at. refl) refl g
  type_good t phase left (core.a_variant d) xs es order h g =
      consed o t phase left (a_variant d.name d.header (length d.cases) d.cases) xs (map (row_data plain) (type_rows (core.a_variant d))) es
      (record { in_order = order; bounds = refl; rows = h; said = (omega arith, (λ l. absurd (omega (arith, l)))) })
      (same (length d.cases)) (λ at. refl) refl g
    where
      same : (n : ℕ) → (n == n) ≡ true
      same n = grind (arith, nat_tests)

  types_good : (ts : List TypeDecl) (t : Program) (phase left : ℕ) → t.sets ≡ p.sets → t.types ++ ts ≡ p.types → phase ≤ 1 →
      length ts + length fs ≤ left → All (FitsRow plain) (flat_map type_rows ts) →
      AreGood o t phase left (type_pieces ts fs all) (map (row_data plain) (flat_map type_rows ts) ++ functions_data o p fs all)
  types_good [] t phase left ss ys order few h = fns_good o p t ss (sym (no_end t.types) ∙ ys) phase left fs all
      (le-leb phase 2 (omega (arith, order))) (omega (arith, few)) fits
  types_good (d ∷ ts) t phase zero ss ys order few h = absurd (omega (arith, few))
  types_good (d ∷ ts) t phase (suc left) ss ys order few h =
      subst (AreGood o t phase (suc left) (type_pieces (d ∷ ts) fs all)) made
      (type_good t phase left d (type_pieces ts fs all) (map (row_data plain) (flat_map type_rows ts) ++
      functions_data o p fs all) (le-leb phase 1 order)
      (all_left (FitsRow plain) (type_rows d) (flat_map type_rows ts) h)
      (types_good ts (record t { types = t.types ++ d ∷ [] }) 1 left ss (joined t.types (d ∷ []) ts ∙ ys) (omega arith)
      (omega (arith, few)) (all_right (FitsRow plain) (type_rows d) (flat_map type_rows ts) h)))
    where
      made : map (row_data plain) (type_rows d) ++ (map (row_data plain) (flat_map type_rows ts) ++
          functions_data o p fs all) ≡ map (row_data plain) (type_rows d ++ flat_map type_rows ts) ++ functions_data o p fs all
      made = sym (joined (map (row_data plain) (type_rows d)) (map (row_data plain) (flat_map type_rows ts)) (functions_data o p fs all))
          ∙ ap (λ z. z ++ functions_data o p fs all) (sym (map_joined (row_data plain) (type_rows d) (flat_map type_rows ts)))

  pub sets_good : (ds : List SetDecl) (t : Program) (left : ℕ) → t.sets ++ ds ≡ p.sets → t.types ≡ [] →
      length ds + length p.types + length fs ≤ left → All (FitsRow plain) (map states ds) →
      All (FitsRow plain) (flat_map type_rows p.types) →
      AreGood o t 0 left (map a_set ds ++ type_pieces p.types fs all) (map (row_data plain) (map states ds) ++
      (map (row_data plain) (flat_map type_rows p.types) ++ functions_data o p fs all))
  sets_good [] t left ss none few h k =
      types_good p.types t 0 left (sym (no_end t.sets) ∙ ss) (ap (λ z. z ++ p.types) none) (omega arith) (omega (arith, few)) k
  sets_good (d ∷ ds) t zero ss none few h k = absurd (omega (arith, few))
  sets_good (d ∷ ds) t (suc left) ss none few h k =
      consed o t 0 left (a_set d) (map a_set ds ++ type_pieces p.types fs all) (row_data plain (states d) ∷ [])
      (map (row_data plain) (map states ds) ++ (map (row_data plain) (flat_map type_rows p.types) ++ functions_data o p fs all))
      (record { in_order = refl; bounds = refl; rows = (h.0, tt); said = tt }) refl (λ at. refl) refl
      (sets_good ds (record t { sets = t.sets ++ d ∷ [] }) left (joined t.sets (d ∷ []) ds ∙ ss) none (omega (arith, few)) h.1 k)
