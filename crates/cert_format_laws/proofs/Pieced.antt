-- Values always say some declarations, as far as they go.
use Rattle.std.proofs.Common.{◌≡◌, ◌≤◌, ◌<◌, refl, sym, ap, ◌∙◌, subst, ℕ, zero, suc, nat_le, ◌&&◌, Bool, true, false, true≢false, List, [], ◌∷◌, ◌++◌, map, length, Option, Some, None, arith}
use Rattle.serde_json.specs.Data.{Data}
use Rattle.vlt_core.specs.Core.{CaseDecl, Program}
use Rattle.cert_rows.specs.Parts.{All}
use Rattle.cert_rows.specs.Rows.{FnRow, Row, states, abstract_type, struct_type, variant_type, case_of, function, external, row_data, FitsRow, row_part}
use Rattle.cert_format.specs.Drafts.{Rest, list_rows, AreTaken}
use Rattle.cert_format.specs.Certificate.{shape}
use Rattle.cert_format.specs.Pieces.{Piece, a_set, an_abstract, a_struct, a_variant, an_external, a_function, phase_of, is_whole_piece, with_piece, head_shape, has_known_bounds, piece_data, pieces_data, is_case, BeginsNoCase, IsPiece, is_begun, ArePieces}
use Rattle.cert_format_laws.proofs.Decoding.{joined, row_said, Decoded, decoded}
use Rattle.cert_format_laws.proofs.Existing.{Listed, listed}

-- ---- cases

record Cased (o : Bool) (count : ℕ) (ds : List Data) : Type 0 where
  cases : List CaseDecl
  rest : List Data
  made : ds ≡ map (row_data (shape o None)) (map case_of cases) ++ rest
  few : length cases ≤ count
  stops : length cases < count → BeginsNoCase o rest
  fits : All (FitsRow (shape o None)) (map case_of cases)

one_more : (o : Bool) (n : ℕ) (d : Data) (ds : List Data) (c : CaseDecl) →
    (row_part (shape o None)).of_data d ≡ Some (case_of c) → Cased o n ds → Cased o (suc n) (d ∷ ds)
one_more o n d ds c is x =
    let here = row_said (shape o None) d (case_of c) is in
    record {
      cases = c ∷ x.cases;
      rest = x.rest;
      made = ap (λ z. z ∷ ds) here.0 ∙ ap (λ z. row_data (shape o None) (case_of c) ∷ z) x.made;
      few = let h = x.few in omega (arith, h);
      stops = λ l. x.stops (omega (arith, l));
      fits = (here.1, x.fits);
    }

no_more : (o : Bool) (n : ℕ) (d : Data) (ds : List Data) → is_case ((row_part (shape o None)).of_data d) ≡ false → Cased o (suc n) (d ∷ ds)
no_more o n d ds is = record { cases = []; rest = d ∷ ds; made = refl; few = omega arith; stops = λ l. is; fits = tt }

by_row : (o : Bool) (n : ℕ) (d : Data) (ds : List Data) (r : Option Row) → (row_part (shape o None)).of_data d ≡ r →
    Cased o n ds → Cased o (suc n) (d ∷ ds)
by_row o n d ds (Some (case_of c)) is x = one_more o n d ds c is x
by_row o n d ds r is x = no_more o n d ds (ap is_case is)

cased : (o : Bool) (count : ℕ) (ds : List Data) → Cased o count ds
cased o zero ds = record { cases = []; rest = ds; made = refl; few = omega arith; stops = λ l. absurd (omega (arith, l)); fits = tt }
cased o (suc n) [] = record { cases = []; rest = []; made = refl; few = omega arith; stops = λ l. tt; fits = tt }
cased o (suc n) (d ∷ ds) = by_row o n d ds ((row_part (shape o None)).of_data d) refl (cased o n ds)

-- ---- the first piece

record First (o : Bool) (t : Program) (phase : ℕ) (ds : List Data) : Type 0 where
  piece : Piece
  rest : List Data
  made : ds ≡ piece_data o t piece ++ rest
  are : IsPiece o t phase piece rest

both : (a b : Bool) → (a && b) ≡ true → (a ≡ true) × (b ≡ true)
both true b e = (refl, e)
both false b e = absurd (true≢false (sym e))

body_first : (o : Bool) (t : Program) (phase : ℕ) (d : Data) (ds : List Data) (f : FnRow) →
    (row_part (shape o None)).of_data d ≡ Some (function f) → nat_le phase 2 ≡ true → has_known_bounds t f ≡ true →
    First o t phase (d ∷ ds)
body_first o t phase d ds f is order bounds = by (listed (suc (length rs)) 1 f.6 rs (omega arith))
  where
    rs : Rest
    rs = map (row_part (head_shape o t f)).of_data ds

    here : (d ≡ row_data (shape o None) (function f)) × FitsRow (shape o None) (function f)
    here = row_said (shape o None) d (function f) is

    make : (x : Listed 1 f.6 rs) → Decoded (head_shape o t f) (list_rows x.drafts) ds x.more → First o t phase (d ∷ ds)
    make x y = record {
      piece = a_function f x.drafts;
      rest = y.rest;
      made = ap (λ z. z ∷ ds) here.0 ∙ ap (λ z. row_data (head_shape o t f) (function f) ∷ z) y.made;
      are = record {
        in_order = order;
        bounds = bounds;
        rows = (here.1, y.fits);
        said = subst (AreTaken 1 f.6 x.drafts) (sym y.following) x.taken;
      };
    }

    by : Listed 1 f.6 rs → First o t phase (d ∷ ds)
    by x = make x (decoded (head_shape o t f) (list_rows x.drafts) ds x.more x.rows)

first : (o : Bool) (t : Program) (phase : ℕ) (d : Data) (ds : List Data) (r : Option Row) →
    (row_part (shape o None)).of_data d ≡ r → is_begun t phase r ≡ true → First o t phase (d ∷ ds)
first o t phase d ds (Some (states x)) is begun =
    let here = row_said (shape o None) d (states x) is in
    record {
      piece = a_set x;
      rest = ds;
      made = ap (λ z. z ∷ ds) here.0;
      are =
          record { in_order = begun; bounds = refl; rows = (here.1, tt); said = tt };
    }
first o t phase d ds (Some (abstract_type name set)) is begun =
    let here = row_said (shape o None) d (abstract_type name set) is in
    record {
      piece = an_abstract name set;
      rest = ds;
      made = ap (λ z. z ∷ ds) here.0;
      are =
          record { in_order = begun; bounds = refl; rows = (here.1, tt); said = tt };
    }
first o t phase d ds (Some (struct_type x)) is begun =
    let here = row_said (shape o None) d (struct_type x) is in
    record {
      piece = a_struct x;
      rest = ds;
      made = ap (λ z. z ∷ ds) here.0;
      are =
          record { in_order = begun; bounds = refl; rows = (here.1, tt); said = tt };
    }
first o t phase d ds (Some (variant_type name h count)) is begun =
    let here = row_said (shape o None) d (variant_type name h count) is in
    let x = cased o count ds in
    record {
      piece = a_variant name h count x.cases;
      rest = x.rest;
      made = ap (λ z. z ∷ ds) here.0 ∙ ap (λ z. row_data (shape o None) (variant_type name h count) ∷ z) x.made;
      are = record { in_order = begun; bounds = refl; rows = (here.1, x.fits); said = (x.few, x.stops) };
    }
first o t phase d ds (Some (external f)) is begun =
    let here = row_said (shape o None) d (external f) is in
    let so = both (nat_le phase 2) (has_known_bounds t f) begun in
    record {
      piece = an_external f;
      rest = ds;
      made = ap (λ z. z ∷ ds) here.0;
      are =
          record { in_order = so.0; bounds = so.1; rows = (here.1, tt); said = tt };
    }
first o t phase d ds (Some (function f)) is begun =
    let so = both (nat_le phase 2) (has_known_bounds t f) begun in
    body_first o t phase d ds f is so.0 so.1
first o t phase d ds None is begun = absurd (true≢false (sym begun))
first o t phase d ds (Some r) is begun = absurd (true≢false (sym begun))

-- ---- all pieces

pub record Pieced (o : Bool) (t : Program) (phase left : ℕ) (ds : List Data) : Type 0 where
  pub pieces : List Piece
  pub more : List Data
  pub made : ds ≡ pieces_data o t pieces ++ more
  pub are : ArePieces o t phase left pieces more

go_on : (o : Bool) (t : Program) (phase left : ℕ) (ds : List Data) (x : First o t phase ds) →
    Pieced o (with_piece t x.piece) (phase_of x.piece) left x.rest → Pieced o t phase (suc left) ds
go_on o t phase left ds x y = either (is_whole_piece x.piece) refl
  where
    at_pieces : (zs : List Data) → x.rest ≡ zs → IsPiece o t phase x.piece zs
    at_pieces zs e = subst (IsPiece o t phase x.piece) e x.are

    either : (w : Bool) → is_whole_piece x.piece ≡ w → Pieced o t phase (suc left) ds
    either true is = record {
      pieces = x.piece ∷ y.pieces;
      more = y.more;
      made = x.made ∙ ap (λ z. piece_data o t x.piece ++ z) y.made ∙
          sym (joined (piece_data o t x.piece) (pieces_data o (with_piece t x.piece) y.pieces) y.more);
      are = (at_pieces (pieces_data o (with_piece t x.piece) y.pieces ++ y.more) y.made, (λ w. y.are), (λ w. absurd (true≢false (sym is ∙ w))));
    }
    either false is = record {
      pieces = x.piece ∷ [];
      more = x.rest;
      made = x.made ∙ sym (joined (piece_data o t x.piece) [] x.rest);
      are = (x.are, (λ w. absurd (true≢false (sym w ∙ is))), (λ w. refl));
    }

pub pieced : (left : ℕ) (o : Bool) (t : Program) (phase : ℕ) (ds : List Data) → Pieced o t phase left ds
pieced zero o t phase ds = record { pieces = []; more = ds; made = refl; are = tt }
pieced (suc left) o t phase [] = record { pieces = []; more = []; made = refl; are = tt }
pieced (suc left) o t phase (d ∷ ds) = by (λ x. pieced left o (with_piece t x.piece) (phase_of x.piece) x.rest)
    (is_begun t phase ((row_part (shape o None)).of_data d)) refl
  where
    by : ((x : First o t phase (d ∷ ds)) → Pieced o (with_piece t x.piece) (phase_of x.piece) left x.rest) → (b : Bool) →
        is_begun t phase ((row_part (shape o None)).of_data d) ≡ b → Pieced o t phase (suc left) (d ∷ ds)
    by go true is = let x = first o t phase d ds ((row_part (shape o None)).of_data d) refl is in go_on o t phase left (d ∷ ds) x (go x)
    by go false is = record { pieces = []; more = d ∷ ds; made = refl; are = is }
