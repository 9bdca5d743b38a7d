-- Declarations that rows say are what reading them takes, so rows say one list of them.
use Rattle.std.proofs.Common.{◌≡◌, ◌≤◌, ◌<◌, ◌+◌, refl, sym, ap, ◌∙◌, ℕ, zero, suc, nat_le, ◌&&◌, Bool, true, false, true≢false, if◌then◌else◌, List, [], ◌∷◌, ◌++◌, map, length, drop, Option, Some, None, arith}
use Rattle.std.proofs.lemmas.List.{drop_at, length-map}
use Rattle.serde_json.specs.Data.{Data}
use Rattle.vlt_core.specs.Core.{CaseDecl, Program}
use Rattle.cert_rows.specs.Parts.{All}
use Rattle.cert_rows.specs.Rows.{FnRow, Row, states, abstract_type, struct_type, variant_type, case_of, function, external, row_data, FitsRow, row_part}
use Rattle.cert_rows.proofs.Rowed.{rows_are_read_as_written}
use Rattle.cert_format.specs.Drafts.{Drafts, Rest, list_rows, AreTaken}
use Rattle.cert_format_laws.proofs.Takes.{Taken, take_drafts}
use Rattle.cert_format.specs.Certificate.{shape}
use Rattle.cert_format.specs.Pieces.{Piece, a_set, an_abstract, a_struct, a_variant, an_external, a_function, phase_of, is_whole_piece, with_piece, head_shape, has_known_bounds, piece_data, pieces_data, is_case, BeginsNoCase, IsPiece, is_begun, ArePieces}
use Rattle.cert_format_laws.proofs.BodyRead.{need_list, taken_list}
use Rattle.cert_format_laws.proofs.Decoding.{joined, back_before}

-- ---- reading as a function

abbrev pub case_in : Option Row → Option CaseDecl
case_in (Some (case_of c)) = Some c
case_in _ = None

abbrev Cases : Type 0
Cases = List CaseDecl × List Data

abbrev first_case : Option CaseDecl → Cases → List Data → Cases
first_case None t ds = ([], ds)
first_case (Some c) t ds = (c ∷ t.0, t.1)

abbrev take_cases : (ordered : Bool) → (count : ℕ) → List Data → Cases
take_cases o zero ds = ([], ds)
take_cases o (suc n) [] = ([], [])
take_cases o (suc n) (d ∷ ds) = first_case (case_in ((row_part (shape o None)).of_data d)) (take_cases o n ds) (d ∷ ds)

-- a piece and the values after it
abbrev pub One : Type 0
One = Piece × List Data

abbrev of_cases : (Cases → Piece) → Cases → One
of_cases mk x = (mk x, x.1)

abbrev of_body : FnRow → Taken Drafts → List Data → One
of_body f x ds = (a_function f x.0, drop (length (list_rows x.0)) ds)

abbrev if_known : Bool → One → Option One
if_known b x = if b then Some x else None

-- so many calls for a body
abbrev take_piece : (calls : ℕ) → (ordered : Bool) → Program → Option Row → List Data → Option One
take_piece n o t (Some (states d)) ds = Some (a_set d, ds)
take_piece n o t (Some (abstract_type name set)) ds = Some (an_abstract name set, ds)
take_piece n o t (Some (struct_type d)) ds = Some (a_struct d, ds)
take_piece n o t (Some (variant_type name h count)) ds = Some (of_cases (λ x. a_variant name h count x.0) (take_cases o count ds))
take_piece n o t (Some (external f)) ds = if_known (has_known_bounds t f) (an_external f, ds)
take_piece n o t (Some (function f)) ds =
    if_known (has_known_bounds t f) (of_body f (take_drafts n 1 f.6 (map (row_part (head_shape o t f)).of_data ds)) ds)
take_piece n o t _ ds = None

abbrev in_phase : (phase : ℕ) → Option One → Option One
in_phase phase None = None
in_phase phase (Some x) = if nat_le phase (phase_of x.0) then Some x else None

abbrev pub Many : Type 0
Many = List Piece × List Data

abbrev then_pieces : Option One → (Piece → List Data → Many) → List Data → Many
then_pieces None go ds = ([], ds)
then_pieces (Some x) go ds = if is_whole_piece x.0 then (let u = go x.0 x.1 in (x.0 ∷ u.0, u.1)) else (x.0 ∷ [], x.1)

abbrev pub take_pieces : (calls : ℕ) → (ordered : Bool) → Program → (phase left : ℕ) → List Data → Many
take_pieces n o t phase zero ds = ([], ds)
take_pieces n o t phase (suc left) [] = ([], [])
take_pieces n o t phase (suc left) (d ∷ ds) =
    then_pieces (in_phase phase (take_piece n o t ((row_part (shape o None)).of_data d) ds))
    (λ x rest. take_pieces n o (with_piece t x) (phase_of x) left rest) (d ∷ ds)

-- ---- what it takes

abbrev need_piece : Piece → ℕ
need_piece (a_function f ss) = need_list ss
need_piece x = 0

abbrev need_pieces : List Piece → ℕ
need_pieces [] = 0
need_pieces (x ∷ xs) = need_piece x + need_pieces xs

not_begun : (n : ℕ) (o : Bool) (t : Program) (phase : ℕ) (r : Option Row) (ds : List Data) → is_begun t phase r ≡ false →
    in_phase phase (take_piece n o t r ds) ≡ None
not_begun n o t phase None ds is = refl
not_begun n o t phase (Some (states d)) ds is = ap (λ b. if b then Some (a_set d, ds) else None) is
not_begun n o t phase (Some (abstract_type name set)) ds is = ap (λ b. if b then Some (an_abstract name set, ds) else None) is
not_begun n o t phase (Some (struct_type d)) ds is = ap (λ b. if b then Some (a_struct d, ds) else None) is
not_begun n o t phase (Some (variant_type name h count)) ds is =
    ap (λ b. if b then Some (of_cases (λ x. a_variant name h count x.0) (take_cases o count ds)) else None) is
not_begun n o t phase (Some (external f)) ds is = neither (nat_le phase 2) (has_known_bounds t f) (an_external f, ds) refl is
  where
    neither : (a b : Bool) (x : One) → nat_le phase (phase_of x.0) ≡ a → (a && b) ≡ false → in_phase phase (if_known b x) ≡ None
    neither a false x e is = refl
    neither true true x e is = absurd (true≢false is)
    neither false true x e is = ap (λ c. if c then Some x else None) e
not_begun n o t phase (Some (function f)) ds is =
    neither (nat_le phase 2) (has_known_bounds t f) (of_body f (take_drafts n 1 f.6 (map (row_part (head_shape o t f)).of_data ds)) ds) refl is
  where
    neither : (a b : Bool) (x : One) → nat_le phase (phase_of x.0) ≡ a → (a && b) ≡ false → in_phase phase (if_known b x) ≡ None
    neither a false x e is = refl
    neither true true x e is = absurd (true≢false is)
    neither false true x e is = ap (λ c. if c then Some x else None) e
not_begun n o t phase (Some r) ds is = refl

-- ---- cases

no_case : (r : Option Row) → is_case r ≡ false → case_in r ≡ None
no_case (Some (case_of c)) is = absurd (true≢false is)
no_case r is = refl

cases_taken : (o : Bool) (count : ℕ) (cases : List CaseDecl) (rest : List Data) → length cases ≤ count →
    (length cases < count → BeginsNoCase o rest) → All (FitsRow (shape o None)) (map case_of cases) →
    take_cases o count (map (row_data (shape o None)) (map case_of cases) ++ rest) ≡ (cases, rest)
cases_taken o zero [] rest few stops fits = refl
cases_taken o zero (c ∷ cases) rest few stops fits = absurd (omega (arith, few))
cases_taken o (suc n) [] [] few stops fits = refl
cases_taken o (suc n) [] (d ∷ ds) few stops fits =
    ap (λ x. first_case x (take_cases o n ds) (d ∷ ds)) (no_case ((row_part (shape o None)).of_data d) (stops (omega arith)))
cases_taken o (suc n) (c ∷ cases) rest few stops fits =
    ap (λ r. first_case (case_in r) (take_cases o n (map (row_data (shape o None)) (map case_of cases) ++ rest))
    (row_data (shape o None) (case_of c) ∷ (map (row_data (shape o None)) (map case_of cases) ++ rest)))
    ((rows_are_read_as_written (shape o None)).back (case_of c) fits.0)
    ∙ ap (λ (x : Cases). (c ∷ x.0, x.1)) (cases_taken o n cases rest (omega (arith, few)) (λ l. stops (omega (arith, l))) fits.1)

-- ---- bodies

body_taken : (n : ℕ) (o : Bool) (t : Program) (f : FnRow) (ss : Drafts) (rest : List Data) → need_list ss ≤ n →
    All (FitsRow (head_shape o t f)) (list_rows ss) →
    AreTaken 1 f.6 ss (map (row_part (head_shape o t f)).of_data rest) →
    of_body f (take_drafts n 1 f.6 (map (row_part (head_shape o t f)).of_data (map (row_data (head_shape o t f)) (list_rows ss) ++
    rest))) (map (row_data (head_shape o t f)) (list_rows ss) ++ rest) ≡ (a_function f ss, rest)
body_taken n o t f ss rest h fits taken =
    ap (λ (ds : Rest). of_body f (take_drafts n 1 f.6 ds) (map (row_data (head_shape o t f)) (list_rows ss) ++ rest))
    (back_before (head_shape o t f) (list_rows ss) rest fits)
    ∙ ap (λ (x : Taken Drafts). of_body f x (map (row_data (head_shape o t f)) (list_rows ss) ++ rest))
    (taken_list ss n 1 f.6 (map (row_part (head_shape o t f)).of_data rest) h taken)
    ∙ ap (λ ds. (a_function f ss, ds)) (drop_at (map (row_data (head_shape o t f)) (list_rows ss)) rest (length (list_rows ss))
    (length-map (list_rows ss) (row_data (head_shape o t f))))

-- ---- a piece

known_so : (b : Bool) (x : One) → b ≡ true → if_known b x ≡ Some x
known_so b x is = ap (λ c. if c then Some x else None) is

phase_so : (phase : ℕ) (x : One) → nat_le phase (phase_of x.0) ≡ true → in_phase phase (Some x) ≡ Some x
phase_so phase x is = ap (λ c. if c then Some x else None) is

module _ (n : ℕ) (o : Bool) (t : Program) (phase : ℕ) (go : Piece → List Data → Many) where
  -- what is read of a row and the values after it
  abbrev reads : Option Row → (ds all : List Data) → Many
  reads r ds all = then_pieces (in_phase phase (take_piece n o t r ds)) go all

  row_taken : (r : Row) (ds all : List Data) → FitsRow (shape o None) r →
      reads ((row_part (shape o None)).of_data (row_data (shape o None) r)) ds all ≡ reads (Some r) ds all
  row_taken r ds all h = ap (λ x. reads x ds all) ((rows_are_read_as_written (shape o None)).back r h)

  abbrev first_of : List Data → Many
  first_of [] = ([], [])
  first_of (d ∷ ds) = reads ((row_part (shape o None)).of_data d) ds (d ∷ ds)

  ends_so : (x : Piece) (rest : List Data) → nat_le phase (phase_of x) ≡ true →
      then_pieces (in_phase phase (Some (x, rest))) go (piece_data o t x ++ rest) ≡ then_pieces (Some (x, rest)) go (piece_data o t x ++ rest)
  ends_so x rest is = ap (λ z. then_pieces z go (piece_data o t x ++ rest)) (phase_so phase (x, rest) is)

  piece_taken : (x : Piece) (rest : List Data) → need_piece x ≤ n → IsPiece o t phase x rest →
      first_of (piece_data o t x ++ rest) ≡ then_pieces (Some (x, rest)) go (piece_data o t x ++ rest)
  piece_taken (a_set d) rest h p = row_taken (states d) rest (piece_data o t (a_set d) ++ rest) p.rows.0 ∙ ends_so (a_set d) rest p.in_order
  piece_taken (an_abstract name set) rest h p =
      row_taken (abstract_type name set) rest (piece_data o t (an_abstract name set) ++ rest) p.rows.0 ∙
      ends_so (an_abstract name set) rest p.in_order
  piece_taken (a_struct d) rest h p =
      row_taken (struct_type d) rest (piece_data o t (a_struct d) ++ rest) p.rows.0 ∙ ends_so (a_struct d) rest p.in_order
  piece_taken (a_variant name k count cases) rest h p =
      row_taken (variant_type name k count) (map (row_data (shape o None)) (map case_of cases) ++ rest)
      (piece_data o t (a_variant name k count cases) ++ rest) p.rows.0
      ∙ ap (λ x. then_pieces (in_phase phase (Some (of_cases (λ c. a_variant name k count c.0) x))) go
      (piece_data o t (a_variant name k count cases) ++ rest))
      (cases_taken o count cases rest p.said.0 p.said.1 p.rows.1)
      ∙ ends_so (a_variant name k count cases) rest p.in_order
  piece_taken (an_external f) rest h p =
      row_taken (external f) rest (piece_data o t (an_external f) ++ rest) p.rows.0
      ∙ ap (λ x. then_pieces (in_phase phase x) go (piece_data o t (an_external f) ++ rest))
      (known_so (has_known_bounds t f) (an_external f, rest) p.bounds)
      ∙ ends_so (an_external f) rest p.in_order
  piece_taken (a_function f ss) rest h p =
      row_taken (function f) (map (row_data (head_shape o t f)) (list_rows ss) ++ rest) (piece_data o t (a_function f ss) ++ rest) p.rows.0
      ∙ ap (λ x. then_pieces (in_phase phase x) go (piece_data o t (a_function f ss) ++ rest))
      (known_so (has_known_bounds t f) (of_body f (take_drafts n 1 f.6
      (map (row_part (head_shape o t f)).of_data (map (row_data (head_shape o t f)) (list_rows ss) ++ rest)))
      (map (row_data (head_shape o t f)) (list_rows ss) ++ rest)) p.bounds)
      ∙ ap (λ x. then_pieces (in_phase phase (Some x)) go (piece_data o t (a_function f ss) ++ rest)) (body_taken n o t f ss rest h p.rows.1 p.said)
      ∙ ends_so (a_function f ss) rest p.in_order

-- ---- pieces

pub taken_pieces : (ps : List Piece) (n : ℕ) (o : Bool) (t : Program) (phase left : ℕ) (more : List Data) → need_pieces ps ≤ n →
    ArePieces o t phase left ps more →
    take_pieces n o t phase left (pieces_data o t ps ++ more) ≡ (ps, more)
taken_pieces [] n o t phase zero more h p = refl
taken_pieces [] n o t phase (suc left) [] h p = refl
taken_pieces [] n o t phase (suc left) (d ∷ ds) h p =
    ap (λ x. then_pieces x (λ x rest. take_pieces n o (with_piece t x) (phase_of x) left rest) (d ∷ ds))
    (not_begun n o t phase ((row_part (shape o None)).of_data d) ds p)
taken_pieces (x ∷ xs) n o t phase zero more h p = absurd p
taken_pieces (x ∷ xs) n o t phase (suc left) more h p =
    ap (take_pieces n o t phase (suc left)) (joined (piece_data o t x) (pieces_data o (with_piece t x) xs) more)
    ∙ starts x
    ∙ piece_taken n o t phase go x rest (omega (arith, h)) p.0
    ∙ ends (λ is. taken_pieces xs n o (with_piece t x) (phase_of x) left more (omega (arith, h)) (p.1 is)) (is_whole_piece x) refl
  where
    rest : List Data
    rest = pieces_data o (with_piece t x) xs ++ more

    go : Piece → List Data → Many
    go = λ x rest. take_pieces n o (with_piece t x) (phase_of x) left rest

    starts : (y : Piece) → take_pieces n o t phase (suc left) (piece_data o t y ++ rest) ≡ first_of n o t phase go (piece_data o t y ++ rest)
    starts (a_set d) = refl
    starts (an_abstract name set) = refl
    starts (a_struct d) = refl
    starts (a_variant name k count cases) = refl
    starts (an_external f) = refl
    starts (a_function f ss) = refl

    cut : xs ≡ [] → (let r : Many = (x ∷ [], rest) in r) ≡ (x ∷ xs, more)
    cut none = ap (λ ys. (x ∷ [], pieces_data o (with_piece t x) ys ++ more)) none ∙ ap (λ ys. (x ∷ ys, more)) (sym none)

    ends : (is_whole_piece x ≡ true → go x rest ≡ (xs, more)) → (b : Bool) → is_whole_piece x ≡ b →
        then_pieces (Some (x, rest)) go (piece_data o t x ++ rest) ≡ (x ∷ xs, more)
    ends ih true is = ap (λ b. if b then (let u : Many = go x rest in (x ∷ u.0, u.1)) else (x ∷ [], rest)) is
        ∙ ap (λ (u : Many). (x ∷ u.0, u.1)) (ih is)
    ends ih false is = ap (λ b. if b then (let u : Many = go x rest in (x ∷ u.0, u.1)) else (x ∷ [], rest)) is ∙ cut (p.2 is)

-- rows say one list of declarations
pub one_list : (o : Bool) (t : Program) (phase left : ℕ) (ps qs : List Piece) (more rest : List Data) →
    ArePieces o t phase left ps more → ArePieces o t phase left qs rest →
    pieces_data o t ps ++ more ≡ pieces_data o t qs ++ rest → (ps ≡ qs) × (more ≡ rest)
one_list o t phase left ps qs more rest p q same =
    let n = need_pieces ps + need_pieces qs in
    let e = sym (taken_pieces ps n o t phase left more (omega arith) p) ∙ ap (take_pieces n o t phase left) same ∙
    taken_pieces qs n o t phase left rest (omega arith) q in
    (ap (λ (x : Many). x.0) e, ap (λ (x : Many). x.1) e)
