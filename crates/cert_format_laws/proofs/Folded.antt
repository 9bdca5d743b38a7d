-- Declarations that are all there and right are those of a program that has a certificate.
use Rattle.std.proofs.Common.{◌≡◌, ◌≤◌, ◌<◌, ◌+◌, refl, sym, ap, ◌∙◌, subst, ℕ, zero, suc, nat_le, ◌==◌, Bool, true, false, true≢false, List, [], ◌∷◌, ◌++◌, map, length, None, arith}
use Rattle.std.specs.List.{flat_map}
use Rattle.std.proofs.lemmas.Bool.Decides.{nat_tests}
use Rattle.serde_json.specs.Data.{Data}
use Rattle.vlt_core.specs.Core as core
use Rattle.vlt_core.specs.Core.{TypeDecl, Program}
use Rattle.cert_format.specs.Places.{unplaced_func}
use Rattle.cert_rows.specs.Parts.{All}
use Rattle.cert_rows.specs.Values.{Shape}
use Rattle.cert_rows.specs.Rows.{FnRow, states, abstract_type, struct_type, variant_type, case_of, function, external, row_data, FitsRow, row_part}
use Rattle.cert_format.specs.Drafts.{Drafts, list_rows, is_whole_list}
use Rattle.cert_format.specs.Notes.{maps_of}
use Rattle.cert_format.specs.Bodies.{list_draft, core_list, list_notes}
use Rattle.cert_format.specs.Endings.{wrong_list}
use Rattle.cert_format.specs.Certificate.{shape, fn_shape, type_rows, fn_row, function_rows, functions_data, FitsFunction, FitFunctions}
use Rattle.cert_format.specs.Pieces.{Piece, a_set, an_abstract, a_struct, a_variant, an_external, a_function, piece_rows, with_piece, func_of, head_shape, piece_data, pieces_data, IsPiece, ArePieces, wrong_pieces, are_whole}
use Rattle.cert_format_laws.specs.Pieces.{type_in, sets_of, types_of, fns_of, all_of}
use Rattle.cert_format_laws.proofs.Decoding.{joined, no_end, map_joined, all_joined}
use Rattle.cert_format_laws.proofs.Noted.{all_said, notes_ascend}
use Rattle.cert_format_laws.proofs.Redrafted.{list_redrafted, list_within, list_bare, lengths_same, both_so, first_none}
use Rattle.cert_format_laws.proofs.Written.{same_shape, same_bounds}

-- ---- phases

not_back : {X : Type 0} (n phase : ℕ) → n < phase → nat_le phase n ≡ true → X
not_back n phase h is = absurd (true≢false (sym is ∙ grind (arith, nat_tests)))

-- no set comes after a type, and no type after a function
no_sets : (o : Bool) (ps : List Piece) (t : Program) (phase left : ℕ) → 1 ≤ phase → ArePieces o t phase left ps [] →
    are_whole ps ≡ true → sets_of ps ≡ []
no_sets o [] t phase left h p w = refl
no_sets o (x ∷ xs) t phase zero h p w = absurd p
no_sets o (a_set d ∷ xs) t phase (suc left) h p w = not_back 0 phase h p.0.in_order
no_sets o (an_abstract name set ∷ xs) t phase (suc left) h p w = no_sets o xs _ 1 left (omega arith) (p.1 refl) w
no_sets o (a_struct d ∷ xs) t phase (suc left) h p w = no_sets o xs _ 1 left (omega arith) (p.1 refl) w
no_sets o (a_variant name k count cases ∷ xs) t phase (suc left) h p w =
    let q = both_so (length cases == count) (are_whole xs) w in no_sets o xs _ 1 left (omega arith) (p.1 q.0) q.1
no_sets o (an_external f ∷ xs) t phase (suc left) h p w = no_sets o xs t 2 left (omega arith) (p.1 refl) w
no_sets o (a_function f ss ∷ xs) t phase (suc left) h p w =
    let q = both_so (is_whole_list f.6 ss) (are_whole xs) w in no_sets o xs t 2 left (omega arith) (p.1 q.0) q.1

no_types : (o : Bool) (ps : List Piece) (t : Program) (phase left : ℕ) → 2 ≤ phase → ArePieces o t phase left ps [] →
    are_whole ps ≡ true → types_of ps ≡ []
no_types o [] t phase left h p w = refl
no_types o (x ∷ xs) t phase zero h p w = absurd p
no_types o (a_set d ∷ xs) t phase (suc left) h p w = not_back 0 phase (omega (arith, h)) p.0.in_order
no_types o (an_abstract name set ∷ xs) t phase (suc left) h p w = not_back 1 phase h p.0.in_order
no_types o (a_struct d ∷ xs) t phase (suc left) h p w = not_back 1 phase h p.0.in_order
no_types o (a_variant name k count cases ∷ xs) t phase (suc left) h p w = not_back 1 phase h p.0.in_order
no_types o (an_external f ∷ xs) t phase (suc left) h p w = no_types o xs t 2 left (omega arith) (p.1 refl) w
no_types o (a_function f ss ∷ xs) t phase (suc left) h p w =
    let q = both_so (is_whole_list f.6 ss) (are_whole xs) w in no_types o xs t 2 left (omega arith) (p.1 q.0) q.1

-- ---- one function

none : (n : ℕ) → n ≤ 0 → n ≡ 0
none n h = omega arith

same_count : (m n : ℕ) → (m == n) ≡ true → m ≡ n
same_count m n is = grind (arith, nat_tests)

module _ (o : Bool) (p t : Program) (ss : t.sets ≡ p.sets) (ts : t.types ≡ p.types) where
  external_fits : (phase : ℕ) (f : FnRow) (rest : List Data) → IsPiece o t phase (an_external f) rest → FitsFunction o p (func_of true f core.done) []
  external_fits phase f rest x = record {
    rows = (
      subst (λ w. FitsRow w (external (fn_row (func_of true f core.done)))) (same_shape o p t ss ts f)
          (subst (λ n. FitsRow (head_shape o t f) (external (f.0, f.1, f.2, f.3, f.4, f.5, n))) (none f.6 x.rows.0.6) x.rows.0),
      tt,
    );
    depth = tt;
    blank = λ e. refl;
    bounds = sym (same_bounds o p t ss ts f) ∙ x.bounds;
    listed = refl;
  }

  external_made : (phase : ℕ) (f : FnRow) (rest : List Data) → IsPiece o t phase (an_external f) rest →
      piece_data o t (an_external f) ≡ map (row_data (fn_shape o p (func_of true f core.done))) (function_rows (func_of true f core.done) [])
  external_made phase f rest x =
      ap (λ w. row_data w (external f) ∷ []) (same_shape o p t ss ts f)
      ∙ ap (λ n. row_data (head_shape o p f) (external (f.0, f.1, f.2, f.3, f.4, f.5, n)) ∷ []) (none f.6 x.rows.0.6)

  module _ (phase : ℕ) (f : FnRow) (xs : Drafts) (rest : List Data) (x : IsPiece o t phase (a_function f xs) rest)
      (w : is_whole_list f.6 xs ≡ true) (at : ℕ) (r : wrong_list at xs ≡ None) where
    redraft : list_draft (maps_of (list_notes 0 xs)) 0 (core_list xs) ≡ xs
    redraft = list_redrafted (maps_of (list_notes 0 xs)) 0 at 1 f.6 xs (map (row_part (head_shape o t f)).of_data rest) w x.said r
        (all_said (list_notes 0 xs) 0 (notes_ascend xs))

    row_same : fn_row (func_of false f (core_list xs)) ≡ f
    row_same = ap (λ n. (f.0, f.1, f.2, f.3, f.4, f.5, n)) (lengths_same f.6 xs w)

    function_fits : FitsFunction o p (func_of false f (core_list xs)) (list_notes 0 xs)
    function_fits = record {
      rows = subst (λ v. All (FitsRow v) (function_rows (func_of false f (core_list xs)) (list_notes 0 xs))) (same_shape o p t ss ts f)
          (subst (λ g. All (FitsRow (head_shape o t f)) (function g ∷
          list_rows (list_draft (maps_of (list_notes 0 xs)) 0 (core_list xs)))) (sym row_same)
          (subst (λ ys. All (FitsRow (head_shape o t f)) (function f ∷ list_rows ys)) (sym redraft) x.rows));
      depth = list_within 1 f.6 xs (map (row_part (head_shape o t f)).of_data rest) w x.said;
      blank = λ e. absurd (true≢false (sym e));
      bounds = sym (same_bounds o p t ss ts f) ∙ x.bounds;
      listed = ap (list_notes 0) (sym redraft);
    }

    function_made : piece_data o t (a_function f xs) ≡ map (row_data (fn_shape o p (func_of false f (core_list xs))))
        (function_rows (func_of false f (core_list xs)) (list_notes 0 xs))
    function_made =
        ap (λ v. map (row_data v) (function f ∷ list_rows xs)) (same_shape o p t ss ts f)
        ∙ ap (λ g. map (row_data (head_shape o p f)) (function g ∷ list_rows xs)) (sym row_same)
        ∙ ap (λ ys. map (row_data (head_shape o p f)) (function (fn_row (func_of false f (core_list xs))) ∷ list_rows ys)) (sym redraft)

-- ---- all functions

module _ (o : Bool) (p : Program) where
  abbrev Tables : Program → List Piece → Type 0
  Tables t ps = (p.sets ≡ t.sets ++ sets_of ps) × (p.types ≡ t.types ++ types_of ps)

  -- the tables are complete before the first function
  full_sets : (ps : List Piece) (t : Program) (left : ℕ) → ArePieces o t 2 left ps [] → are_whole ps ≡ true → p.sets ≡ t.sets ++
      sets_of ps → t.sets ≡ p.sets
  full_sets ps t left a w e = sym (e ∙ ap (λ z. t.sets ++ z) (no_sets o ps t 2 left (omega arith) a w) ∙ no_end t.sets)

  full_types : (ps : List Piece) (t : Program) (left : ℕ) → ArePieces o t 2 left ps [] → are_whole ps ≡ true →
      p.types ≡ t.types ++ types_of ps → t.types ≡ p.types
  full_types ps t left a w e = sym (e ∙ ap (λ z. t.types ++ z) (no_types o ps t 2 left (omega arith) a w) ∙ no_end t.types)

  pub fns_fit : (ps : List Piece) (t : Program) (phase left at : ℕ) → ArePieces o t phase left ps [] → are_whole ps ≡ true →
      wrong_pieces at ps ≡ None → Tables t ps → FitFunctions o p (fns_of ps) (all_of ps)
  fns_fit [] t phase left at a w r e = tt
  fns_fit (x ∷ xs) t phase zero at a w r e = absurd a
  fns_fit (a_set d ∷ xs) t phase (suc left) at a w r e =
      fns_fit xs (with_piece t (a_set d)) 0 left (at + 1) (a.1 refl) w r (e.0 ∙ sym (joined t.sets (d ∷ []) (sets_of xs)), e.1)
  fns_fit (an_abstract name set ∷ xs) t phase (suc left) at a w r e =
      fns_fit xs (with_piece t (an_abstract name set)) 1 left (at + 1) (a.1 refl) w r (
        e.0,
        e.1 ∙
            sym (joined t.types (core.an_abstract name set ∷ []) (types_of xs)),
      )
  fns_fit (a_struct d ∷ xs) t phase (suc left) at a w r e =
      fns_fit xs (with_piece t (a_struct d)) 1 left (at + 1) (a.1 refl) w r (e.0, e.1 ∙ sym (joined t.types (core.a_struct d ∷ []) (types_of xs)))
  fns_fit (a_variant name k count cases ∷ xs) t phase (suc left) at a w r e =
      let q = both_so (length cases == count) (are_whole xs) w in
      fns_fit xs (with_piece t (a_variant name k count cases)) 1 left (at + length (piece_rows (a_variant name k count cases)))
      (a.1 q.0) q.1 r (e.0, e.1 ∙ sym (joined t.types (type_in (a_variant name k count cases)) (types_of xs)))
  fns_fit (an_external f ∷ xs) t phase (suc left) at a w r e = (
    external_fits o p t (full_sets xs t left (a.1 refl) w e.0) (full_types xs t left (a.1 refl) w e.1) phase f
        (pieces_data o t xs ++ []) a.0,
    fns_fit xs t 2 left (at + 1) (a.1 refl) w r e,
  )
  fns_fit (a_function f ss ∷ xs) t phase (suc left) at a w r e =
      let q = both_so (is_whole_list f.6 ss) (are_whole xs) w in
      let n = first_none (wrong_list (suc at) ss) (wrong_pieces (at + length (piece_rows (a_function f ss))) xs) r in (
        function_fits o p t (full_sets xs t left (a.1 q.0) q.1 e.0) (full_types xs t left (a.1 q.0) q.1 e.1) phase f ss
            (pieces_data o t xs ++ []) a.0 q.0 (suc at) n.0,
        fns_fit xs t 2 left (at + length (piece_rows (a_function f ss))) (a.1 q.0) q.1 n.1 e,
      )

  -- ---- sets and types

  abbrev plain : Shape
  plain = shape o None

  pub sets_fit : (ps : List Piece) (t : Program) (phase left : ℕ) → ArePieces o t phase left ps [] → are_whole ps ≡ true →
      All (FitsRow plain) (map states (sets_of ps))
  sets_fit [] t phase left a w = tt
  sets_fit (x ∷ xs) t phase zero a w = absurd a
  sets_fit (a_set d ∷ xs) t phase (suc left) a w = (a.0.rows.0, sets_fit xs _ 0 left (a.1 refl) w)
  sets_fit (an_abstract name set ∷ xs) t phase (suc left) a w = sets_fit xs _ 1 left (a.1 refl) w
  sets_fit (a_struct d ∷ xs) t phase (suc left) a w = sets_fit xs _ 1 left (a.1 refl) w
  sets_fit (a_variant name k count cases ∷ xs) t phase (suc left) a w =
      let q = both_so (length cases == count) (are_whole xs) w in sets_fit xs _ 1 left (a.1 q.0) q.1
  sets_fit (an_external f ∷ xs) t phase (suc left) a w = sets_fit xs _ 2 left (a.1 refl) w
  sets_fit (a_function f ss ∷ xs) t phase (suc left) a w =
      let q = both_so (is_whole_list f.6 ss) (are_whole xs) w in sets_fit xs _ 2 left (a.1 q.0) q.1

  pub types_fit : (ps : List Piece) (t : Program) (phase left : ℕ) → ArePieces o t phase left ps [] → are_whole ps ≡ true →
      All (FitsRow plain) (flat_map type_rows (types_of ps))
  types_fit [] t phase left a w = tt
  types_fit (x ∷ xs) t phase zero a w = absurd a
  types_fit (a_set d ∷ xs) t phase (suc left) a w = types_fit xs _ 0 left (a.1 refl) w
  types_fit (an_abstract name set ∷ xs) t phase (suc left) a w = (a.0.rows.0, types_fit xs _ 1 left (a.1 refl) w)
  types_fit (a_struct d ∷ xs) t phase (suc left) a w = (a.0.rows.0, types_fit xs _ 1 left (a.1 refl) w)
  types_fit (a_variant name k count cases ∷ xs) t phase (suc left) a w =
      let q = both_so (length cases == count) (are_whole xs) w in
      all_joined (FitsRow plain) (type_rows (core.a_variant (record { name = name; header = k; cases = cases }))) (flat_map type_rows (types_of xs))
      (subst (λ n. All (FitsRow plain) (variant_type name k n ∷ map case_of cases))
      (sym (same_count (length cases) count q.0)) a.0.rows) (types_fit xs _ 1 left (a.1 q.0) q.1)
  types_fit (an_external f ∷ xs) t phase (suc left) a w = types_fit xs _ 2 left (a.1 refl) w
  types_fit (a_function f ss ∷ xs) t phase (suc left) a w =
      let q = both_so (is_whole_list f.6 ss) (are_whole xs) w in types_fit xs _ 2 left (a.1 q.0) q.1

  pub few : (ps : List Piece) (t : Program) (phase left : ℕ) → ArePieces o t phase left ps [] → are_whole ps ≡ true →
      length (sets_of ps) + length (types_of ps) + length (fns_of ps) ≤ left
  few [] t phase left a w = omega arith
  few (x ∷ xs) t phase zero a w = absurd a
  few (a_set d ∷ xs) t phase (suc left) a w = let h = few xs _ 0 left (a.1 refl) w in omega (arith, h)
  few (an_abstract name set ∷ xs) t phase (suc left) a w = let h = few xs _ 1 left (a.1 refl) w in omega (arith, h)
  few (a_struct d ∷ xs) t phase (suc left) a w = let h = few xs _ 1 left (a.1 refl) w in omega (arith, h)
  few (a_variant name k count cases ∷ xs) t phase (suc left) a w =
      let q = both_so (length cases == count) (are_whole xs) w in let h = few xs _ 1 left (a.1 q.0) q.1 in omega (arith, h)
  few (an_external f ∷ xs) t phase (suc left) a w = let h = few xs _ 2 left (a.1 refl) w in omega (arith, h)
  few (a_function f ss ∷ xs) t phase (suc left) a w =
      let q = both_so (is_whole_list f.6 ss) (are_whole xs) w in let h = few xs _ 2 left (a.1 q.0) q.1 in omega (arith, h)

  pub unplaced_fns : (ps : List Piece) → map unplaced_func (fns_of ps) ≡ fns_of ps
  unplaced_fns [] = refl
  unplaced_fns (a_set d ∷ xs) = unplaced_fns xs
  unplaced_fns (an_abstract name set ∷ xs) = unplaced_fns xs
  unplaced_fns (a_struct d ∷ xs) = unplaced_fns xs
  unplaced_fns (a_variant name k count cases ∷ xs) = unplaced_fns xs
  unplaced_fns (an_external f ∷ xs) = ap (λ z. func_of true f core.done ∷ z) (unplaced_fns xs)
  unplaced_fns (a_function f ss ∷ xs) = ap (λ b. func_of false f b ∷ map unplaced_func (fns_of xs)) (list_bare ss) ∙
      ap (λ z. func_of false f (core_list ss) ∷ z) (unplaced_fns xs)

  -- ---- the values

  abbrev front_data : List Piece → List Data
  front_data ps = map (row_data plain) (map states (sets_of ps)) ++
      (map (row_data plain) (flat_map type_rows (types_of ps)) ++ functions_data o p (fns_of ps) (all_of ps))

  -- after types no sets
  typed : (d : TypeDecl) (xs : List Piece) → sets_of xs ≡ [] →
      map (row_data plain) (type_rows d) ++ front_data xs ≡ map (row_data plain) (map states (sets_of xs)) ++
      (map (row_data plain) (type_rows d ++ flat_map type_rows (types_of xs)) ++ functions_data o p (fns_of xs) (all_of xs))
  typed d xs none =
      ap (λ zs. map (row_data plain) (type_rows d) ++
      (map (row_data plain) (map states zs) ++ (map (row_data plain) (flat_map type_rows (types_of xs)) ++
      functions_data o p (fns_of xs) (all_of xs)))) none
      ∙ sym (joined (map (row_data plain) (type_rows d)) (map (row_data plain) (flat_map type_rows (types_of xs)))
      (functions_data o p (fns_of xs) (all_of xs)))
      ∙ ap (λ z. z ++ functions_data o p (fns_of xs) (all_of xs)) (sym (map_joined (row_data plain) (type_rows d) (flat_map type_rows (types_of xs))))
      ∙ ap (λ zs. map (row_data plain) (map states zs) ++
      (map (row_data plain) (type_rows d ++ flat_map type_rows (types_of xs)) ++ functions_data o p (fns_of xs) (all_of xs)))
      (sym none)

  -- after functions neither sets nor types
  function_after : (ds : List Data) (xs : List Piece) → sets_of xs ≡ [] → types_of xs ≡ [] →
      ds ++ front_data xs ≡ map (row_data plain) (map states (sets_of xs)) ++
      (map (row_data plain) (flat_map type_rows (types_of xs)) ++ (ds ++ functions_data o p (fns_of xs) (all_of xs)))
  function_after ds xs none no_type =
      ap (λ zs. ds ++ (map (row_data plain) (map states zs) ++
      (map (row_data plain) (flat_map type_rows (types_of xs)) ++ functions_data o p (fns_of xs) (all_of xs)))) none
      ∙ ap (λ zs. ds ++ (map (row_data plain) (flat_map type_rows zs) ++ functions_data o p (fns_of xs) (all_of xs))) no_type
      ∙ ap (λ zs. map (row_data plain) (flat_map type_rows zs) ++ (ds ++ functions_data o p (fns_of xs) (all_of xs))) (sym no_type)
      ∙ ap (λ zs. map (row_data plain) (map states zs) ++
      (map (row_data plain) (flat_map type_rows (types_of xs)) ++ (ds ++ functions_data o p (fns_of xs) (all_of xs))))
      (sym none)

  pub made : (ps : List Piece) (t : Program) (phase left at : ℕ) → ArePieces o t phase left ps [] → are_whole ps ≡ true →
      wrong_pieces at ps ≡ None → Tables t ps → pieces_data o t ps ≡ front_data ps
  made [] t phase left at a w r e = refl
  made (x ∷ xs) t phase zero at a w r e = absurd a
  made (a_set d ∷ xs) t phase (suc left) at a w r e =
      ap (λ z. row_data plain (states d) ∷ z) (made xs (with_piece t (a_set d)) 0 left (at + 1) (a.1 refl) w r (
        e.0 ∙
            sym (joined t.sets (d ∷ []) (sets_of xs)),
        e.1,
      ))
  made (an_abstract name set ∷ xs) t phase (suc left) at a w r e =
      ap (λ z. row_data plain (abstract_type name set) ∷ z)
      (made xs (with_piece t (an_abstract name set)) 1 left (at + 1) (a.1 refl) w r (
        e.0,
        e.1 ∙
            sym (joined t.types (core.an_abstract name set ∷ []) (types_of xs)),
      ))
      ∙ typed (core.an_abstract name set) xs (no_sets o xs (with_piece t (an_abstract name set)) 1 left (omega arith) (a.1 refl) w)
  made (a_struct d ∷ xs) t phase (suc left) at a w r e =
      ap (λ z. row_data plain (struct_type d) ∷ z) (made xs (with_piece t (a_struct d)) 1 left (at + 1) (a.1 refl) w r (
        e.0,
        e.1 ∙
            sym (joined t.types (core.a_struct d ∷ []) (types_of xs)),
      ))
      ∙ typed (core.a_struct d) xs (no_sets o xs (with_piece t (a_struct d)) 1 left (omega arith) (a.1 refl) w)
  made (a_variant name k count cases ∷ xs) t phase (suc left) at a w r e =
      let q = both_so (length cases == count) (are_whole xs) w in
      ap (λ n. row_data plain (variant_type name k n) ∷
      (map (row_data plain) (map case_of cases) ++ pieces_data o (with_piece t (a_variant name k count cases)) xs))
      (sym (same_count (length cases) count q.0))
      ∙ ap (λ z. row_data plain (variant_type name k (length cases)) ∷ (map (row_data plain) (map case_of cases) ++ z))
      (made xs (with_piece t (a_variant name k count cases)) 1 left (at + length (piece_rows (a_variant name k count cases)))
      (a.1 q.0) q.1 r (e.0, e.1 ∙ sym (joined t.types (type_in (a_variant name k count cases)) (types_of xs))))
      ∙ typed (core.a_variant (record { name = name; header = k; cases = cases })) xs
      (no_sets o xs (with_piece t (a_variant name k count cases)) 1 left (omega arith) (a.1 q.0) q.1)
  made (an_external f ∷ xs) t phase (suc left) at a w r e =
      ap (λ z. piece_data o t (an_external f) ++ z) (made xs t 2 left (at + 1) (a.1 refl) w r e)
      ∙ ap (λ z. z ++ front_data xs) (external_made o p t (full_sets xs t left (a.1 refl) w e.0)
      (full_types xs t left (a.1 refl) w e.1) phase f (pieces_data o t xs ++ []) a.0)
      ∙ function_after (map (row_data (fn_shape o p (func_of true f core.done))) (function_rows (func_of true f core.done) []))
      xs (no_sets o xs t 2 left (omega arith) (a.1 refl) w) (no_types o xs t 2 left (omega arith) (a.1 refl) w)
  made (a_function f ss ∷ xs) t phase (suc left) at a w r e =
      let q = both_so (is_whole_list f.6 ss) (are_whole xs) w in
      let n = first_none (wrong_list (suc at) ss) (wrong_pieces (at + length (piece_rows (a_function f ss))) xs) r in
      ap (λ z. piece_data o t (a_function f ss) ++ z) (made xs t 2 left (at + length (piece_rows (a_function f ss))) (a.1 q.0) q.1 n.1 e)
      ∙ ap (λ z. z ++ front_data xs) (function_made o p t (full_sets xs t left (a.1 q.0) q.1 e.0)
      (full_types xs t left (a.1 q.0) q.1 e.1) phase f ss (pieces_data o t xs ++ []) a.0 q.0 (suc at) n.0)
      ∙ function_after (map (row_data (fn_shape o p (func_of false f (core_list ss))))
      (function_rows (func_of false f (core_list ss)) (list_notes 0 ss))) xs
      (no_sets o xs t 2 left (omega arith) (a.1 q.0) q.1) (no_types o xs t 2 left (omega arith) (a.1 q.0) q.1)
