-- One declaration more, and the end.
use Rattle.std.proofs.Common.{◌≡◌, ◌≤◌, ◌<◌, ◌+◌, ◌-◌, ◌==◌, refl, sym, ap, ◌∙◌, subst, ℕ, zero, suc, ◌&&◌, if◌then◌else◌, Bool, true, false, true≢false, List, [], ◌∷◌, ◌++◌, map, length, drop, Option, Some, None, arith}
use Rattle.std.proofs.lemmas.Bool.Decides.{nat_tests}
use Rattle.serde_json.specs.Data.{Data}
use Rattle.serde_json.specs.View.{view}
use Rattle.serde_json.specs.declared.value.Value.{Value}
use Rattle.vlt_core.specs.Core as core
use Rattle.vlt_core.specs.View.{program_of}
use Rattle.vlt_core_laws.proofs.Unbroken.{some_not_none}
use Rattle.cert_format.specs.Endings.{or_else}
use Rattle.cert_format.specs.Certificate.{most_declarations}
use Rattle.cert_format.specs.Pieces.{Piece, a_set, an_abstract, a_struct, a_variant, an_external, a_function, piece_rows, is_whole_piece, empty_program, with_piece, piece_data, pieces_data, pieces_rows, IsPiece, IsEnd, ArePieces, wrong_piece, wrong_pieces, are_whole, is_nothing}
use Rattle.cert_format_laws.proofs.Decoding.{joined, no_end}
use Rattle.cert_format_laws.specs.Pieces.{set_in, type_in, fn_in, notes_in, sets_of, types_of, fns_of, all_of}
use Rattle.cert_read.specs.Declarations.{phase_number, values_at, BeginsNone, IsRead, Adds, AreOf, AreRead}
use Rattle.cert_read.specs.declared.declarations.Declarations.{Declarations}
use Rattle.cert_read.proofs.OneRow.{or_none}
use Rattle.cert_read.proofs.Parted.{lengths_joined}

-- ---- one piece more at the end

then_piece : {A : Type 0} (f : Piece → List A) (g : List Piece → List A) → g [] ≡ [] →
    ((x : Piece) (xs : List Piece) → g (x ∷ xs) ≡ f x ++ g xs) → (ps : List Piece) (x : Piece) → g (ps ++ x ∷ []) ≡ g ps ++ f x
then_piece f g none more [] x = more x [] ∙ ap (λ z. f x ++ z) none ∙ no_end (f x) ∙ sym (ap (λ z. z ++ f x) none)
then_piece f g none more (p ∷ ps) x =
    more p (ps ++ x ∷ []) ∙ ap (λ z. f p ++ z) (then_piece f g none more ps x) ∙ sym (joined (f p) (g ps) (f x)) ∙ ap (λ z. z ++ f x) (sym (more p ps))

sets_then : (ps : List Piece) (x : Piece) → sets_of (ps ++ x ∷ []) ≡ sets_of ps ++ set_in x
sets_then = then_piece set_in sets_of refl (λ x xs. refl)

types_then : (ps : List Piece) (x : Piece) → types_of (ps ++ x ∷ []) ≡ types_of ps ++ type_in x
types_then = then_piece type_in types_of refl (λ x xs. refl)

fns_then : (ps : List Piece) (x : Piece) → fns_of (ps ++ x ∷ []) ≡ fns_of ps ++ fn_in x
fns_then = then_piece fn_in fns_of refl (λ x xs. refl)

notes_then : (ps : List Piece) (x : Piece) → all_of (ps ++ x ∷ []) ≡ all_of ps ++ notes_in x
notes_then = then_piece notes_in all_of refl (λ x xs. refl)

rows_then : (ps : List Piece) (x : Piece) → pieces_rows (ps ++ x ∷ []) ≡ pieces_rows ps ++ piece_rows x
rows_then = then_piece piece_rows pieces_rows refl (λ x xs. refl)

both_whole : (a b : Bool) → (a && b) ≡ (b && a)
both_whole true true = refl
both_whole true false = refl
both_whole false true = refl
both_whole false false = refl

whole_then : (ps : List Piece) (x : Piece) → are_whole ps ≡ true → are_whole (ps ++ x ∷ []) ≡ is_whole_piece x
whole_then [] x w = both_whole (is_whole_piece x) true
whole_then (p ∷ ps) x w = by (is_whole_piece p) w (whole_then ps x)
  where
    by : (b : Bool) → (b && are_whole ps) ≡ true → (are_whole ps ≡ true → are_whole (ps ++ x ∷ []) ≡ is_whole_piece x) →
        (b && are_whole (ps ++ x ∷ [])) ≡ is_whole_piece x
    by true e go = go e
    by false e go = absurd (true≢false (sym e))

sets_with : (t : core.Program) (x : Piece) → (with_piece t x).sets ≡ t.sets ++ set_in x
sets_with t (a_set d) = refl
sets_with t (an_abstract name set) = sym (no_end t.sets)
sets_with t (a_struct d) = sym (no_end t.sets)
sets_with t (a_variant name h count cases) = sym (no_end t.sets)
sets_with t (an_external f) = sym (no_end t.sets)
sets_with t (a_function f ss) = sym (no_end t.sets)

types_with : (t : core.Program) (x : Piece) → (with_piece t x).types ≡ t.types ++ type_in x
types_with t (a_set d) = sym (no_end t.types)
types_with t (an_abstract name set) = refl
types_with t (a_struct d) = refl
types_with t (a_variant name h count cases) = refl
types_with t (an_external f) = sym (no_end t.types)
types_with t (a_function f ss) = sym (no_end t.types)

or_else_joined : (a b c : Option ℕ) → or_else a (or_else b c) ≡ or_else (or_else a b) c
or_else_joined None b c = refl
or_else_joined (Some x) b c = refl

-- ---- so many pieces are read, each of them whole

pub record Going (o : Bool) (rows : List Value) (turn : ℕ) (d : Declarations) : Type 0 where
  pub read : List Piece
  pub whole : are_whole read ≡ true
  pub counted : d.at ≡ 1 + length (pieces_rows read)
  pub within : d.at ≤ length rows
  pub turns : turn ≤ 4096
  pub of : AreOf d read
  pub fault : (xs : List Piece) → wrong_pieces 1 (read ++ xs) ≡ or_else d.wrong (wrong_pieces d.at xs)
  pub made : (xs : List Piece) (more : List Data) → values_at rows d.at ≡ pieces_data o (program_of d.tables) xs ++ more →
      values_at rows 1 ≡ pieces_data o empty_program (read ++ xs) ++ more
  pub are : (xs : List Piece) (more : List Data) → values_at rows d.at ≡ pieces_data o (program_of d.tables) xs ++ more →
      ArePieces o (program_of d.tables) (phase_number d.phase) (4096 - turn) xs more →
      ArePieces o empty_program 0 most_declarations (read ++ xs) more

pub began : (o : Bool) (rows : List Value) (d : Declarations) → 1 ≤ length rows → d.at ≡ 1 → program_of d.tables ≡ empty_program →
    phase_number d.phase ≡ 0 → d.wrong ≡ None → AreOf d [] → Going o rows 0 d
began o rows d there at_one none first right of = record {
  read = [];
  whole = refl;
  counted = at_one;
  within = omega (arith, there, at_one);
  turns = omega arith;
  of = of;
  fault = λ xs. ap (λ k. wrong_pieces k xs) (sym at_one) ∙ ap (λ w. or_else w (wrong_pieces d.at xs)) (sym right);
  made = λ xs more e. ap (values_at rows) (sym at_one) ∙ e ∙ ap (λ t. pieces_data o t xs ++ more) none;
  are = λ xs more e a. subst (λ k. ArePieces o empty_program 0 k xs more) (let z : 4096 - 0 ≡ most_declarations = omega arith in z)
      (subst (λ k. ArePieces o empty_program k (4096 - 0) xs more) first (subst (λ t. ArePieces o t (phase_number d.phase) (4096 - 0) xs more) none a));
}

module _ (o : Bool) (rows : List Value) (turn : ℕ) (old new : Declarations) (h : Going o rows turn old) (x : Piece) (r : IsRead o rows old new x) where
  abbrev t : core.Program
  t = program_of old.tables

  later : (xs : List Piece) → (h.read ++ x ∷ []) ++ xs ≡ h.read ++ (x ∷ xs)
  later xs = joined h.read (x ∷ []) xs

  counted_then : new.at ≡ 1 + length (pieces_rows (h.read ++ x ∷ []))
  counted_then =
      let a = r.goes_on in
      let b = h.counted in
      let c = ap length (rows_then h.read x) in
      let d = lengths_joined (pieces_rows h.read) (piece_rows x) in
      omega (arith, a, b, c, d)

  fault_then : (xs : List Piece) → wrong_pieces 1 ((h.read ++ x ∷ []) ++ xs) ≡ or_else new.wrong (wrong_pieces new.at xs)
  fault_then xs =
      ap (wrong_pieces 1) (later xs) ∙ h.fault (x ∷ xs)
      ∙ or_else_joined old.wrong (wrong_piece old.at x) (wrong_pieces (old.at + length (piece_rows x)) xs)
      ∙ ap (λ w. or_else w (wrong_pieces (old.at + length (piece_rows x)) xs)) (sym r.fault)
      ∙ ap (λ k. or_else new.wrong (wrong_pieces k xs)) (sym r.goes_on)

  -- the values from the piece on, where these pieces come after it
  values_then : (xs : List Piece) (more : List Data) → values_at rows new.at ≡ pieces_data o (with_piece t x) xs ++ more →
      values_at rows old.at ≡ pieces_data o t (x ∷ xs) ++ more
  values_then xs more e =
      r.here ∙ ap (λ z. piece_data o t x ++ z) e ∙ sym (joined (piece_data o t x) (pieces_data o (with_piece t x) xs) more)

  step : turn < 4096 → 4096 - turn ≡ suc (4096 - (turn + 1))
  step room = omega (arith, room)

  pub turned : turn < 4096 → is_whole_piece x ≡ true → Adds old new x → Going o rows (turn + 1) new
  turned room w a = record {
    read = h.read ++ x ∷ [];
    whole = whole_then h.read x h.whole ∙ w;
    counted = counted_then;
    within = r.within;
    turns = omega (arith, room);
    of = record {
      sets = ap (λ p. p.sets) a.tables ∙ sets_with t x ∙ ap (λ z. z ++ set_in x) h.of.sets ∙ sym (sets_then h.read x);
      types = ap (λ p. p.types) a.tables ∙ types_with t x ∙ ap (λ z. z ++ type_in x) h.of.types ∙ sym (types_then h.read x);
      fns = a.fns ∙ ap (λ z. z ++ fn_in x) h.of.fns ∙ sym (fns_then h.read x);
      notes = a.notes ∙ ap (λ z. z ++ notes_in x) h.of.notes ∙ sym (notes_then h.read x);
    };
    fault = fault_then;
    made = λ xs more e. h.made (x ∷ xs) more (values_then xs more (at_new xs more e)) ∙ ap (λ z. pieces_data o empty_program z ++ more) (sym (later xs));
    are = λ xs more e are. subst (λ z. ArePieces o empty_program 0 most_declarations z more) (sym (later xs))
        (h.are (x ∷ xs) more (values_then xs more (at_new xs more e))
        (subst (λ k. ArePieces o t (phase_number old.phase) k (x ∷ xs) more) (sym (step room)) (
          subst (IsPiece o t (phase_number old.phase) x) (at_new xs more e) r.is,
          (λ v. subst (λ k. ArePieces o (with_piece t x) k (4096 - (turn + 1)) xs more) r.phase
              (subst (λ p. ArePieces o p (phase_number new.phase) (4096 - (turn + 1)) xs more) a.tables are)),
          (λ v. absurd (true≢false (sym w ∙ v))),
        )));
  }
    where
      at_new : (xs : List Piece) (more : List Data) → values_at rows new.at ≡ pieces_data o (program_of new.tables) xs ++ more →
          values_at rows new.at ≡ pieces_data o (with_piece t x) xs ++ more
      at_new xs more e = e ∙ ap (λ p. pieces_data o p xs ++ more) a.tables

  -- the last piece breaks off
  pub broken : turn < 4096 → is_whole_piece x ≡ false → (fault : Option ℕ) →
      fault ≡ or_else new.wrong (Some new.at) → AreRead o rows new fault
  broken room w fault is = record {
    read = h.read ++ x ∷ [];
    more = values_at rows new.at;
    made = h.made (x ∷ []) (values_at rows new.at) here;
    are = h.are (x ∷ []) (values_at rows new.at) here
        (subst (λ k. ArePieces o t (phase_number old.phase) k (x ∷ []) (values_at rows new.at)) (sym (step room))
        (r.is, (λ v. absurd (true≢false (sym v ∙ w))), (λ v. refl)));
    first = ap (λ w. or_else w (if are_whole (h.read ++ x ∷ []) && is_nothing (values_at rows new.at) then None else Some (1 + length (pieces_rows (h.read ++ x ∷ [])))))
        (ap (wrong_pieces 1) (sym (no_end (h.read ++ x ∷ []))) ∙ fault_then [] ∙ or_none new.wrong)
        ∙ ap (λ b. or_else new.wrong (if b && is_nothing (values_at rows new.at) then None else Some (1 + length (pieces_rows (h.read ++ x ∷ [])))))
        (whole_then h.read x h.whole ∙ w)
        ∙ ap (λ k. or_else new.wrong (Some k)) (sym counted_then) ∙ sym is;
    right = λ e. absurd (never new.wrong (sym is ∙ e));
  }
    where
      here : values_at rows old.at ≡ pieces_data o t (x ∷ []) ++ values_at rows new.at
      here = values_then [] (values_at rows new.at) refl

      never : (a : Option ℕ) → or_else a (Some new.at) ≡ None → ⊥
      never None e = some_not_none new.at e
      never (Some n) e = some_not_none n e

-- ---- the end

mapped_none : {A B : Type 0} (f : A → B) (n : ℕ) (xs : List A) → n ≡ length xs → map f (drop n xs) ≡ []
mapped_none f zero [] e = refl
mapped_none f (suc n) [] e = refl
mapped_none f zero (x ∷ xs) e = absurd (omega (arith, e))
mapped_none f (suc n) (x ∷ xs) e = mapped_none f n xs (omega (arith, e))

mapped_some : {A : Type 0} (f : A → Data) (n : ℕ) (xs : List A) → n < length xs → is_nothing (map f (drop n xs)) ≡ false
mapped_some f n [] e = absurd (omega (arith, e))
mapped_some f zero (x ∷ xs) e = refl
mapped_some f (suc n) (x ∷ xs) e = mapped_some f n xs (omega (arith, e))

at_end : (n : ℕ) (rows : List Value) → n ≤ length rows → is_nothing (values_at rows n) ≡ (n == length rows)
at_end n rows h = by (n == length rows) refl
  where
    same : (n == length rows) ≡ true → n ≡ length rows
    same e = grind (arith, nat_tests)

    less : (n == length rows) ≡ false → n < length rows
    less e = grind (arith, nat_tests)

    by : (b : Bool) → (n == length rows) ≡ b → is_nothing (values_at rows n) ≡ b
    by true e = ap is_nothing (mapped_none view n rows (same e))
    by false e = mapped_some view n rows (less e)

ends : (o : Bool) (t : core.Program) (phase left : ℕ) (ds : List Data) → BeginsNone o t phase ds → IsEnd o t phase left ds
ends o t phase zero ds h = tt
ends o t phase (suc left) [] h = tt
ends o t phase (suc left) (d ∷ ds) h = h

module _ (o : Bool) (rows : List Value) (turn : ℕ) (d : Declarations) (h : Going o rows turn d) where
  stopped : IsEnd o (program_of d.tables) (phase_number d.phase) (4096 - turn) (values_at rows d.at) → (fault : Option ℕ) →
      fault ≡ or_else d.wrong (if d.at == length rows then None else Some d.at) → AreRead o rows d fault
  stopped end fault is = record {
    read = h.read;
    more = values_at rows d.at;
    made = h.made [] (values_at rows d.at) refl ∙ ap (λ z. pieces_data o empty_program z ++ values_at rows d.at) (no_end h.read);
    are = subst (λ z. ArePieces o empty_program 0 most_declarations z (values_at rows d.at)) (no_end h.read) (h.are [] (values_at rows d.at) refl end);
    first = ap (λ w. or_else w (if are_whole h.read && is_nothing (values_at rows d.at) then None else Some (1 + length (pieces_rows h.read))))
        (ap (wrong_pieces 1) (sym (no_end h.read)) ∙ h.fault [] ∙ or_none d.wrong)
        ∙ ap (λ b. or_else d.wrong (if b && is_nothing (values_at rows d.at) then None else Some (1 + length (pieces_rows h.read)))) h.whole
        ∙ ap (λ b. or_else d.wrong (if b then None else Some (1 + length (pieces_rows h.read)))) (at_end d.at rows h.within)
        ∙ ap (λ k. or_else d.wrong (if d.at == length rows then None else Some k)) (sym h.counted) ∙ sym is;
    right = λ e. h.of;
  }

  pub none_left : BeginsNone o (program_of d.tables) (phase_number d.phase) (values_at rows d.at) → (fault : Option ℕ) →
      fault ≡ or_else d.wrong (if d.at == length rows then None else Some d.at) → AreRead o rows d fault
  none_left b = stopped (ends o (program_of d.tables) (phase_number d.phase) (4096 - turn) (values_at rows d.at) b)

  pub all_taken : turn ≡ 4096 → (fault : Option ℕ) →
      fault ≡ or_else d.wrong (if d.at == length rows then None else Some d.at) → AreRead o rows d fault
  all_taken e = stopped (subst (λ k. IsEnd o (program_of d.tables) (phase_number d.phase) k (values_at rows d.at)) (let z : 0 ≡ 4096 - turn = omega (arith, e) in z) tt)

  -- nothing more begins
  pub kept : (new : Declarations) → new ≡ d → BeginsNone o (program_of d.tables) (phase_number d.phase) (values_at rows d.at) → (fault : Option ℕ) →
      fault ≡ or_else new.wrong (if new.at == length rows then None else Some new.at) → AreRead o rows new fault
  kept new same b fault is =
      subst (λ n. AreRead o rows n fault) (sym same)
      (none_left b fault (is ∙ ap (λ (n : Declarations). or_else n.wrong (if n.at == length rows then None else Some n.at)) same))
