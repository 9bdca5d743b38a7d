-- Declarations of several rows: a variant with its cases, and a function with its body.
use Rattle.std.proofs.Common.{◌≡◌, ◌+◌, ◌==◌, refl, sym, ap, ◌∙◌, subst, ℕ, suc, nat_le, Bool, true, false, List, [], ◌∷◌, ◌++◌, map, length, Option, None, arith}
use Rattle.std.proofs.lemmas.Bool.Decides.{Decides-eqb}
use Rattle.serde_json.specs.Data.{Data}
use Rattle.serde_json.specs.declared.value.Value.{Value}
use Rattle.vlt_core.specs.Core as core
use Rattle.vlt_core.specs.View.{program_of, type_of, case_of, func_of as func_view}
use Rattle.vlt_core.specs.declared.program.TypeDecl.{TypeDecl}
use Rattle.vlt_core.specs.declared.program.CaseDecl.{CaseDecl}
use Rattle.cert_rows.specs.Parts.{All}
use Rattle.cert_rows.specs.Values.{Shape}
use Rattle.cert_rows.specs.Rows as row
use Rattle.cert_rows.specs.Rows.{FnRow, Row, row_data, row_part, FitsRow}
use Rattle.cert_format.specs.Drafts as draft
use Rattle.cert_format.specs.Drafts.{Draft, Block, Drafts, Arms, head, draft_rows, block_rows, list_rows, arms_rows, AreTaken}
use Rattle.cert_format.specs.Bodies.{size, size_block, size_list, size_arms, core_list, list_notes}
use Rattle.cert_format.specs.Endings.{or_else, wrong_list}
use Rattle.cert_format.specs.Certificate.{shape}
use Rattle.cert_format.specs.Pieces.{a_variant, a_function, func_of, head_shape, has_known_bounds, BeginsNoCase}
use Rattle.cert_format_laws.proofs.Decoding.{no_end}
use Rattle.cert_read_decls.specs.Rows.{decl_of_data}
use Rattle.cert_read_bodies.specs.Tree.{block_of, drafts_of}
use Rattle.cert_read_bodies.specs.Reads.{IsReadBlock, ReadsBlock}
use Rattle.cert_read_bodies.specs.declared.tree.Block.{Block as CodeBlock, out-Block}
use Rattle.cert_read_bodies.proofs.Views.{block_parts}
use Rattle.vlt_core.specs.HeldView.{toks_of}
use Rattle.vlt_core.specs.declared.held.Tok.{Tok}
use Rattle.cert_read_bodies.specs.declared.read.ReadBlock.{ReadBlock}
use Rattle.cert_read_bodies.proofs.Bodies.{bodies_are_read}
use Rattle.cert_read.specs.Cases.{decls_at, case_rows, IsReadCases}
use Rattle.cert_read.specs.Declarations.{phase_number, notes_of_all, values_at, Stands, IsRead, Adds, AddsFunction, Goes, with_type, GoesByType}
use Rattle.cert_read.specs.declared.declarations.Declarations.{Declarations}
use Rattle.cert_read.specs.declared.declarations.Next.{Next}
use Rattle.cert_read.specs.declared.declarations.Next.TheVariants.{Nothing, Whole, Part}
use Rattle.cert_read.specs.declared.declarations.Phase.TheVariants.{Types, Functions}
use Rattle.cert_read.proofs.Said.{said, cases_end}
use Rattle.cert_read.proofs.Standing.{row_stands, values_after}
use Rattle.cert_read.proofs.OneRow.{or_none, mapped_end, last_phase}

lengths_mapped : {A B : Type 0} (f : A → B) (xs : List A) → length (map f xs) ≡ length xs
lengths_mapped f [] = refl
lengths_mapped f (x ∷ xs) = ap (λ n. suc n) (lengths_mapped f xs)

pub lengths_joined : {A : Type 0} (xs ys : List A) → length (xs ++ ys) ≡ length xs + length ys
lengths_joined [] ys = omega arith
lengths_joined (x ∷ xs) ys = let h = lengths_joined xs ys in omega (arith, h)

-- ---- how many rows statements have

mutual
  draft_count : (d : Draft) → length (draft_rows d) ≡ size d
  draft_count (draft.plain r) = refl
  draft_count (draft.choose e a b m) =
      let h = block_count a in let k = block_count b in let l = lengths_joined (block_rows a) (block_rows b) in omega (arith, h, k, l)
  draft_count (draft.loop e a m k) = let h = block_count a in omega (arith, h)
  draft_count (draft.switch v arms m) = let h = arms_count arms in omega (arith, h)
  draft_count (draft.focus y z a) = let h = block_count a in omega (arith, h)
  draft_count (draft.scope a) = let h = block_count a in omega (arith, h)

  block_count : (b : Block) → length (block_rows b) ≡ size_block b
  block_count (draft.block n bound ss) = list_count ss

  list_count : (ss : Drafts) → length (list_rows ss) ≡ size_list ss
  list_count draft.done = refl
  list_count (draft.next f rest) =
      let h = draft_count f in let k = list_count rest in let l = lengths_joined (draft_rows f) (list_rows rest) in omega (arith, h, k, l)

  arms_count : (arms : Arms) → length (arms_rows arms) ≡ size_arms arms
  arms_count draft.no_arms = refl
  arms_count (draft.arm c vs b rest) =
      let h = block_count b in let k = arms_count rest in let l = lengths_joined (block_rows b) (arms_rows rest) in omega (arith, h, k, l)

-- ---- what comes of a type's row that may stand there

pub taken : (old mid : Declarations) (t : TypeDecl) (n : Next) → (n ≡ Nothing → ⊥) → GoesByType old mid t n →
    (mid ≡ with_type old t) × (nat_le (phase_number old.phase) 1 ≡ true)
taken old mid t Nothing h g = absurd (h refl)
taken old mid t Whole h g = g
taken old mid t Part h g = absurd g

pub same_count : (m n : ℕ) → m ≡ n → (m == n) ≡ true
same_count m n e = (Decides-eqb m n).1 e

pub other_count : (m n : ℕ) → (m ≡ n → ⊥) → (m == n) ≡ false
other_count m n h = by (m == n) refl
  where
    by : (b : Bool) → (m == n) ≡ b → b ≡ false
    by true e = absurd (h ((Decides-eqb m n).0 e))
    by false e = refl

-- ---- what is read of a body

block_is : (b : CodeBlock) (k : ℕ) (bound : List Tok) → head (block_of b) ≡ (k, toks_of bound) → bound ≡ [] →
    block_of b ≡ draft.block k [] (drafts_of (out-Block b).stmts)
block_is b k bound e none =
    block_parts b
    ∙ ap (λ (h : row.Head). draft.block h.0 h.1 (drafts_of (out-Block b).stmts))
    (sym (ap head (block_parts b)) ∙ e ∙ ap (λ z. (k, toks_of z)) none)

pub body_read : (n m : Option ℕ) (at : ℕ) (rows : List Value) (j k : ℕ) (bound : List Tok) (r : ReadBlock) → n ≡ m → j ≡ k → bound ≡ [] →
    ReadsBlock n at 1 rows (j, toks_of bound) r → IsReadBlock m at 1 rows (draft.block k [] (drafts_of (out-Block r.block).stmts)) r
body_read n m at rows j k bound r same counts none x =
    subst (λ i. IsReadBlock m at 1 rows (draft.block i [] (drafts_of (out-Block r.block).stmts)) r) counts
    (subst (λ z. IsReadBlock z at 1 rows (draft.block j [] (drafts_of (out-Block r.block).stmts)) r) same
    (subst (λ b. IsReadBlock n at 1 rows b r) (block_is r.block j bound x.0 none) x.1))

-- ---- a variant

module _ (o : Bool) (rows : List Value) (old new : Declarations) (name : List ℕ) (h : List (Option ℕ)) (count : ℕ)
    (cases : List CaseDecl) (at : ℕ) (s : Stands o rows old.at (row.variant_type name h count))
    (x : IsReadCases o (old.at + 1) count rows cases at) where
  abbrev variant_rows : List Row
  variant_rows = case_rows cases

  cases_said : (rest : List Data) × (values_at rows (old.at + 1) ≡ map (row_data (shape o None)) variant_rows ++ rest) ×
      All (FitsRow (shape o None)) variant_rows × (map (decl_of_data o) rest ≡ decls_at o rows at)
  cases_said = said (shape o None) variant_rows (values_at rows (old.at + 1)) (decls_at o rows at) x.are.made

  case_count : length (map (row_data (shape o None)) variant_rows) ≡ length cases
  case_count = lengths_mapped (row_data (shape o None)) variant_rows ∙ lengths_mapped row.case_of (map case_of cases) ∙ lengths_mapped case_of cases

  rest_same : cases_said.0 ≡ values_at rows at
  rest_same =
      values_after rows (old.at + 1) (map (row_data (shape o None)) variant_rows) cases_said.0 cases_said.1
      ∙ ap (values_at rows) (let e = x.are.goes_on in let c = case_count in
      let k : old.at + 1 + length (map (row_data (shape o None)) variant_rows) ≡ at = omega (arith, e, c) in k)

  abbrev all_rows : List Row
  all_rows = row.variant_type name h count ∷ variant_rows

  variant_here : values_at rows old.at ≡ map (row_data (shape o None)) all_rows ++ values_at rows at
  variant_here =
      (row_stands (shape o None) rows old.at (row.variant_type name h count) s).0
      ∙ ap (λ z. row_data (shape o None) (row.variant_type name h count) ∷ z)
      (cases_said.1 ∙ ap (λ z. map (row_data (shape o None)) variant_rows ++ z) rest_same)

  variant_read : nat_le (phase_number old.phase) 1 ≡ true → new.at ≡ at → new.phase ≡ Types → new.wrong ≡ old.wrong →
      IsRead o rows old new (a_variant name h count (map case_of cases))
  variant_read order next phase_is wrong_is =
      let counted = lengths_mapped case_of cases in
      let few = x.few in
      let goes = x.are.goes_on in
      let rows_count = lengths_mapped row.case_of (map case_of cases) in
      let within = x.are.within in
      record {
        here = variant_here ∙ ap (λ k. map (row_data (shape o None)) all_rows ++ values_at rows k) (sym next);
        goes_on = omega (arith, next, goes, counted, rows_count);
        within = omega (arith, next, within);
        is = record {
          in_order = order;
          bounds = refl;
          rows = ((row_stands (shape o None) rows old.at (row.variant_type name h count) s).1, cases_said.2);
          said = (
            omega (arith, few, counted),
            (λ l. subst (λ k. BeginsNoCase o (values_at rows k)) (sym next)
                (cases_end o (values_at rows at) (x.stopped (omega (arith, l, counted))))),
          );
        };
        phase = ap phase_number phase_is;
        fault = wrong_is ∙ sym (or_none old.wrong);
      }

  variant_added : (t : TypeDecl) → type_of t ≡ core.a_variant (record { name = name; header = h; cases = map case_of cases }) →
      new.tables ≡ record old.tables { types = old.tables.types ++ t ∷ [] } → new.fns ≡ old.fns → new.notes ≡ old.notes →
      Adds old new (a_variant name h count (map case_of cases))
  variant_added t is tables fns notes = record {
    tables = ap program_of tables ∙ ap (λ ts. record (program_of old.tables) { types = ts })
        (mapped_end type_of old.tables.types t ∙ ap (λ z. map type_of old.tables.types ++ z ∷ []) is);
    fns = ap (map func_view) fns ∙ sym (no_end _);
    notes = ap notes_of_all notes ∙ sym (no_end _);
  }

  -- the variant has come to what is there, and the rows are read up to its end
  pub variant_goes : (t : TypeDecl) → type_of t ≡ core.a_variant (record { name = name; header = h; cases = map case_of cases }) →
      nat_le (phase_number old.phase) 1 ≡ true → new ≡ record (with_type old t) { at = at } → (length cases == count) ≡ true → Goes o rows old new Whole
  variant_goes t is order same whole = (
    a_variant name h count (map case_of cases),
    variant_read order (ap (λ d. d.at) same) (ap (λ d. d.phase) same) (ap (λ d. d.wrong) same),
    variant_added t is (ap (λ d. d.tables) same) (ap (λ d. d.fns) same) (ap (λ d. d.notes) same),
    ap (λ n. n == count) (lengths_mapped case_of cases) ∙ whole,
  )

  pub variant_part : (t : TypeDecl) → nat_le (phase_number old.phase) 1 ≡ true → new ≡ record (with_type old t) { at = at } →
      (length cases == count) ≡ false → Goes o rows old new Part
  variant_part t order same whole = (
    a_variant name h count (map case_of cases),
    variant_read order (ap (λ d. d.at) same) (ap (λ d. d.phase) same) (ap (λ d. d.wrong) same),
    ap (λ n. n == count) (lengths_mapped case_of cases) ∙ whole,
  )

-- ---- a function

module _ (o : Bool) (rows : List Value) (old new : Declarations) (f : FnRow) (r : ReadBlock)
    (s : Stands o rows old.at (row.function f)) (known : has_known_bounds (program_of old.tables) f ≡ true)
    (next : new.at ≡ r.at) (phase_is : new.phase ≡ Functions) (wrong_is : new.wrong ≡ or_else old.wrong r.wrong) where
  abbrev fn_shape_of : Shape
  fn_shape_of = head_shape o (program_of old.tables) f

  module _ (ss : Drafts) (x : IsReadBlock fn_shape_of.instances (old.at + 1) 1 rows (draft.block f.6 [] ss) r) where
    body_said : (rest : List Data) × (values_at rows (old.at + 1) ≡ map (row_data fn_shape_of) (list_rows ss) ++ rest) ×
        All (FitsRow fn_shape_of) (list_rows ss) × AreTaken 1 f.6 ss (map (row_part fn_shape_of).of_data rest)
    body_said = bodies_are_read fn_shape_of f.6 ss (values_at rows (old.at + 1)) (values_at rows r.at) x.taken x.made

    body_rest : body_said.0 ≡ values_at rows r.at
    body_rest =
        values_after rows (old.at + 1) (map (row_data fn_shape_of) (list_rows ss)) body_said.0 body_said.1
        ∙ ap (values_at rows) (let e = x.goes_on in let c = lengths_mapped (row_data fn_shape_of) (list_rows ss) in let l = list_count ss in
        let k : old.at + 1 + length (map (row_data fn_shape_of) (list_rows ss)) ≡ r.at = omega (arith, e, c, l) in k)

    function_here : values_at rows old.at ≡ map (row_data fn_shape_of) (row.function f ∷ list_rows ss) ++ values_at rows r.at
    function_here =
        (row_stands fn_shape_of rows old.at (row.function f) s).0
        ∙ ap (λ z. row_data fn_shape_of (row.function f) ∷ z)
        (body_said.1 ∙ ap (λ z. map (row_data fn_shape_of) (list_rows ss) ++ z) body_rest)

    pub function_read : IsRead o rows old new (a_function f ss)
    function_read =
        let goes = x.goes_on in
        let counted = list_count ss in
        let within = x.within in
        record {
          here = function_here ∙ ap (λ k. map (row_data fn_shape_of) (row.function f ∷ list_rows ss) ++ values_at rows k) (sym next);
          goes_on = omega (arith, next, goes, counted);
          within = omega (arith, next, within);
          is = record {
            in_order = last_phase old.phase;
            bounds = known;
            rows = ((row_stands fn_shape_of rows old.at (row.function f) s).1, body_said.2);
            said = subst (λ ds. AreTaken 1 f.6 ss (map (row_part fn_shape_of).of_data ds)) (body_rest ∙ ap (values_at rows) (sym next)) body_said.3;
          };
          phase = ap phase_number phase_is;
          fault = wrong_is ∙ ap (or_else old.wrong) (x.fault ∙ ap (λ k. wrong_list k ss) (let e : old.at + 1 ≡ suc old.at = omega arith in e));
        }

    pub function_whole : r.whole ≡ true → AddsFunction old new (func_of false f (core_list ss)) (list_notes 0 ss) → Goes o rows old new Whole
    function_whole whole a = (
      a_function f ss,
      function_read,
      record { tables = ap program_of a.tables; fns = a.fns; notes = a.notes },
      sym x.entire ∙ whole,
    )

    pub function_part : r.whole ≡ false → Goes o rows old new Part
    function_part whole = (a_function f ss, function_read, sym x.entire ∙ whole)
