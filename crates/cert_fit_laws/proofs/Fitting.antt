-- A program that keeps the limits fits.
use Rattle.std.proofs.Common.{◌≡◌, ℕ, suc, ◌+◌, ◌≤◌, Bool, true, false, true≢false, not, if◌then◌else◌, List, [], ◌∷◌, map, length, Option, Some, None, slice_get, refl, sym, ap, ◌∙◌, subst, arith}
use Rattle.std.specs.Prelude.{◌==◌, ◌&&◌, nat_lt}
use Rattle.std.specs.List.{flat_map, list_all}
use Rattle.std.proofs.lemmas.Bool.{le-leb, and_parts}
use Rattle.std.proofs.lemmas.Bool.Decides.{nat_tests}
use Rattle.std.proofs.lemmas.List.{length-map}
use Rattle.vlt_core.specs.Core as core
use Rattle.vlt_core.specs.Core.{a_variant, VariantDecl, Link, SetDecl, CaseDecl, TypeDecl, Func, Program, Entry, Mode}
use Rattle.vlt_core.specs.Lookups.{set_in, count_in, key_type}
use Rattle.cert_format.specs.Places.{unplaced_stmts, unplaced_func, unplaced_program}
use Rattle.cert_format.specs.Bodies.{list_notes}
use Rattle.cert_rows.specs.Parts.{All, several}
use Rattle.cert_rows.specs.Values.{Shape}
use Rattle.cert_rows.specs.Rows.{FitsRow, link}
use Rattle.cert_rows.specs.Rows as row
use Rattle.cert_format.specs.Notes.{Note, maps_of}
use Rattle.cert_format.specs.Certificate.{shape, fn_shape, type_rows, fn_row, function_rows, FitsFunction, FitFunctions, FitsCertificate}
use Rattle.cert_format.specs.Bounds.{instances, is_state_of, is_bound_known, are_bounds_known}
use Rattle.cert_format_laws.specs.Versions.{HasWrittenVersion}
use Rattle.cert_fit_laws.specs.Limits.{is_shallow, IsLimitedSet, IsLimitedCase, IsLimitedType, IsLimitedFunc, IsLimitedProgram}
use Rattle.cert_fit_laws.proofs.Narrow.{IsNarrowCase, IsNarrowType, IsNarrowFunc, IsNarrowProgram}
use Rattle.cert_fit_laws.proofs.FittingParts.{is_written, maybe_fits, header_fits, texts_fit, IsByteBound, entries_fit}
use Rattle.cert_format_laws.proofs.Decoding.{all_joined}
use Rattle.cert_fit_laws.proofs.FittingRows.{list_fits}
use Rattle.cert_fit_laws.proofs.Unplaced.{twice_program, same_main, same_rows, same_list, list_within}
use Rattle.cert_fit_laws.proofs.Both.{list_both}
use Rattle.cert_fit_laws.proofs.Listed.{all_at}
use Rattle.cert_fit_laws.proofs.Arms.{have_arms}
use Rattle.cert_fit_laws.proofs.MaskedCode.{code_masked}
use Rattle.cert_fit_laws.proofs.NarrowPrograms.{narrow}
use Rattle.cert_fit_laws.proofs.Mapped.{HasNotes}
use Rattle.cert_fit_laws.proofs.MappedBodies.{complete_has}
use Rattle.cert_fit_laws.specs.Complete.{IsComplete, AreComplete, LimitedProgramsFit}
use Rattle.vlt_core.specs.Kinded.{IsKinded}
use Rattle.vlt_core.specs.Proper.{is_proper, all_in}
use Rattle.vlt_core.specs.View.{program_of}
use Rattle.vlt_core.specs.declared.program.Program.{Program as CodeProgram}

-- ---- declarations

-- links of states of a set, of which there are so many
links_fit : (n : ℕ) → n ≤ 32 → (ls : List Link) → list_all (λ l. nat_lt l.lower n && nat_lt l.upper n) ls ≡ true → (several link).Fits ls
links_fit n few [] own = tt
links_fit n few (l ∷ ls) own =
    let both = and_parts (nat_lt l.lower n && nat_lt l.upper n) (list_all (λ l. nat_lt l.lower n && nat_lt l.upper n) ls) own in
    let ends = and_parts (nat_lt l.lower n) (nat_lt l.upper n) both.0 in
    (((byte l.lower ends.0, byte l.upper ends.1), refl), links_fit n few ls both.1)
  where
    byte : (m : ℕ) → nat_lt m n ≡ true → m ≤ 255
    byte m less = grind (arith, nat_tests)

sets_fit : (ds : List SetDecl) → All IsLimitedSet ds → All (FitsRow (shape true None)) (map row.states ds)
sets_fit [] is = tt
sets_fit (d ∷ ds) is =
    ((((tt, ((texts_fit d.states, le-leb (length d.states) 32 is.0.few), is.0.filled), (links_fit (length d.states) is.0.few d.links is.0.own_links, le-leb (length d.links) 31 is.0.few_links)), refl), is.0.own_links), sets_fit ds is.1)

cases_fit : (cs : List CaseDecl) → All IsLimitedCase cs → All IsNarrowCase cs → All (FitsRow (shape true None)) (map row.case_of cs)
cases_fit [] is narrow = tt
cases_fit (c ∷ cs) is narrow = ((tt, (narrow.0.0, le-leb (length c.payload) 8 is.0), narrow.0.1), cases_fit cs is.1 narrow.1)

some_cases : (n : ℕ) → 1 ≤ n → not (n == 0) ≡ true
some_cases n is = grind (arith, nat_tests)

type_fits : (d : TypeDecl) → IsLimitedType d → IsNarrowType d → All (FitsRow (shape true None)) (type_rows d)
type_fits (core.an_abstract name set) is narrow = ((tt, maybe_fits set narrow), tt)
type_fits (core.a_struct d) is narrow =
    ((tt, header_fits d.header narrow.0 is.0, maybe_fits d.set narrow.1, narrow.2, (narrow.3, le-leb (length d.fields) 32 is.1)), tt)
type_fits (core.a_variant d) is narrow =
    ((tt, header_fits d.header narrow.0 is.0, (is.2, some_cases (length d.cases) is.1)), cases_fit d.cases is.3 narrow.1)

types_fit : (ds : List TypeDecl) → All IsLimitedType ds → All IsNarrowType ds → All (FitsRow (shape true None)) (flat_map type_rows ds)
types_fit [] is narrow = tt
types_fit (d ∷ ds) is narrow = all_joined (FitsRow (shape true None)) (type_rows d) (flat_map type_rows ds) (type_fits d is.0 narrow.0) (types_fit ds is.1 narrow.1)

-- ---- functions

-- a bound that is a state of a set has 8 bits
module _ (p : Program) (sets : All IsLimitedSet p.sets) where
  few_states : (i b : ℕ) → nat_lt b (count_in (slice_get p.sets i)) ≡ true → b ≤ 255
  few_states i b less = by (slice_get p.sets i) refl
    where
      small : (n : ℕ) → nat_lt b n ≡ true → n ≤ 32 → b ≤ 255
      small n less few = grind (arith, nat_tests)

      none : 0 ≤ 32
      none = omega arith

      by : (o : Option SetDecl) → slice_get p.sets i ≡ o → b ≤ 255
      by None at = small 0 (subst (λ o. nat_lt b (count_in o) ≡ true) at less) none
      by (Some d) at = small (length d.states) (subst (λ o. nat_lt b (count_in o) ≡ true) at less) (all_at IsLimitedSet p.sets i d sets at).few

  known_small : (t : Option ℕ) (b : ℕ) → is_state_of p t b ≡ true → b ≤ 255
  known_small None b e = absurd (true≢false (sym e))
  known_small (Some t) b e = by (set_in (slice_get p.types t)) refl
    where
      by : (o : Option ℕ) → set_in (slice_get p.types t) ≡ o → b ≤ 255
      by None at = absurd (true≢false (sym (rw at at e)))
      by (Some i) at = few_states i b (rw at at e)

  known_bound : (f : Func) (k : ℕ) (m : Mode) → is_bound_known p f k m ≡ true → IsByteBound m
  known_bound f k (core.up_to b) e = known_small (key_type f k) b e
  known_bound f k core.kept e = tt
  known_bound f k core.taken e = tt
  known_bound f k core.given e = tt
  known_bound f k core.fresh e = tt

  known_bounds : (f : Func) (es : List Entry) → list_all (λ e. is_bound_known p f e.key e.mode) es ≡ true → All (λ e. IsByteBound e.mode) es
  known_bounds f [] e = tt
  known_bounds f (x ∷ xs) e =
      let both = and_parts (is_bound_known p f x.key x.mode) (list_all (λ e. is_bound_known p f e.key e.mode) xs) e in
      (known_bound f x.key x.mode both.0, known_bounds f xs both.1)

module _ (p : Program) (sets : All IsLimitedSet p.sets) (f : Func) (notes : List Note) (is : IsLimitedFunc f) (known : are_bounds_known p f ≡ true) (narrow : IsNarrowFunc f)
    (written : all_in is_written f.body ≡ true) (has : HasNotes (instances p f) f notes) where
  abbrev own : Shape
  own = fn_shape true p f

  small : All (λ e. IsByteBound e.mode) f.clause
  small = known_bounds p sets f f.clause known

  fn_fits : FitsRow own (row.function (fn_row f))
  fn_fits = (tt, narrow.result, is.params, entries_fit f.clause is.clause small narrow.clause, (narrow.keys, le-leb (length f.keys) 256 is.keys), (narrow.vars, le-leb (length f.vars) 256 is.vars), narrow.statements)

  extern_fits : f.external ≡ true → FitsRow own (row.external (fn_row f))
  extern_fits e = (
    (tt, is.name e),
    narrow.result,
    is.params,
    entries_fit f.clause is.clause small narrow.clause,
    (narrow.keys, le-leb (length f.keys) 256 is.keys),
    (narrow.vars, le-leb (length f.vars) 256 is.vars),
    none (is.blank e),
  )
    where
      none : f.body ≡ core.done → (fn_row f).6 ≤ 0
      none e = rw e omega arith

  first_fits : FitsRow own (if f.external then row.external (fn_row f) else row.function (fn_row f))
  first_fits = by f.external refl
    where
      by : (b : Bool) → f.external ≡ b → FitsRow own (if b then row.external (fn_row f) else row.function (fn_row f))
      by true e = extern_fits e
      by false e = fn_fits

  rows_fit : All (FitsRow own) (function_rows f notes)
  rows_fit = (first_fits, list_fits own (maps_of notes) 0 f.body written narrow.body has.maps)

  function_fits : FitsFunction true (unplaced_program p) (unplaced_func f) notes
  function_fits = record {
    rows = subst (All (FitsRow own)) (sym (same_rows f notes)) rows_fit;
    depth = list_within 1 f.body is.body;
    blank = λ e. ap unplaced_stmts (is.blank e);
    bounds = known;
    listed = has.listed ∙ ap (list_notes 0) (sym (same_list (maps_of notes) 0 f.body));
  }

-- ---- programs

some_cases_of : (p : Program) → IsLimitedProgram p → (t : ℕ) (d : VariantDecl) → slice_get p.types t ≡ Some (a_variant d) → 1 ≤ length d.cases
some_cases_of p is t d at = (all_at IsLimitedType p.types t (a_variant d) is.types at).1

module _ (c : CodeProgram) (kinded : IsKinded (program_of c)) (is : IsLimitedProgram (program_of c)) where
  narrow_program : IsNarrowProgram (program_of c)
  narrow_program = narrow (program_of c) kinded is (code_masked c)

  one_fits : (g : ℕ) (f : Func) (notes : List Note) → slice_get (program_of c).fns g ≡ Some f → IsComplete (program_of c) f notes → FitsFunction true (unplaced_program (program_of c)) (unplaced_func f) notes
  one_fits g f notes at complete =
      let limits = all_at IsLimitedFunc (program_of c).fns g f is.fns at in
      let arms = have_arms (program_of c) g f (some_cases_of (program_of c) is) limits.blank kinded at in
      function_fits (program_of c) is.sets f notes limits (is.bounds g f at) (all_at IsNarrowFunc (program_of c).fns g f narrow_program.fns at)
      (list_both is_proper is_shallow f.body (is.proper g f at) (is.shallow g f at))
      (complete_has (program_of c) g f notes kinded limits.blank at arms complete)

  functions_fit : (fs : List Func) (all : List (List Note)) → ((i : ℕ) (f : Func) → slice_get fs i ≡ Some f → (g : ℕ) × (slice_get (program_of c).fns g ≡ Some f)) → AreComplete (program_of c) fs all →
      FitFunctions true (unplaced_program (program_of c)) (map unplaced_func fs) all
  functions_fit [] [] there complete = tt
  functions_fit [] (notes ∷ all) there complete = complete
  functions_fit (f ∷ fs) [] there complete = complete
  functions_fit (f ∷ fs) (notes ∷ all) there complete =
      (one_fits (there 0 f refl).0 f notes (there 0 f refl).1 complete.0, functions_fit fs all (λ i f at. there (suc i) f at) complete.1)

limited_fit : (p : CodeProgram) (all : List (List Note)) → IsKinded (program_of p) → IsLimitedProgram (program_of p) → AreComplete (program_of p) (program_of p).fns all
    → FitsCertificate true (unplaced_program (program_of p)) all
limited_fit c all kinded is complete =
    let p = program_of c in
    let narrow = narrow_program c kinded is in
    record {
      tables = all_joined (FitsRow (shape true None)) (map row.states p.sets) (flat_map type_rows p.types) (sets_fit p.sets is.sets) (types_fit p.types is.types narrow.types);
      functions = functions_fit c kinded is p.fns all (λ g f at. (g, at)) complete;
      few = subst (λ n. length p.sets + length p.types + n ≤ 4096) (sym (length-map p.fns unplaced_func)) is.few;
      main = is.main ∙ sym (same_main 0 p.fns);
      unplaced = twice_program p;
    }

-- the version is the one that is written
pub written_fit : HasWrittenVersion → LimitedProgramsFit
written_fit written c all kinded is complete = written (unplaced_program (program_of c)) all (limited_fit c all kinded is complete)
