-- A program whose rows fit is formed.
use Rattle.std.proofs.Common.{◌≡◌, ◌≤◌, ◌+◌, ◌==◌, refl, sym, ℕ, nat_le, not, Bool, true, false, true≢false, List, [], ◌∷◌, map, length, Option, Some, None, slice_get, if◌then◌else◌, arith}
use Rattle.std.specs.List.{flat_map}
use Rattle.std.proofs.lemmas.Bool.Decides.{nat_tests}
use Rattle.vlt_core.specs.Core as core
use Rattle.vlt_core.specs.Core.{CaseDecl, Name, TypeDecl, an_abstract, a_struct, a_variant, SetDecl, Func, Program}
use Rattle.vlt_core.specs.Lookups.{fields_in, fields_of, cases_in, cases_of, case_at}
use Rattle.vlt_core_laws.proofs.Unbroken.{some_not_none}
use Rattle.cert_rows.specs.Parts.{All}
use Rattle.cert_rows.specs.Rows.{case_of, states, function, external, is_filled, set_fields, FitsRow}
use Rattle.cert_format.specs.Notes.{Note}
use Rattle.cert_format.specs.Certificate.{shape, fn_shape, type_rows, fn_row, FitsCertificate}
use Rattle.cert_format_laws.proofs.Decoding.{all_left, all_right}
use Rattle.cert_fit_laws.specs.Formed.{IsFormed}
use Rattle.cert_fit_laws.proofs.Listed.{mapped, spread, noted}

within : (m n : ℕ) → nat_le m n ≡ true → m ≤ n
within m n is = grind (arith, nat_tests)

nonzero : (n : ℕ) → not (n == 0) ≡ true → 1 ≤ n
nonzero n is = grind (arith, nat_tests)

some_names : (ns : List Name) → is_filled ns ≡ true → 1 ≤ length ns
some_names [] is = absurd (true≢false (sym is))
some_names (n ∷ ns) is = omega arith

module _ (o : Bool) (p : Program) (all : List (List Note)) (fits : FitsCertificate o p all) where
  set_row : (i : ℕ) (d : SetDecl) → slice_get p.sets i ≡ Some d → FitsRow (shape o None) (states d)
  set_row i d at = mapped (FitsRow (shape o None)) states p.sets i d (all_left (FitsRow (shape o None)) (map states p.sets) (flat_map type_rows p.types) fits.tables) at

  -- a set of either version has names
  some_states : (i : ℕ) (d : SetDecl) → slice_get p.sets i ≡ Some d → 1 ≤ length d.states
  some_states i d at = by o (set_row i d at)
    where
      by : (v : Bool) → (set_fields v).Fits d → 1 ≤ length d.states
      by false h = some_names d.states h.0.1.1
      by true h = some_names d.states h.0.0.1.1

  few_states : (i : ℕ) (d : SetDecl) → slice_get p.sets i ≡ Some d → length d.states ≤ 32
  few_states i d at = by o (set_row i d at)
    where
      by : (v : Bool) → (set_fields v).Fits d → length d.states ≤ 32
      by false h = within (length d.states) 32 h.0.1.0.1
      by true h = within (length d.states) 32 h.0.0.1.0.1

  types_fit : (t : ℕ) (d : TypeDecl) → slice_get p.types t ≡ Some d → All (FitsRow (shape o None)) (type_rows d)
  types_fit t d at = spread (FitsRow (shape o None)) type_rows p.types t d (all_right (FitsRow (shape o None)) (map states p.sets) (flat_map type_rows p.types) fits.tables) at

  fields_few : (t : ℕ) → length (fields_of p t) ≤ 32
  fields_few t = by (slice_get p.types t) refl
    where
      by : (o : Option TypeDecl) → slice_get p.types t ≡ o → length (fields_in o) ≤ 32
      by None at = omega arith
      by (Some (an_abstract name set)) at = omega arith
      by (Some (a_variant d)) at = omega arith
      by (Some (a_struct d)) at = within (length d.fields) 32 (types_fit t (a_struct d) at).0.4.1

  cases_few : (t : ℕ) → length (cases_of p t) ≤ 32
  cases_few t = by (slice_get p.types t) refl
    where
      by : (o : Option TypeDecl) → slice_get p.types t ≡ o → length (cases_in o) ≤ 32
      by None at = omega arith
      by (Some (an_abstract name set)) at = omega arith
      by (Some (a_struct d)) at = omega arith
      by (Some (a_variant d)) at = (types_fit t (a_variant d) at).0.2.0

  payloads_few : (t c : ℕ) (d : CaseDecl) → case_at p t c ≡ Some d → length d.payload ≤ 8
  payloads_few t c d = by (slice_get p.types t) refl
    where
      by : (o : Option TypeDecl) → slice_get p.types t ≡ o → slice_get (cases_in o) c ≡ Some d → length d.payload ≤ 8
      by None at is = absurd (some_not_none d (sym is))
      by (Some (an_abstract name set)) at is = absurd (some_not_none d (sym is))
      by (Some (a_struct s)) at is = absurd (some_not_none d (sym is))
      by (Some (a_variant v)) at is = within (length d.payload) 8 (mapped (FitsRow (shape o None)) case_of v.cases c d (types_fit t (a_variant v) at).1 is).1.1

  params_few : (g : ℕ) (f : Func) → slice_get p.fns g ≡ Some f → f.params ≤ 16
  params_few g f at =
      let x = noted o p p.fns all fits.functions g f at in
      by f.external x.fits.rows.0
    where
      by : (b : Bool) → FitsRow (fn_shape o p f) (if b then external (fn_row f) else function (fn_row f)) → f.params ≤ 16
      by true h = h.2
      by false h = h.2

  vars_few : (g : ℕ) (f : Func) → slice_get p.fns g ≡ Some f → length f.vars ≤ 256
  vars_few g f at =
      let x = noted o p p.fns all fits.functions g f at in
      within (length f.vars) 256 (by f.external x.fits.rows.0)
    where
      by : (b : Bool) → FitsRow (fn_shape o p f) (if b then external (fn_row f) else function (fn_row f)) → nat_le (length f.vars) 256 ≡ true
      by true h = h.5.1
      by false h = h.5.1

  blank : (g : ℕ) (f : Func) → slice_get p.fns g ≡ Some f → f.external ≡ true → f.body ≡ core.done
  blank g f at is = let x = noted o p p.fns all fits.functions g f at in x.fits.blank is

  keys_few : (g : ℕ) (f : Func) → slice_get p.fns g ≡ Some f → length f.keys ≤ 256
  keys_few g f at =
      let x = noted o p p.fns all fits.functions g f at in
      within (length f.keys) 256 (by f.external x.fits.rows.0)
    where
      by : (b : Bool) → FitsRow (fn_shape o p f) (if b then external (fn_row f) else function (fn_row f)) → nat_le (length f.keys) 256 ≡ true
      by true h = h.4.1
      by false h = h.4.1

  functions_few : length p.fns ≤ 4096
  functions_few = last (length p.sets) (length p.types) (length p.fns) fits.few
    where
      last : (a b c : ℕ) → a + b + c ≤ 4096 → c ≤ 4096
      last a b c few = omega (arith, few)

pub formed : (o : Bool) (p : Program) (all : List (List Note)) → FitsCertificate o p all → IsFormed p
formed o p all fits = record {
  some_states = λ i d at. some_states o p all fits i d at;
  few_states = λ i d at. few_states o p all fits i d at;
  some_cases = λ t d at. nonzero (length d.cases) (types_fit o p all fits t (a_variant d) at).0.2.1;
  few_fields = fields_few o p all fits;
  few_cases = cases_few o p all fits;
  few_payloads = payloads_few o p all fits;
  few_params = params_few o p all fits;
  few_vars = vars_few o p all fits;
  few_keys = keys_few o p all fits;
  few_functions = functions_few o p all fits;
  blank = blank o p all fits;
}
