-- One case more.
use Rattle.std.proofs.Common.{◌≡◌, ◌≤◌, ◌<◌, ◌+◌, refl, sym, ap, ◌∙◌, ℕ, Bool, List, [], ◌∷◌, ◌++◌, map, drop, length, Option, Some, None, arith}
use Rattle.std.proofs.lemmas.List.{drop-drop}
use Rattle.serde_json.specs.View.{view}
use Rattle.serde_json.specs.declared.value.Value.{Value}
use Rattle.vlt_core.specs.Core as core
use Rattle.vlt_core.specs.View.{case_of}
use Rattle.vlt_core.specs.declared.program.CaseDecl.{CaseDecl}
use Rattle.cert_rows.specs.Rows as row
use Rattle.cert_rows.specs.Rows.{Row}
use Rattle.cert_read_decls.specs.Rows.{decl_of_data}
use Rattle.cert_read.specs.Cases.{decls_at, first_at, case_in, case_rows, AreCases}

none_some : {A : Type 0} (r : A) → Some r ≡ None → ⊥
none_some r e = cc

case_same : (a b : core.CaseDecl) → Some a ≡ Some b → a ≡ b
case_same a b e = ap get e
  where
    get : Option core.CaseDecl → core.CaseDecl
    get None = a
    get (Some x) = x

case_was : (o : Option Row) (c : core.CaseDecl) → Some c ≡ case_in o → o ≡ Some (row.case_of c)
case_was None c e = absurd (none_some c e)
case_was (Some (row.case_of d)) c e = ap (λ z. Some (row.case_of z)) (sym (case_same c d e))
case_was (Some r) c e = absurd (none_some c e)

first_row : (o : Bool) (rows : List Value) (at : ℕ) (r : Row) → first_at (decls_at o rows at) ≡ Some r → decls_at o rows at ≡ Some r ∷ decls_at o rows (at + 1)
first_row o rows at r e = by (drop at rows) e ∙ ap (λ vs. Some r ∷ map (decl_of_data o) (map view vs)) (drop-drop 1 at rows)
  where
    none : (r : Row) → None ≡ Some r → ⊥
    none r e = cc

    by : (vs : List Value) → first_at (map (decl_of_data o) (map view vs)) ≡ Some r → map (decl_of_data o) (map view vs) ≡ Some r ∷ map (decl_of_data o) (map view (drop 1 vs))
    by [] e = absurd (none r e)
    by (v ∷ vs) e = ap (λ z. z ∷ map (decl_of_data o) (map view vs)) e

rows_end : (cs : List CaseDecl) (c : CaseDecl) (more : List (Option Row)) → map Some (case_rows (cs ++ c ∷ [])) ++ more ≡ map Some (case_rows cs) ++ (Some (row.case_of (case_of c)) ∷ more)
rows_end [] c more = refl
rows_end (x ∷ cs) c more = ap (λ z. Some (row.case_of (case_of x)) ∷ z) (rows_end cs c more)

pub length_end : (cs : List CaseDecl) (c : CaseDecl) → length (cs ++ c ∷ []) ≡ length cs + 1
length_end [] c = refl
length_end (x ∷ cs) c = let h = length_end cs c in omega (arith, h)

pub began : (o : Bool) (from : ℕ) (rows : List Value) → from ≤ length rows → AreCases o from rows [] from
began o from rows h = record { made = refl; goes_on = omega arith; within = h }

pub turned : (o : Bool) (from : ℕ) (rows : List Value) (cases after : List CaseDecl) (at next : ℕ) (c : CaseDecl) → at < length rows → next ≡ at + 1 → after ≡ cases ++ c ∷ [] →
    Some (case_of c) ≡ case_in (first_at (decls_at o rows at)) → AreCases o from rows cases at → AreCases o from rows after next
turned o from rows cases after at next c room goes pushed here h = record {
  made = h.made ∙ ap (λ z. map Some (case_rows cases) ++ z) (first_row o rows at (row.case_of (case_of c)) (case_was (first_at (decls_at o rows at)) (case_of c) here))
      ∙ sym (rows_end cases c (decls_at o rows (at + 1))) ∙ ap (λ z. map Some (case_rows z) ++ decls_at o rows (at + 1)) (sym pushed) ∙ ap (λ z. map Some (case_rows after) ++ decls_at o rows z) (sym goes);
  goes_on = let e = h.goes_on in let n = length_end cases c in let p = ap length pushed in omega (arith, e, n, p, goes);
  within = omega (arith, room, goes);
}
