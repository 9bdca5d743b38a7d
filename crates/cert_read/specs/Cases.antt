-- What reading the cases of a variant gives.
use Rattle.std.specs.Prelude.{◌≡◌, ◌≤◌, ◌<◌, ◌+◌, ℕ, Bool, List, [], ◌∷◌, ◌++◌, map, drop, length, Option, Some, None}
use Rattle.serde_json.specs.View.{view}
use Rattle.serde_json.specs.declared.value.Value.{Value}
use Rattle.vlt_core.specs.Core as core
use Rattle.vlt_core.specs.View.{case_of}
use Rattle.vlt_core.specs.declared.program.CaseDecl.{CaseDecl}
use Rattle.cert_rows.specs.Rows as row
use Rattle.cert_rows.specs.Rows.{Row}
use Rattle.cert_read_decls.specs.Rows.{decl_of_data}

-- the rows of declarations from a value on
abbrev pub decls_at : (ordered : Bool) → List Value → (at : ℕ) → List (Option Row)
decls_at o rows at = map (decl_of_data o) (map view (drop at rows))

abbrev pub first_at : List (Option Row) → Option Row
first_at [] = None
first_at (r ∷ rest) = r

abbrev pub case_in : Option Row → Option core.CaseDecl
case_in (Some (row.case_of c)) = Some c
case_in _ = None

abbrev pub case_rows : List CaseDecl → List Row
case_rows cs = map row.case_of (map case_of cs)

-- cases that stand from one row to another
pub record AreCases (o : Bool) (from : ℕ) (rows : List Value) (cases : List CaseDecl)
    (at : ℕ) : Type 0 where
  pub made : decls_at o rows from ≡ map Some (case_rows cases) ++ decls_at o rows at
  pub goes_on : at ≡ from + length cases
  pub within : at ≤ length rows

-- at most so many, and fewer only before no case
pub record IsReadCases (o : Bool) (from count : ℕ) (rows : List Value) (cases : List CaseDecl)
    (at : ℕ) : Type 0 where
  pub are : AreCases o from rows cases at
  pub few : length cases ≤ count
  pub stopped : length cases < count → case_in (first_at (decls_at o rows at)) ≡ None
