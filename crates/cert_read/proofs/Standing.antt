-- A row of a declaration that comes next.
use Rattle.std.proofs.Common.{◌≡◌, ◌≤◌, ◌+◌, refl, sym, ap, ◌∙◌, subst, ℕ, zero, suc, Bool, true, false, List, [], ◌∷◌, ◌++◌, map, drop, length, Option, Some, None, arith}
use Rattle.std.proofs.lemmas.List.{drop-drop}
use Rattle.serde_json.specs.Data.{Data}
use Rattle.serde_json.specs.View.{view}
use Rattle.serde_json.specs.declared.value.Value.{Value}
use Rattle.vlt_core.specs.Core as core
use Rattle.vlt_core.specs.View.{program_of}
use Rattle.vlt_core_laws.proofs.Unbroken.{some_not_none}
use Rattle.cert_rows.specs.Values.{Shape}
use Rattle.cert_rows.specs.Rows as row
use Rattle.cert_rows.specs.Rows.{Row, row_data, row_part, FitsRow}
use Rattle.cert_format.specs.Certificate.{shape}
use Rattle.cert_format.specs.Pieces.{is_begun, version_in, first_version}
use Rattle.cert_read_decls.specs.Rows.{decl_of_data, decl_in}
use Rattle.cert_read_decls.proofs.Declarations.{declarations_are_rows}
use Rattle.cert_read.specs.Cases.{decls_at, first_at}
use Rattle.cert_read.specs.Declarations.{phase_number, values_at, Stands, BeginsNone, Goes}
use Rattle.cert_read.specs.declared.declarations.Declarations.{Declarations}
use Rattle.cert_read.specs.declared.declarations.Next.TheVariants.{Nothing}
use Rattle.cert_read.proofs.Said.{row_said}

-- ---- rows and values

drop_all : {A : Type 0} (n : ℕ) (xs : List A) → length xs ≤ n → drop n xs ≡ []
drop_all zero [] h = refl
drop_all (suc n) [] h = refl
drop_all zero (x ∷ xs) h = absurd (omega (arith, h))
drop_all (suc n) (x ∷ xs) h = drop_all n xs (omega (arith, h))

-- what comes after some values
after : {A : Type 0} (xs rest : List A) → drop (length xs) (xs ++ rest) ≡ rest
after [] rest = refl
after (x ∷ xs) rest = after xs rest

map_drop : {A B : Type 0} (f : A → B) (n : ℕ) (xs : List A) → map f (drop n xs) ≡ drop n (map f xs)
map_drop f zero xs = refl
map_drop f (suc n) [] = refl
map_drop f (suc n) (x ∷ xs) = map_drop f n xs

pub values_after : (rows : List Value) (at : ℕ) (ds rest : List Data) → values_at rows at ≡ ds ++ rest → rest ≡ values_at rows (at + length ds)
values_after rows at ds rest e =
    sym (after ds rest) ∙ ap (drop (length ds)) (sym e) ∙ sym (map_drop view (length ds) (drop at rows))
    ∙ ap (map view) (drop-drop (length ds) at rows)

-- ---- what comes next

module _ (w : Shape) (rows : List Value) (at : ℕ) (r : Row) (s : Stands w.ordered rows at r) where
  pub row_stands : (values_at rows at ≡ row_data w r ∷ values_at rows (at + 1)) × FitsRow w r
  row_stands = by (drop at rows) refl s.1
    where
      by : (vs : List Value) → drop at rows ≡ vs → first_at (map (decl_of_data w.ordered) (map view vs)) ≡ Some r →
          (values_at rows at ≡ row_data w r ∷ values_at rows (at + 1)) × FitsRow w r
      by [] e h = absurd (some_not_none r (sym h))
      by (v ∷ vs) e h =
          let x = row_said w (view v) r h in (
            ap (map view) e ∙ ap (λ z. z ∷ map view vs) x.0
                ∙ ap (λ z. row_data w r ∷ map view z) (sym (ap (drop 1) e) ∙ drop-drop 1 at rows),
            x.1,
          )

pub begun_in : (t : core.Program) (phase : ℕ) (o : Option Row) → is_begun t phase (decl_in o) ≡ is_begun t phase o
begun_in t phase None = refl
begun_in t phase (Some (row.version o)) = refl
begun_in t phase (Some (row.states d)) = refl
begun_in t phase (Some (row.abstract_type name set)) = refl
begun_in t phase (Some (row.struct_type d)) = refl
begun_in t phase (Some (row.variant_type name h count)) = refl
begun_in t phase (Some (row.case_of c)) = refl
begun_in t phase (Some (row.function f)) = refl
begun_in t phase (Some (row.external f)) = refl
begun_in t phase (Some r) = refl

-- no declaration begins with the first of these values
none_begins : (o : Bool) (t : core.Program) (phase : ℕ) (vs : List Value) →
    is_begun t phase (first_at (map (decl_of_data o) (map view vs))) ≡ false → BeginsNone o t phase (map view vs)
none_begins o t phase [] h = tt
none_begins o t phase (v ∷ vs) h =
    sym (begun_in t phase ((row_part (shape o None)).of_data (view v)))
    ∙ ap (is_begun t phase) (sym (declarations_are_rows (shape o None) (view v))) ∙ h

module _ (o : Bool) (rows : List Value) (old new : Declarations) (same : new ≡ old) where
  pub none_stands : (r : Row) → Stands o rows old.at r → is_begun (program_of old.tables) (phase_number old.phase) (Some r) ≡ false →
      Goes o rows old new Nothing
  none_stands r s h = (
    same,
    none_begins o (program_of old.tables) (phase_number old.phase) (drop old.at rows)
        (ap (is_begun (program_of old.tables) (phase_number old.phase)) s.1 ∙ h),
  )

  pub no_row : None ≡ first_at (decls_at o rows old.at) → Goes o rows old new Nothing
  no_row e = (
    same,
    none_begins o (program_of old.tables) (phase_number old.phase) (drop old.at rows)
        (ap (is_begun (program_of old.tables) (phase_number old.phase)) (sym e)),
  )

  pub rows_end : length rows ≤ old.at → Goes o rows old new Nothing
  rows_end h = (same, subst (BeginsNone o (program_of old.tables) (phase_number old.phase)) (sym (ap (map view) (drop_all old.at rows h))) tt)

-- ---- the version

version_kept : (o : Option Row) → version_in (decl_in o) ≡ version_in o
version_kept None = refl
version_kept (Some (row.version o)) = refl
version_kept (Some (row.states d)) = refl
version_kept (Some (row.abstract_type name set)) = refl
version_kept (Some (row.struct_type d)) = refl
version_kept (Some (row.variant_type name h count)) = refl
version_kept (Some (row.case_of c)) = refl
version_kept (Some (row.function f)) = refl
version_kept (Some (row.external f)) = refl
version_kept (Some r) = refl

pub version_is : (rows : List Value) → version_in (first_at (decls_at true rows 0)) ≡ first_version (map view rows)
version_is [] = refl
version_is (v ∷ rows) =
    ap version_in (declarations_are_rows (shape true None) (view v)) ∙ version_kept ((row_part (shape true None)).of_data (view v))
