-- Declarations of the language have structs of at most 32 fields.
use Rattle.std.proofs.Common.{◌≡◌, ℕ, ◌≤◌, List, [], ◌∷◌, length, Option, None, Some, refl, sym, subst, arith, slice_get}
use Rattle.std.proofs.lemmas.List.{length-map}
use Rattle.vlt_syntax.specs.Tree as s
use Rattle.vlt_syntax.specs.Tree.{Decl}
use Rattle.vlt_syntax.specs.Lists.{Each}
use Rattle.vlt_syntax.specs.Grammar.{IsDecl, language}
use Rattle.vlt_core.specs.Core.{TypeDecl, Program}
use Rattle.vlt_core.specs.Lookups.{fields_in, fields_of}
use Rattle.vlt_kinds_types.specs.Files.{File, file_of, shape_named, state_names}
use Rattle.vlt_kinds_decls.specs.Made.{core_field, core_struct, core_types_in, core_types}
use Rattle.vlt_resolve_laws.proofs.OfKindsLaws.Rows.{each_at, each_in}

abbrev HasFewFields : TypeDecl → Type 0
HasFewFields d = length (fields_in (Some d)) ≤ 32

decl_few : (file : File) (d : Decl) → IsDecl language d → Each HasFewFields (core_types_in file d)
unfolding core_struct
decl_few file (s.stateset n ss at) right = tt
decl_few file (s.abstract n ss at) right = (omega arith, tt)
decl_few file (s.struct n ps ss fs r at) right =
    (subst (λ m. m ≤ 32) (sym (length-map fs (core_field file ps (state_names file (shape_named file n))))) right.2, tt)
decl_few file (s.variant n ps cs at) right = (omega arith, tt)
decl_few file (s.extern h at) right = tt
decl_few file (s.function h b at) right = tt

decls_few : (file : File) (ds : List Decl) → Each (IsDecl language) ds → Each (λ d. Each HasFewFields (core_types_in file d)) ds
decls_few file [] right = tt
decls_few file (d ∷ ds) right = (decl_few file d right.0, decls_few file ds right.1)

pub has_few_fields : (ds : List Decl) (p : Program) → Each (IsDecl language) ds → p.types ≡ core_types (file_of ds) ds →
    (t : ℕ) → length (fields_of p t) ≤ 32
has_few_fields ds p right same t =
    subst (λ ts. length (fields_in (slice_get ts t)) ≤ 32) (sym same) (by (slice_get (core_types (file_of ds) ds) t) (λ d is. each_at HasFewFields (core_types (file_of ds) ds) t d all is))
  where
    all : Each HasFewFields (core_types (file_of ds) ds)
    all = each_in HasFewFields (core_types_in (file_of ds)) ds (decls_few (file_of ds) ds right)

    by : (o : Option TypeDecl) → ((d : TypeDecl) → o ≡ Some d → HasFewFields d) → length (fields_in o) ≤ 32
    by None each = omega arith
    by (Some d) each = each d refl
