-- What the grammar says of lengths holds of the core program: cases, payloads and parameters.
use Rattle.std.proofs.Common.{◌≡◌, ℕ, ◌≤◌, List, [], ◌∷◌, length, map, Option, Some, None, slice_get, refl, sym, ap, ◌∙◌, subst, arith}
use Rattle.std.proofs.lemmas.List.{length-map}
use Rattle.std.proofs.lemmas.Option.{none-some}
use Rattle.vlt_syntax.specs.Tree as s
use Rattle.vlt_syntax.specs.Tree.{Case, HeaderKey, Decl}
use Rattle.vlt_syntax.specs.Lists.{Each}
use Rattle.vlt_syntax.specs.Grammar.{IsCase, IsDecl, language}
use Rattle.vlt_core.specs.Core as core
use Rattle.vlt_core.specs.Core.{CaseDecl, TypeDecl, Func, Program}
use Rattle.vlt_core.specs.Lookups.{case_at, cases_in, cases_of}
use Rattle.vlt_kinds_types.specs.Files.{File, file_of}
use Rattle.vlt_kinds_types.specs.Types.{core_ty}
use Rattle.vlt_kinds_decls.specs.Made.{header_number, core_case, core_variant, core_types_in, core_types}
use Rattle.vlt_kinds_heads.specs.Phase.{core_head, core_heads_in, core_heads}
use Rattle.vlt_kinds.specs.Tables.{kinds_of}
use Rattle.vlt_resolve_laws.proofs.OfKindsLaws.Rows.{each_at, each_in}
use Rattle.vlt_resolve_laws.specs.Made.{head_made}
use Rattle.vlt_resolve_laws.proofs.Bodies.{made_head}
use Rattle.vlt_resolve_laws.proofs.Made.{HasFunctions, made_at}

-- ---- declared types

record HasFewCases (d : TypeDecl) : Type 0 where
  cases : length (cases_in (Some d)) ≤ 32
  payloads : Each (λ (c : CaseDecl). length c.payload ≤ 8) (cases_in (Some d))

module _ (file : File) where
  few_payloads : (ps : List HeaderKey) (cs : List Case) → Each (IsCase language) cs → Each (λ (c : CaseDecl). length c.payload ≤ 8) (map (core_case file ps) cs)
  unfolding core_case
  few_payloads ps [] right = tt
  few_payloads ps (c ∷ cs) right = (subst (λ n. n ≤ 8) (sym (length-map c.payload (core_ty file (header_number ps)))) right.0.1, few_payloads ps cs right.1)

  few_cases : (d : Decl) → IsDecl language d → Each HasFewCases (core_types_in file d)
  unfolding core_variant
  few_cases (s.stateset n ss at) right = tt
  few_cases (s.abstract n ss at) right = (record { cases = omega arith; payloads = tt }, tt)
  few_cases (s.struct n ps ss fs r at) right = (record { cases = omega arith; payloads = tt }, tt)
  few_cases (s.variant n ps cs at) right =
      (record { cases = subst (λ n. n ≤ 32) (sym (length-map cs (core_case file ps))) right.3; payloads = few_payloads ps cs right.2 }, tt)
  few_cases (s.extern h at) right = tt
  few_cases (s.function h b at) right = tt

  few_in_all : (ds : List Decl) → Each (IsDecl language) ds → Each (λ d. Each HasFewCases (core_types_in file d)) ds
  few_in_all [] right = tt
  few_in_all (d ∷ ds) right = (few_cases d right.0, few_in_all ds right.1)

module _ (ds : List Decl) (p : Program) (right : Each (IsDecl language) ds) (same : p.types ≡ core_types (file_of ds) ds) where
  declared : (t : ℕ) (d : TypeDecl) → slice_get p.types t ≡ Some d → HasFewCases d
  declared t d at =
      each_at HasFewCases (core_types (file_of ds) ds) t d (each_in HasFewCases (core_types_in (file_of ds)) ds (few_in_all (file_of ds) ds right))
      (sym (ap (λ ts. slice_get ts t) same) ∙ at)

  pub cases_few : (t : ℕ) → length (cases_of p t) ≤ 32
  cases_few t = by (slice_get p.types t) refl
    where
      by : (o : Option TypeDecl) → slice_get p.types t ≡ o → length (cases_in o) ≤ 32
      by None q = omega arith
      by (Some d) q = (declared t d q).cases

  pub payloads_few : (t c : ℕ) (d : CaseDecl) → case_at p t c ≡ Some d → length d.payload ≤ 8
  payloads_few t c d at = by (slice_get p.types t) refl at
    where
      by : (o : Option TypeDecl) → slice_get p.types t ≡ o → slice_get (cases_in o) c ≡ Some d → length d.payload ≤ 8
      by None q at = absurd (none-some d at)
      by (Some x) q at = each_at (λ (c : CaseDecl). length c.payload ≤ 8) (cases_in (Some x)) c d (declared t x q).payloads at

-- ---- heads

FewParameters : Func → Type 0
FewParameters f = f.params ≤ 16

head_few : (file : File) (d : Decl) → IsDecl language d → Each FewParameters (core_heads_in file d)
unfolding core_head FewParameters
head_few file (s.stateset n ss at) right = tt
head_few file (s.abstract n ss at) right = tt
head_few file (s.struct n ps ss fs r at) right = tt
head_few file (s.variant n ps cs at) right = tt
head_few file (s.extern h at) right = (right.few, tt)
head_few file (s.function h b at) right = (right.0.few, tt)

heads_few : (file : File) (ds : List Decl) → Each (IsDecl language) ds → Each (λ d. Each FewParameters (core_heads_in file d)) ds
heads_few file [] right = tt
heads_few file (d ∷ ds) right = (head_few file d right.0, heads_few file ds right.1)

pub parameters_few : (ds : List Decl) (p : Program) → Each (IsDecl language) ds → HasFunctions (kinds_of ds) p →
    (g : ℕ) (gf : Func) → slice_get p.fns g ≡ Some gf → gf.params ≤ 16
unfolding FewParameters
parameters_few ds p right functions g gf at =
    let m = made_at (kinds_of ds) (kinds_of ds).heads p.fns functions.made g gf at in
    subst (λ n. n ≤ 16) (sym (made_head (kinds_of ds) (head_made (kinds_of ds) m.head m.body) m.body gf m.made.walked).params)
    (each_at FewParameters (core_heads (file_of ds) ds) g (head_made (kinds_of ds) m.head m.body)
    (each_in FewParameters (core_heads_in (file_of ds)) ds (heads_few (file_of ds) ds right)) m.there)
