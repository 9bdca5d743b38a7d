-- Two lists of names that have the same names hide the same.
use Rattle.std.proofs.Common.{◌≡◌, ◌==◌, ◌||◌, ℕ, Bool, if◌then◌else◌, List, [], ◌∷◌, ◌++◌, Option, None, Some, slice_get, refl, ap, ap₂, ◌∙◌}
use Rattle.std.specs.List.{list_any}
use Rattle.vlt_syntax.specs.Tree as s
use Rattle.vlt_syntax.specs.Tree.{Named, ResultType, Decl}
use Rattle.vlt_core.specs.Core as core
use Rattle.vlt_core.specs.Core.{TypeDecl, CaseDecl}
use Rattle.vlt_kinds_types.specs.declared.names.found.Refusal.{Refusal}
use Rattle.vlt_kinds_types.specs.Names.Refusals.{refuse_if, least_from}
use Rattle.vlt_kinds_types.specs.Files.{File, type_named, then_with}
use Rattle.vlt_kinds_heads.specs.Externals.{cases_named}
use Rattle.vlt_iface.specs.declared.rules.TheConstants.{ABSTRACT_RESULT}
use Rattle.vlt_iface.specs.Texts.{AreTextsOf}
use Rattle.vlt_views.specs.Hidden.{type_name, is_hidden, hides, case_hides, named_hides, ty_hides, result_hides, own_refused_in, own_refused}

any_alike : {A : Type 0} (p q : A → Bool) → ((x : A) → p x ≡ q x) → (xs : List A) → list_any p xs ≡ list_any q xs
any_alike p q same [] = refl
any_alike p q same (x ∷ xs) = ap₂ (λ a b. a || b) (same x) (any_alike p q same xs)

module _ (ns ks : List (List ℕ)) (same : AreTextsOf ns ks) (types : List TypeDecl) where
  hidden_alike : (o : Option TypeDecl) → is_hidden ks o ≡ is_hidden ns o
  hidden_alike None = refl
  hidden_alike (Some d) = same (type_name d)

  hides_alike : (t : core.Ty) → hides ks types t ≡ hides ns types t
  hides_alike core.int = refl
  hides_alike core.bool = refl
  hides_alike (core.tracked k t args) = hidden_alike (slice_get types t)
  hides_alike (core.owning states t args) = hidden_alike (slice_get types t)
  hides_alike (core.guarded k t args) = hidden_alike (slice_get types t)
  hides_alike (core.variant t args) = hidden_alike (slice_get types t)
  hides_alike (core.owning_variant t args) = hidden_alike (slice_get types t)

  case_alike : (c : CaseDecl) → case_hides ks types c ≡ case_hides ns types c
  case_alike c = any_alike (hides ks types) (hides ns types) hides_alike c.payload

  module _ (file : File) where
    named_alike : (n : Named) → named_hides ks types file n ≡ named_hides ns types file n
    named_alike n =
        ap₂ (λ a b. a || b) (hidden_alike (then_with (type_named file n.name) (slice_get types)))
        (any_alike (case_hides ks types) (case_hides ns types) case_alike (cases_named file types n))

    ty_alike : (t : s.Ty) → ty_hides ks types file t ≡ ty_hides ns types file t
    ty_alike (s.int at) = refl
    ty_alike (s.bool at) = refl
    ty_alike (s.tracked k n at) = named_alike n
    ty_alike (s.owning ss n at) = named_alike n
    ty_alike (s.guarded k n) = named_alike n
    ty_alike (s.plain n) = named_alike n

    result_alike : (r : ResultType) → result_hides ks types file r ≡ result_hides ns types file r
    result_alike (s.void at) = refl
    result_alike (s.value t) = ty_alike t

    decl_alike : (o : ℕ) (d : Decl) → own_refused_in ks types file o d ≡ own_refused_in ns types file o d
    decl_alike o (s.extern h at) =
        ap (λ b. if o == 0 then [] else refuse_if b ABSTRACT_RESULT h.name.at.from) (result_alike h.result_type)
    decl_alike o (s.stateset n ss at) = refl
    decl_alike o (s.abstract n ss at) = refl
    decl_alike o (s.struct n ps ss fs r at) = refl
    decl_alike o (s.variant n ps cs at) = refl
    decl_alike o (s.function h b at) = refl

    decls_alike : (os : List ℕ) (ds : List Decl) → own_refused ks types file os ds ≡ own_refused ns types file os ds
    decls_alike [] ds = refl
    decls_alike (o ∷ os) [] = refl
    decls_alike (o ∷ os) (d ∷ ds) = ap₂ (λ rs ss. rs ++ ss) (decl_alike o d) (decls_alike os ds)

-- what is noted with the one is noted with the other
pub own_alike : (ns ks : List (List ℕ)) (types : List TypeDecl) (file : File) (os : List ℕ) (ds : List Decl) (found after : Option Refusal)
    → AreTextsOf ns ks → after ≡ least_from found (own_refused ks types file os ds) → after ≡ least_from found (own_refused ns types file os ds)
own_alike ns ks types file os ds found after same noted = noted ∙ ap (λ rs. least_from found rs) (decls_alike ns ks same types file os ds)
