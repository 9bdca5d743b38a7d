-- Of a program that the conditions hold of, what an external gives as a variant can be read from an answer.
use Rattle.std.proofs.Common.{◌≡◌, ℕ, zero, suc, not, ◌||◌, true, List, [], ◌∷◌, length, Option, Some, None, slice_get, refl, sym, ap, ◌∙◌, arith}
use Rattle.std.proofs.lemmas.Bool.{false≢true}
use Rattle.std.proofs.lemmas.Option.{none-some}
use Rattle.std.specs.List.{flat_map}
use Rattle.vlt_core.specs.Core as core
use Rattle.vlt_core.specs.Core.{Ty, CaseKey, CaseDecl, TypeDecl, an_abstract, a_struct, a_variant, Func, Program}
use Rattle.vlt_core.specs.Lookups.{cases_of, cases_in, fields_of, fields_in, variant_in}
use Rattle.vlt_core.specs.Types.{decl_of, is_struct}
use Rattle.vlt_core.specs.Types as types
use Rattle.vlt_core.specs.KindedHeads.{has, unless, when_some, tracked_keys, external_case_broken, is_external_payload}
use Rattle.vlt_core.specs.declared.rules.TheConstants as rule
use Rattle.c_lower_worlds.specs.Naming.Lists.{Each}
use Rattle.c_lower_runs.specs.Lowerable.{IsLowerable}
use Rattle.c_lower_worlds.proofs.OfNaming.DeclaredTypes.{IsOfVariant, result_variant, result_owning_variant, key_in_header}
use Rattle.vlt_core_laws.proofs.Headed.{each_at}
use Rattle.c_lower_runs.proofs.ExternalHeads.{key_parameter}
use Rattle.c_lower_runs.proofs.Conditions.{proper_set, declared_row}
use Rattle.c_lower_worlds.proofs.OfNaming.RuleFacts.{both_empty}
use Rattle.vlt_core_laws.proofs.Unbroken.{unless_holds}
use Rattle.c_lower_runs.proofs.VariantResults.{IsGivenPayload, IsGivenKey, IsVariantResult}

each_placed : {A : Type 0} (P : A → Type 0) (xs : List A) → ((i : ℕ) (x : A) → slice_get xs i ≡ Some x → P x) → Each P xs
each_placed P [] h = tt
each_placed P (x ∷ xs) h = (h 0 x refl, each_placed P xs (λ i y at. h (suc i) y at))

-- as long a list has an element there too
there_too : {A B : Type 0} (xs : List A) (ys : List B) (i : ℕ) (x : A) → length ys ≡ length xs → slice_get xs i ≡ Some x → (y : B) × (slice_get ys i ≡ Some y)
there_too [] ys i x e at = absurd (none-some x at)
there_too (z ∷ xs) [] i x e at = absurd (omega arith)
there_too (z ∷ xs) (y ∷ ys) zero x e at = (y, refl)
there_too (z ∷ xs) (y ∷ ys) (suc i) x e at = there_too xs ys i x (omega arith) at

-- a type that is no struct has no fields
no_fields : (p : Program) (t : ℕ) → not (is_struct (decl_of p t) || types.is_variant (decl_of p t)) ≡ true → fields_of p t ≡ []
no_fields p t e = by (slice_get p.types t) e
  where
    by : (o : Option TypeDecl) → not (is_struct o || types.is_variant o) ≡ true → fields_in o ≡ []
    by None e = refl
    by (Some (an_abstract name set)) e = refl
    by (Some (a_variant d)) e = refl
    by (Some (a_struct d)) e = absurd (false≢true e)

module _ (p : Program) (h : IsLowerable p) (g : ℕ) (gf : Func) (at : slice_get p.fns g ≡ Some gf) (external : gf.external ≡ true) (t : ℕ) (args : List ℕ)
    (given : variant_in gf.result ≡ Some (record { type = t; args = args })) (variant : IsOfVariant p t args) (rows : flat_map (external_case_broken p gf args) (cases_of p t) ≡ []) where
  case_row : (c : ℕ) (d : CaseDecl) → slice_get (cases_of p t) c ≡ Some d → external_case_broken p gf args d ≡ []
  case_row c d there = each_at (external_case_broken p gf args) (cases_of p t) c d rows there

  payload : (c : ℕ) (d : CaseDecl) → slice_get (cases_of p t) c ≡ Some d → (i : ℕ) (ty : Ty) → slice_get d.payload i ≡ Some ty → IsGivenPayload p ty
  payload c d there i ty here =
      let row = both_empty (flat_map (λ ty. unless (is_external_payload p ty) rule.EXTERN_HEAD) d.payload) _ (case_row c d there) in
      by ty here (unless_holds (is_external_payload p ty) rule.EXTERN_HEAD (each_at (λ ty. unless (is_external_payload p ty) rule.EXTERN_HEAD) d.payload i ty row.left here))
    where
      by : (ty : Ty) → slice_get d.payload i ≡ Some ty → is_external_payload p ty ≡ true → IsGivenPayload p ty
      by core.int here e = tt
      by core.bool here e = tt
      by (core.tracked k u others) here e = absurd (false≢true e)
      by (core.guarded k u others) here e = absurd (false≢true e)
      by (core.variant u others) here e = absurd (false≢true e)
      by (core.owning_variant u others) here e = absurd (false≢true e)
      by (core.owning states u others) here e = (proper_set states ((h.externals g gf at external).payloads t c i args d states u others given there here), no_fields p u e)

  key : (c : ℕ) (d : CaseDecl) → slice_get (cases_of p t) c ≡ Some d → (i : ℕ) (k : CaseKey) → slice_get d.keys i ≡ Some k → IsGivenKey gf args k
  key c d there i k here =
      let in_cases : slice_get variant.decl.cases c ≡ Some d = sym (ap (λ o. slice_get (cases_in o) c) variant.at) ∙ there in
      let header = key_in_header p h.kinded t variant.decl variant.at c i d k in_cases here in
      let arg = there_too variant.decl.header args k.position header.0 variant.count header.1 in
      let row = both_empty _ (flat_map (λ (q : CaseKey). when_some (slice_get args q.position) (λ k. unless (has (tracked_keys gf) k) rule.EXTERN_HEAD)) d.keys) (case_row c d there) in
      let one = each_at (λ (q : CaseKey). when_some (slice_get args q.position) (λ k. unless (has (tracked_keys gf) k) rule.EXTERN_HEAD)) d.keys i k row.right here in
      record {
        proper = proper_set k.states ((h.externals g gf at external).listed t c i args d k given there here);
        key = arg.0;
        at = arg.1;
        parameter = key_parameter gf arg.0 (unless_holds (has (tracked_keys gf) arg.0) rule.EXTERN_HEAD (ap (λ (o : Option ℕ). when_some o (λ k. unless (has (tracked_keys gf) k) rule.EXTERN_HEAD)) (sym arg.1) ∙ one));
      }

  variant_result : IsVariantResult p gf t args
  variant_result = record {
    few = (h.externals g gf at external).cases t args given;
    payloads = λ c d there. each_placed (IsGivenPayload p) d.payload (payload c d there);
    keys = λ c d there. each_placed (IsGivenKey gf args) d.keys (key c d there);
  }

pub given_variant : (p : Program) → IsLowerable p → (g : ℕ) (gf : Func) → slice_get p.fns g ≡ Some gf → gf.external ≡ true → (t : ℕ) (args : List ℕ) → gf.result ≡ Some (core.variant t args) → IsVariantResult p gf t args
given_variant p h g gf at external t args q =
    let variant = result_variant p h.kinded g gf at t args q in
    variant_result p h g gf at external t args (ap variant_in q) variant (declared_row p h g gf at external (core.variant t args) t q refl (ap Rattle.std.specs.Prelude.is_some variant.at))

pub given_owning_variant : (p : Program) → IsLowerable p → (g : ℕ) (gf : Func) → slice_get p.fns g ≡ Some gf → gf.external ≡ true → (t : ℕ) (args : List ℕ) → gf.result ≡ Some (core.owning_variant t args) → IsVariantResult p gf t args
given_owning_variant p h g gf at external t args q =
    let variant = result_owning_variant p h.kinded g gf at t args q in
    variant_result p h g gf at external t args (ap variant_in q) variant (declared_row p h g gf at external (core.owning_variant t args) t q refl (ap Rattle.std.specs.Prelude.is_some variant.at))
