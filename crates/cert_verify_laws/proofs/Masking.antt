-- Each set of states in an elaborated program is a mask.
use Rattle.std.proofs.Common.{◌≡◌, false, ℕ, suc, List, [], ◌∷◌, Option, Some, None, slice_get, option_map, IfSome, refl, sym, ap, ◌∙◌, subst, arith}
use Rattle.vlt_syntax.specs.Tree.{Tree, Block, Head}
use Rattle.vlt_syntax.specs.Lists.{Each}
use Rattle.vlt_core.specs.Core as core
use Rattle.vlt_core.specs.Core.{States, Ty, owning, VarDecl, FieldDecl, CaseDecl, TypeDecl, a_struct, a_variant, Entry, Func, Program}
use Rattle.vlt_core.specs.Lookups.{owning_states_in, release_in, fields_in, cases_in}
use Rattle.vlt_kinds_types.specs.Kinds.{Kinds}
use Rattle.vlt_resolve_exprs.specs.Scopes.{Scope}
use Rattle.vlt_elaboration.specs.Elaboration.{body_scope, body_around, stmts_in}
use Rattle.vlt_resolve_laws.specs.Elaborated.{IsElaborated}
use Rattle.vlt_resolve_laws.specs.Made.{head_made, IsMade}
use Rattle.vlt_resolve_laws.specs.Narrow.{IsMask, HasMasks}
use Rattle.vlt_resolve_laws.specs.KindsLaws.Said.{TypeSays}
use Rattle.vlt_resolve_laws.proofs.Bodies.{made_head}
use Rattle.vlt_resolve_laws.proofs.Made.{HasFunctions, made_at, head_at}
use Rattle.vlt_resolve_laws.proofs.Starting.{body_is}
use Rattle.vlt_resolve_laws.proofs.WalkGrowing.{stmts_grow}
use Rattle.vlt_resolve_laws.proofs.Whole.{facts_of}
use Rattle.cert_rows.specs.Values.{mask}
use Rattle.cert_fit_laws.proofs.Listed.{all_from}
use Rattle.cert_fit_laws.proofs.Masks.{mask_fits}
use Rattle.cert_fit_laws.proofs.Masked.{IsMaskedTy, AreMasked, IsMaskedField, IsMaskedKey, IsMaskedCase, IsMaskedType, IsMaskedEntry, IsMaskedFunc, IsMaskedProgram}
use Rattle.cert_verify_laws.proofs.Packs.{each_before, HaveSaid, ResultSays, body_masked}

each_from : {A : Type 0} (P : A → Type 0) (xs : List A) → ((i : ℕ) (x : A) → slice_get xs i ≡ Some x → P x) → Each P xs
each_from P [] each = tt
each_from P (x ∷ xs) each = (each 0 x refl, each_from P xs (λ i y at. each (suc i) y at))

set_of : (s : States) → IsMask s → mask.Fits s
set_of s is = subst mask.Fits is.same (mask_fits (record { mask = is.number; filled = omega (arith, is.some); small = is.small }))

ty_masked : (ty : Ty) → TypeSays IsMask ty → IsMaskedTy ty
ty_masked core.int say = tt
ty_masked core.bool say = tt
ty_masked (core.tracked k t args) say = tt
ty_masked (core.owning s t args) say = set_of s (say s refl)
ty_masked (core.guarded k t args) say = tt
ty_masked (core.variant t args) say = tt
ty_masked (core.owning_variant t args) say = tt

maybe_ty : (o : Option Ty) → ((ty : Ty) → o ≡ Some ty → TypeSays IsMask ty) → IfSome o IsMaskedTy
maybe_ty None say = tt
maybe_ty (Some ty) say = ty_masked ty (say ty refl)

side_masked : (o : Option States) → IfSome o IsMask → IfSome o mask.Fits
side_masked None is = tt
side_masked (Some s) is = set_of s is

module _ (p : Program) (says : HasMasks p) where
  -- ---- declarations

  field_masked : (t : ℕ) (d : core.StructDecl) → slice_get p.types t ≡ Some (a_struct d) → (i : ℕ) (x : FieldDecl) → slice_get d.fields i ≡ Some x → IsMaskedField x
  field_masked t d there i x at =
      let here = ap (λ o. slice_get (fields_in o) i) there ∙ at in
      (ty_masked x.ty (says.fields t i x here), set_of x.states (says.touched t i x here))

  case_masked : (t : ℕ) (d : core.VariantDecl) → slice_get p.types t ≡ Some (a_variant d) → (c : ℕ) (x : CaseDecl) → slice_get d.cases c ≡ Some x → IsMaskedCase x
  case_masked t d there c x at =
      let here = ap (λ o. slice_get (cases_in o) c) there ∙ at in (
        all_from IsMaskedTy x.payload (λ i ty is. ty_masked ty (says.payloads t c i x ty here is)),
        all_from IsMaskedKey x.keys (λ i k is. set_of k.states (says.listed t c i x k here is)),
      )

  type_masked : (t : ℕ) (d : TypeDecl) → slice_get p.types t ≡ Some d → IsMaskedType d
  type_masked t (core.an_abstract name set) there = tt
  type_masked t (core.a_struct d) there = (
    set_of d.release (subst (λ o. IsMask (release_in p t o)) there (says.released t)),
    all_from IsMaskedField d.fields (field_masked t d there),
  )
  type_masked t (core.a_variant d) there = all_from IsMaskedCase d.cases (case_masked t d there)

  entry_masked : (g : ℕ) (f : Func) → slice_get p.fns g ≡ Some f → (i : ℕ) (e : Entry) → slice_get f.clause i ≡ Some e → IsMaskedEntry e
  entry_masked g f there i e at = (side_masked e.before (says.before g f i e there at), side_masked e.after (says.after g f i e there at))

  var_says : (g : ℕ) (f : Func) → slice_get p.fns g ≡ Some f → (v : ℕ) (d : VarDecl) → slice_get f.vars v ≡ Some d → TypeSays IsMask d.ty
  var_says g f there v d at states e = says.owned g f v states there (ap (λ o. owning_states_in (option_map (λ (d : VarDecl). d.ty) o)) at ∙ e)

  -- ---- bodies

  abbrev VarsSay : List VarDecl → Type 0
  VarsSay = Each (λ d. TypeSays IsMask d.ty)

  vars_say : (g : ℕ) (f : Func) → slice_get p.fns g ≡ Some f → VarsSay f.vars
  vars_say g f there = each_from (λ (d : VarDecl). TypeSays IsMask d.ty) f.vars (var_says g f there)

  result_of : (o : Option Ty) → ((ty : Ty) → o ≡ Some ty → TypeSays IsMask ty) → ResultSays IsMask set_of o
  result_of None say = tt
  result_of (Some ty) say = say ty refl

  module _ (kinds : Kinds) (has : HasFunctions kinds p) where
    -- the parameters of a head are the first variables of its function
    head_vars : (head : Head) (body : Option Block) (f : Func) → IsMade kinds head body f → VarsSay f.vars → VarsSay (head_made kinds head body).vars
    head_vars head None f m say = subst (λ (g : Func). VarsSay g.vars) m.walked say
    head_vars head (Some b) f m say =
        let h = head_made kinds head (Some b) in
        let w = m.walked.1 in
        let grows = (stmts_grow kinds (body_around h) (body_scope h) false (stmts_in b) w.last w.walked).grows in
        subst (λ (c : Scope). VarsSay c.vars) (body_is h)
        (each_before (λ (d : VarDecl). TypeSays IsMask d.ty) (body_scope h).vars grows.more_vars (subst VarsSay grows.vars (subst (λ (g : Func). VarsSay g.vars) w.made say)))

    have_said : HaveSaid IsMask set_of kinds
    have_said = record {
      fields = λ t. subst (λ ts. Each (λ (d : FieldDecl). TypeSays IsMask d.ty) (fields_in (slice_get ts t))) has.types
          (each_from (λ (d : FieldDecl). TypeSays IsMask d.ty) (fields_in (slice_get p.types t)) (says.fields t));
      cases = λ t. subst (λ ts. Each (λ (c : CaseDecl). Each (TypeSays IsMask) c.payload) (cases_in (slice_get ts t))) has.types
          (each_from (λ (c : CaseDecl). Each (TypeSays IsMask) c.payload) (cases_in (slice_get p.types t)) (λ c x at. each_from (TypeSays IsMask) x.payload (λ i ty is. says.payloads t c i x ty at is)));
      heads = λ g h at.
          let m = head_at kinds kinds.heads p.fns has.made g h at in
          subst (λ (k : Func). VarsSay k.vars) (sym m.is) (head_vars m.head m.body m.func m.made (vars_say g m.func m.there));
    }

    body_of : (g : ℕ) (f : Func) → slice_get p.fns g ≡ Some f → (head : Head) (body : Option Block) → IsMade kinds head body f → AreMasked f.body
    body_of g f there head None m = subst (λ (k : Func). AreMasked k.body) (sym m.walked) tt
    body_of g f there head (Some b) m =
        let h = head_made kinds head (Some b) in
        let w = m.walked.1 in
        let same = (made_head kinds h (Some b) f m.walked).result in
        subst (λ (k : Func). AreMasked k.body) (sym w.made)
        (body_masked IsMask set_of kinds have_said h b w.last
        (result_of h.result (λ ty is. says.results g f ty there (same ∙ is)))
        (subst (λ (k : Func). VarsSay k.vars) w.made (vars_say g f there)) w.walked)

    func_masked : (g : ℕ) (f : Func) → slice_get p.fns g ≡ Some f → IsMaskedFunc f
    func_masked g f there = record {
      result = maybe_ty f.result (λ ty is. says.results g f ty there is);
      clause = all_from IsMaskedEntry f.clause (entry_masked g f there);
      vars = all_from (λ (d : VarDecl). IsMaskedTy d.ty) f.vars (λ v d at. ty_masked d.ty (var_says g f there v d at));
      body = let m = made_at kinds kinds.heads p.fns has.made g f there in body_of g f there m.head m.body m.made;
    }

    all_masked : IsMaskedProgram p
    all_masked = record {
      types = all_from IsMaskedType p.types type_masked;
      fns = all_from IsMaskedFunc p.fns func_masked;
    }

pub elaborated_masked : (t : Tree) (kinds : Kinds) (p : Program) → IsElaborated t kinds p → HasMasks p → IsMaskedProgram p
elaborated_masked t kinds p e says = all_masked p says kinds (facts_of t kinds p e).functions
