-- Variables of a variant's type: their slots, and the cases that they may have.
use Rattle.std.proofs.Common.{◌≡◌, ℕ, ◌==◌, true, List, [], ◌∷◌, map, length, Option, Some, None, refl, ap, ◌∙◌, subst}
use Rattle.std.proofs.lemmas.Bool.{false≢true, eqb-true}
use Rattle.std.proofs.lemmas.Option.{same_Some}
use Rattle.vlt_core.specs.Core as core
use Rattle.vlt_core.specs.Core.{Ty, CaseDecl, Func, Program}
use Rattle.vlt_core.specs.Lookups.{case_at, var_type, variant_in}
use Rattle.vlt_core.specs.Types as types
use Rattle.vlt_core.specs.Types.{decl_of, with_keys}
use Rattle.vlt_core.specs.KindedHeads.{unless}
use Rattle.vlt_core.specs.KindedStatements as kinded
use Rattle.vlt_core.specs.declared.rules.TheConstants as rule
use Rattle.vlt_core_laws.proofs.Unbroken.{unless_holds, filled_not_empty}
use Rattle.c_syntax.specs.declared.program.CResult.TheVariants as result
use Rattle.c_lower.specs.Slots.{of_number, slot_sorts, variant_sorts, slot_vars, slot_of}
use Rattle.c_lower.specs.Statements.{variant_type, variant_type_in, after_first}
use Rattle.c_lower_runs.proofs.OfTexts.Ruled.{Place, IsVar}
use Rattle.c_lower_runs.proofs.OfTexts.SlotTypes.{VarsFit, typed_slots_fit, first_fits}
use Rattle.c_lower_runs.proofs.OfTexts.ExpressionKinds.{Here}
use Rattle.c_lower_worlds.specs.Naming.Types.{names_variant}

-- a type that is a variant's
pub record VariantVar (p : Program) (ty : Ty) : Type 0 where
  pub type : ℕ
  pub args : List ℕ
  pub args_are : kinded.variant_args (Some ty) ≡ Some (type, args)
  pub sorts : slot_sorts p ty ≡ variant_sorts p type
  pub type_is : variant_type_in (variant_in (Some ty)) ≡ type

pub variant_var : (p : Program) (ty : Ty) → kinded.is_variant_type ty ≡ true → VariantVar p ty
variant_var p (core.variant t args) e = record { type = t; args = args; args_are = refl; sorts = refl; type_is = refl }
variant_var p (core.owning_variant t args) e = record { type = t; args = args; args_are = refl; sorts = refl; type_is = refl }
variant_var p core.int e = absurd (false≢true e)
variant_var p core.bool e = absurd (false≢true e)
variant_var p (core.tracked k t args) e = absurd (false≢true e)
variant_var p (core.owning s t args) e = absurd (false≢true e)
variant_var p (core.guarded k t args) e = absurd (false≢true e)

pub declared_variant : (p : Program) (ty : Ty) (v : VariantVar p ty) → names_variant p ty ≡ true → kinded.is_variant_type ty ≡ true → types.is_variant (decl_of p v.type) ≡ true
declared_variant p (core.variant t args) v e i = subst (λ (q : ℕ × List ℕ). types.is_variant (decl_of p q.0) ≡ true) (same_Some (t, args) (v.type, v.args) v.args_are) e
declared_variant p (core.owning_variant t args) v e i = subst (λ (q : ℕ × List ℕ). types.is_variant (decl_of p q.0) ≡ true) (same_Some (t, args) (v.type, v.args) v.args_are) e
declared_variant p core.int v e i = absurd (false≢true i)
declared_variant p core.bool v e i = absurd (false≢true i)
declared_variant p (core.tracked k t args) v e i = absurd (false≢true i)
declared_variant p (core.owning s t args) v e i = absurd (false≢true i)
declared_variant p (core.guarded k t args) v e i = absurd (false≢true i)

-- a case with as many payloads as are given
pub record CaseThere (p : Program) (type c n : ℕ) : Type 0 where
  pub decl : CaseDecl
  pub at : case_at p type c ≡ Some decl
  pub count : n ≡ length decl.payload

pub case_there : (p : Program) (type c n : ℕ) (args : List ℕ) → types.is_variant (decl_of p type) ≡ true → kinded.case_broken p c n (Some (type, args)) ≡ [] → CaseThere p type c n
case_there p type c n args there e = by (case_at p type c) refl
  where
    by : (o : Option CaseDecl) → case_at p type c ≡ o → CaseThere p type c n
    by None at = let q : rule.UNKNOWN_NAME ∷ [] ≡ [] = rw (there, at) at e in absurd (filled_not_empty rule.UNKNOWN_NAME [] q)
    by (Some d) at =
        let q : unless (n == length d.payload) rule.WRONG_COUNT ≡ [] = rw (there, at) at e in
        record { decl = d; at = at; count = eqb-true n (length d.payload) (unless_holds (n == length d.payload) rule.WRONG_COUNT q) }

-- ---- a variable

module _ (a : Place) (p : Program) (f : Func) where
  -- a variable of a variant's type
  pub record VariantAt (v : ℕ) : Type 0 where
    pub ty : Ty
    pub is : var_type f v ≡ Some ty
    pub var : VariantVar p ty
    pub there : types.is_variant (decl_of p var.type) ≡ true

  pub type_at : (v : ℕ) (s : VariantAt v) → variant_type f v ≡ s.var.type
  type_at v s = ap (λ o. variant_type_in (variant_in o)) s.is ∙ s.var.type_is

  args_at : (v : ℕ) (s : VariantAt v) → kinded.variant_args (var_type f v) ≡ Some (s.var.type, s.var.args)
  args_at v s = ap kinded.variant_args s.is ∙ s.var.args_are

  -- a case of it with as many payloads as are given
  pub case_of : (v : ℕ) (s : VariantAt v) (k n : ℕ) → kinded.case_broken p k n (kinded.variant_args (var_type f v)) ≡ [] → CaseThere p s.var.type k n
  case_of v s k n e = case_there p s.var.type k n s.var.args s.there (subst (λ o. kinded.case_broken p k n o ≡ []) (args_at v s) e)

  pub case_types : (v : ℕ) (s : VariantAt v) (k n : ℕ) (case : CaseThere p s.var.type k n) → kinded.payload_types p (kinded.variant_args (var_type f v)) k ≡ map (with_keys s.var.args) case.decl.payload
  case_types v s k n case = ap (λ o. kinded.payload_types p o k) (args_at v s) ∙ ap (kinded.payload_types_in s.var.args) case.at

  module _ (here : Here a p f) where
    pub variant_at : (v : ℕ) (ty : Ty) → var_type f v ≡ Some ty → kinded.is_variant_type ty ≡ true → VariantAt v
    variant_at v ty is e = let var = variant_var p ty e in record { ty = ty; is = is; var = var; there = declared_variant p ty var (here.types.variables f here.is v ty is) e }

    pub slots_at : (v : ℕ) (s : VariantAt v) → VarsFit a (variant_sorts p s.var.type) (slot_vars p f v)
    slots_at v s = subst (λ ss. VarsFit a ss (slot_vars p f v)) s.var.sorts (typed_slots_fit a p f v s.ty here.up s.is)

    -- the slot of the case
    pub case_slot : (v : ℕ) → VariantAt v → IsVar a result.Number (slot_of p f v)
    case_slot v s = first_fits a of_number (after_first (variant_sorts p s.var.type)) (slot_vars p f v) (slots_at v s)
