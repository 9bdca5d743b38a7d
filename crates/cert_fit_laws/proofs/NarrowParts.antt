-- Statements that break no rule have narrow numbers.
use Rattle.std.proofs.Common.{◌≡◌, ◌≤◌, ℕ, nat_lt, Bool, true, false, ◌==◌, if◌then◌else◌, List, [], ◌∷◌, ◌++◌, length, Option, Some, None, refl, ap, subst, slice_get}
use Rattle.vlt_ops.specs.Operator.{row_of}
use Rattle.vlt_core.specs.Core as core
use Rattle.vlt_core.specs.Core.{Ty, int, bool, tracked, owning, guarded, variant, owning_variant, TypeDecl, CaseDecl, FieldDecl, Expr, Operand, pure, move, pack, Func, Program}
use Rattle.vlt_core.specs.Lookups.{var_type, fields_of, cases_of}
use Rattle.vlt_core.specs.Types.{decl_of, is_struct, is_variant}
use Rattle.vlt_core.specs.KindedHeads.{Rules, unless, when_some, argument_broken, type_broken}
use Rattle.vlt_core.specs.KindedScopes.{Ids, use_broken}
use Rattle.vlt_core.specs.KindedOperands.{misfit, object_in, field_type, is_permitted, type_of_expr, left_broken, right_wanted, touch_broken, not_owning_broken, expr_broken, value_broken, move_broken, pack_broken, operand_broken, operands_broken}
use Rattle.vlt_core.specs.KindedStatements.{tracked_broken, tracked_type, struct_broken, variant_args, case_broken, is_variant_type}
use Rattle.vlt_core.specs.declared.rules.TheConstants as rule
use Rattle.vlt_core_laws.proofs.Unbroken.{filled_not_empty, left_empty, right_empty}
use Rattle.cert_rows.specs.Parts.{All}
use Rattle.cert_fit_laws.proofs.Narrow.{IsId, IsNarrowExpr, IsNarrowOperand}
use Rattle.cert_fit_laws.proofs.Masked.{IsMaskedOperand}
use Rattle.cert_fit_laws.proofs.NarrowNumbers.{Bounds, part_id, part_byte, within, use_there, use_id, type_at}
use Rattle.cert_fit_laws.proofs.Types.{when_at, declared, key_rule, there_type, variant_type, owning_type}

pub chosen_go : (c : Bool) (xs : Rules) (r : ℕ) → (if c then xs else r ∷ []) ≡ [] → xs ≡ []
chosen_go true xs r e = e
chosen_go false xs r e = absurd (filled_not_empty r [] e)

module _ (p : Program) (f : Func) (b : Bounds p f) where
  -- ---- expressions

  abbrev of_field : (x : ℕ) → Option FieldDecl → Rules
  of_field x None = rule.UNKNOWN_NAME ∷ []
  of_field x (Some d) = unless (is_permitted p (var_type f x) d) rule.GUARDED_FIELD

  abbrev of_object : (x i : ℕ) → Option (ℕ × List ℕ) → Rules
  of_object x i None = rule.WRONG_TYPE ∷ []
  of_object x i (Some o) = when_some (decl_of p o.0) (λ d. of_field x (slice_get (fields_of p o.0) i))

  field_low : (t x i : ℕ) → of_field x (slice_get (fields_of p t) i) ≡ [] → IsId i
  field_low t x i e = by (slice_get (fields_of p t) i) refl e
    where
      by : (o : Option FieldDecl) → slice_get (fields_of p t) i ≡ o → of_field x o ≡ [] → IsId i
      by None at e = absurd (filled_not_empty rule.UNKNOWN_NAME [] e)
      by (Some d) at e = part_id i (length (fields_of p t)) (within (fields_of p t) i d at) (b.fields t)

  object_low : (x i : ℕ) (ty : Ty) → type_broken p f ty ≡ [] → of_object x i (object_in (Some ty)) ≡ [] → IsId i
  object_low x i (tracked k t args) typed e =
      let d = declared p (key_rule p f) (argument_broken p f) (tracked k t args) t refl (there_type p f (tracked k t args) typed) in
      field_low t x i (when_at (decl_of p t) (λ d. of_field x (slice_get (fields_of p t) i)) d.0 d.1 e)
  object_low x i (guarded k t args) typed e =
      let d = declared p (key_rule p f) (argument_broken p f) (guarded k t args) t refl (there_type p f (guarded k t args) typed) in
      field_low t x i (when_at (decl_of p t) (λ d. of_field x (slice_get (fields_of p t) i)) d.0 d.1 e)
  object_low x i int typed e = absurd (filled_not_empty rule.WRONG_TYPE [] e)
  object_low x i bool typed e = absurd (filled_not_empty rule.WRONG_TYPE [] e)
  object_low x i (owning s t args) typed e = absurd (filled_not_empty rule.WRONG_TYPE [] e)
  object_low x i (variant t args) typed e = absurd (filled_not_empty rule.WRONG_TYPE [] e)
  object_low x i (owning_variant t args) typed e = absurd (filled_not_empty rule.WRONG_TYPE [] e)

  pub touch_low : (ids : Ids) (x i : ℕ) → touch_broken p f ids x i ≡ [] → IsId x × IsId i
  touch_low ids x i e =
      let u = left_empty (use_broken f ids x) _ e in
      let ty = type_at p f b x (use_there p f b ids x u) in
      (use_id p f b ids x u, object_low x i ty.0 ty.2 (when_at (var_type f x) (λ ty. of_object x i (object_in (Some ty))) ty.0 ty.1 (right_empty (use_broken f ids x) _ e)))

  pub expr_narrow : (ids : Ids) (e : Expr) → expr_broken p f ids e ≡ [] → IsNarrowExpr e
  expr_narrow ids (core.number z) e = tt
  expr_narrow ids (core.truth t) e = tt
  expr_narrow ids (core.var v) e = use_id p f b ids v (left_empty (use_broken f ids v) _ e)
  expr_narrow ids (core.field x i) e = touch_low ids x i (left_empty (touch_broken p f ids x i) (not_owning_broken rule.WRONG_SWAP (field_type p f x i)) e)
  expr_narrow ids (core.unary op a) e = expr_narrow ids a (left_empty (expr_broken p f ids a) (left_broken (row_of op).takes (type_of_expr p f a)) e)
  expr_narrow ids (core.binary op a c) e =
      let first_part = left_empty (expr_broken p f ids a ++ expr_broken p f ids c) (left_broken (row_of op).takes (type_of_expr p f a))
      (left_empty _ (misfit (right_wanted (row_of op).takes (type_of_expr p f a)) (type_of_expr p f c)) e) in
      (expr_narrow ids a (left_empty (expr_broken p f ids a) (expr_broken p f ids c) first_part), expr_narrow ids c (right_empty (expr_broken p f ids a) (expr_broken p f ids c) first_part))

  pub value_narrow : (ids : Ids) (w : Option Ty) (e : Expr) → value_broken p f ids w e ≡ [] → IsNarrowExpr e
  value_narrow ids w e r = expr_narrow ids e (left_empty (expr_broken p f ids e) (misfit w (type_of_expr p f e)) r)

  -- ---- operands

  pub operand_narrow : (ids : Ids) (w : Option Ty) (o : Operand) → IsMaskedOperand o → operand_broken p f ids w o ≡ [] → IsNarrowOperand o
  operand_narrow ids w (pure e) m r = expr_narrow ids e (left_empty (expr_broken p f ids e) _ r)
  operand_narrow ids w (move v) m r = use_id p f b ids v (left_empty (use_broken f ids v) (move_broken w (var_type f v)) r)
  operand_narrow ids w (pack x s) m r = (use_id p f b ids x (left_empty (use_broken f ids x) (pack_broken p w (var_type f x) s) r), m)

  pub operands_narrow : (ids : Ids) (ws : List Ty) (os : List Operand) → All IsMaskedOperand os → operands_broken p f ids ws os ≡ [] → All IsNarrowOperand os
  operands_narrow ids ws [] m r = tt
  operands_narrow ids [] (o ∷ os) m r = (
    operand_narrow ids None o m.0 (left_empty (operand_broken p f ids None o) (operands_broken p f ids [] os) r),
    operands_narrow ids [] os m.1 (right_empty (operand_broken p f ids None o) (operands_broken p f ids [] os) r),
  )
  operands_narrow ids (w ∷ ws) (o ∷ os) m r = (
    operand_narrow ids (Some w) o m.0 (left_empty (operand_broken p f ids (Some w) o) (operands_broken p f ids ws os) r),
    operands_narrow ids ws os m.1 (right_empty (operand_broken p f ids (Some w) o) (operands_broken p f ids ws os) r),
  )

  -- ---- references

  abbrev is_tracked : (rule : ℕ) → Ty → Rules
  is_tracked r (tracked k t args) = []
  is_tracked r ty = r ∷ []

  abbrev pub Reference : (x : ℕ) → Type 0
  Reference x = (k : ℕ) × (t : ℕ) × (args : List ℕ) × (var_type f x ≡ Some (tracked k t args)) × ((d : TypeDecl) × (decl_of p t ≡ Some d))

  pub tracked_there : (ids : Ids) (r x : ℕ) → tracked_broken f ids r x ≡ [] → Reference x
  tracked_there ids r x e = by ty.0 ty.1 ty.2 (when_at (var_type f x) (is_tracked r) ty.0 ty.1 (right_empty (use_broken f ids x) _ e))
    where
      ty : (ty : Ty) × (var_type f x ≡ Some ty) × (type_broken p f ty ≡ [])
      ty = type_at p f b x (use_there p f b ids x (left_empty (use_broken f ids x) _ e))

      by : (ty : Ty) → var_type f x ≡ Some ty → type_broken p f ty ≡ [] → is_tracked r ty ≡ [] → Reference x
      by (tracked k t args) at typed e = (k, t, args, at, declared p (key_rule p f) (argument_broken p f) (tracked k t args) t refl (there_type p f (tracked k t args) typed))
      by int at typed e = absurd (filled_not_empty r [] e)
      by bool at typed e = absurd (filled_not_empty r [] e)
      by (owning s t args) at typed e = absurd (filled_not_empty r [] e)
      by (guarded k t args) at typed e = absurd (filled_not_empty r [] e)
      by (variant t args) at typed e = absurd (filled_not_empty r [] e)
      by (owning_variant t args) at typed e = absurd (filled_not_empty r [] e)

  pub tracked_id : (ids : Ids) (r x : ℕ) → tracked_broken f ids r x ≡ [] → IsId x
  tracked_id ids r x e = use_id p f b ids x (left_empty (use_broken f ids x) _ e)

  pub struct_go : (r x : ℕ) (go : Program → (type : ℕ) → List ℕ → Rules) (is : Reference x) → struct_broken p f r x go ≡ [] → go p is.1 is.2 ≡ []
  struct_go r x go is e =
      chosen_go (is_struct (Some is.4.0)) (go p is.1 is.2) r
      (when_at (decl_of p is.1) (λ d. if is_struct (Some d) then go p is.1 is.2 else r ∷ []) is.4.0 is.4.1
      (when_at (tracked_type (var_type f x)) (λ (o : ℕ × List ℕ). when_some (decl_of p o.0) (λ d. if is_struct (Some d) then go p o.0 o.1 else r ∷ [])) (is.1, is.2) (ap tracked_type is.3) e))

  -- ---- variants

  abbrev pub Variant : (v : ℕ) → Type 0
  Variant v = (o : ℕ × List ℕ) × (variant_args (var_type f v) ≡ Some o) × (is_variant (decl_of p o.0) ≡ true)

  pub variant_there : (v r : ℕ) → nat_lt v (length f.vars) ≡ true → when_some (var_type f v) (λ ty. unless (is_variant_type ty) r) ≡ [] → Variant v
  variant_there v r less e = by ty.0 ty.1 ty.2 (when_at (var_type f v) (λ ty. unless (is_variant_type ty) r) ty.0 ty.1 e)
    where
      ty : (ty : Ty) × (var_type f v ≡ Some ty) × (type_broken p f ty ≡ [])
      ty = type_at p f b v less

      by : (ty : Ty) → var_type f v ≡ Some ty → type_broken p f ty ≡ [] → unless (is_variant_type ty) r ≡ [] → Variant v
      by (variant t args) at typed e = ((t, args), ap variant_args at, variant_type p f t args typed)
      by (owning_variant t args) at typed e = ((t, args), ap variant_args at, owning_type p f t args typed)
      by int at typed e = absurd (filled_not_empty r [] e)
      by bool at typed e = absurd (filled_not_empty r [] e)
      by (tracked k t args) at typed e = absurd (filled_not_empty r [] e)
      by (owning s t args) at typed e = absurd (filled_not_empty r [] e)
      by (guarded k t args) at typed e = absurd (filled_not_empty r [] e)

  abbrev of_case : (n : ℕ) → Option CaseDecl → Rules
  of_case n None = rule.UNKNOWN_NAME ∷ []
  of_case n (Some d) = unless (n == length d.payload) rule.WRONG_COUNT

  pub case_low : (v c n : ℕ) → Variant v → case_broken p c n (variant_args (var_type f v)) ≡ [] → c ≤ 255
  case_low v c n is e =
      by (slice_get (cases_of p is.0.0) c) refl
      (subst (λ t. (if t then of_case n (slice_get (cases_of p is.0.0) c) else []) ≡ []) is.2 (subst (λ o. case_broken p c n o ≡ []) is.1 e))
    where
      by : (o : Option CaseDecl) → slice_get (cases_of p is.0.0) c ≡ o → of_case n o ≡ [] → c ≤ 255
      by None at e = absurd (filled_not_empty rule.UNKNOWN_NAME [] e)
      by (Some d) at e = part_byte c (length (cases_of p is.0.0)) (within (cases_of p is.0.0) c d at) (b.cases is.0.0)
