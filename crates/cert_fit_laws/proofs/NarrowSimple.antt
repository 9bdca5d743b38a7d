-- Statements without blocks that break no rule have narrow numbers.
use Rattle.std.proofs.Common.{◌≡◌, ◌≤◌, ℕ, nat_lt, Bool, true, false, ◌==◌, if◌then◌else◌, List, [], ◌∷◌, ◌++◌, map, length, Option, Some, None, IfSome, refl, subst, slice_get}
use Rattle.std.specs.List.{flat_map, enumerate_from}
use Rattle.vlt_core.specs.Core as core
use Rattle.vlt_core.specs.Core.{Ty, int, bool, tracked, owning, guarded, variant, owning_variant, FieldDecl, Operand, pure, move, pack, Simple, Func, Program}
use Rattle.vlt_core.specs.Lookups.{var_type, is_owning, is_owning_var, fields_of, state_count, all_states}
use Rattle.vlt_core.specs.Types.{with_keys}
use Rattle.vlt_core.specs.KindedHeads.{Rules, unless, has, state_broken, parameters_of, new_keys}
use Rattle.vlt_core.specs.KindedScopes.{Ids, with_binding, own_key, use_broken, binding_broken, target_broken}
use Rattle.vlt_core.specs.KindedOperands.{misfit, field_type, unless_owning, type_of_expr, touch_broken, expr_broken, operand_broken, operands_broken}
use Rattle.vlt_core.specs.KindedStatements.{tracked_broken, tracked_type, struct_broken, droppable_broken, owning_object, objects_apart, made_broken, made_types, set_broken, owning_field_types, variant_args, payload_types, case_broken, is_variant_type, wanted_of, is_tracked_type, is_owning_object, opened_broken, opened_types, swap_broken, simple_broken}
use Rattle.vlt_core.specs.KindedCalls.{argument_type, gives_other_keys, argument_broken_by, arguments_broken, caller_type, caller_keys_broken, is_fresh_call, result_broken_by, call_target_broken, target_alone_broken, call_broken, new_result_broken, returned_broken, return_broken}
use Rattle.vlt_core.specs.declared.rules.TheConstants as rule
use Rattle.vlt_core_laws.proofs.Unbroken.{filled_not_empty, left_empty, right_empty, unless_holds}
use Rattle.cert_rows.specs.Parts.{All}
use Rattle.cert_fit_laws.proofs.Narrow.{IsId, IsMaybeId, IsNarrowOperand, IsNarrowSimple, IsNarrowReturn}
use Rattle.cert_fit_laws.proofs.Masked.{IsMaskedOperand, IsMaskedSimple}
use Rattle.cert_fit_laws.proofs.NarrowNumbers.{Bounds, few_id, part_id, part_byte, within, all_flat, use_id, binding_id, target_there, target_id, key_id}
use Rattle.cert_fit_laws.proofs.NarrowParts.{touch_low, expr_narrow, value_narrow, operand_narrow, operands_narrow, tracked_there, tracked_id, struct_go, variant_there, case_low}

module _ (p : Program) (f : Func) (b : Bounds p f) where
  -- ---- states and fields

  state_low : (t state : ℕ) → state_broken p t state ≡ [] → state ≤ 255
  state_low t state e = part_byte state (state_count p t) (unless_holds (all_states p t state) rule.NOT_A_STATE (subst (λ h. (if h then unless (all_states p t state) rule.NOT_A_STATE else []) ≡ []) (b.sets t) e)) (b.states t)

  abbrev of_field : (v : ℕ) → Option FieldDecl → List ℕ → Rules
  of_field v None args = rule.UNKNOWN_NAME ∷ []
  of_field v (Some d) args =
      if is_owning d.ty then misfit (Some (with_keys args d.ty)) (var_type f v) else rule.WRONG_SWAP ∷ []

  field_low : (t i v : ℕ) (args : List ℕ) → of_field v (slice_get (fields_of p t) i) args ≡ [] → IsId i
  field_low t i v args e = by (slice_get (fields_of p t) i) refl e
    where
      by : (o : Option FieldDecl) → slice_get (fields_of p t) i ≡ o → of_field v o args ≡ [] → IsId i
      by None at e = absurd (filled_not_empty rule.UNKNOWN_NAME [] e)
      by (Some d) at e = part_id i (length (fields_of p t)) (within (fields_of p t) i d at) (b.fields t)

  opened_low : (ids : Ids) (ws : List Ty) (vs : List ℕ) → opened_broken p f ids ws vs ≡ [] → All IsId vs
  opened_low ids ws [] e = tt
  opened_low ids [] (v ∷ vs) e = (
    binding_id p f b ids None v (left_empty (binding_broken f ids None v) (opened_broken p f (with_binding f None v ids) [] vs) e),
    opened_low (with_binding f None v ids) [] vs (right_empty (binding_broken f ids None v) (opened_broken p f (with_binding f None v ids) [] vs) e),
  )
  opened_low ids (w ∷ ws) (v ∷ vs) e =
      let first_part = left_empty (misfit (Some w) (var_type f v) ++ binding_broken f ids None v) (opened_broken p f (with_binding f None v ids) ws vs) e in (
        binding_id p f b ids None v (right_empty (misfit (Some w) (var_type f v)) (binding_broken f ids None v) first_part),
        opened_low (with_binding f None v ids) ws vs (right_empty (misfit (Some w) (var_type f v) ++ binding_broken f ids None v) (opened_broken p f (with_binding f None v ids) ws vs) e),
      )

  pub simple_narrow : (ids : Ids) (s : Simple) → IsMaskedSimple s → simple_broken p f ids s ≡ [] → IsNarrowSimple s
  simple_narrow ids (core.set v e) m r = (
    target_id p f b ids v (right_empty (expr_broken p f ids e ++ set_broken p f (var_type f v) e) (target_broken f ids v) r),
    expr_narrow p f b ids e (left_empty (expr_broken p f ids e) _ (left_empty _ (target_broken f ids v) r)),
  )
  simple_narrow ids (core.input v more) m r = target_id p f b ids v (right_empty (misfit (Some (if more then bool else int)) (var_type f v)) (target_broken f ids v) r)
  simple_narrow ids (core.print e) m r = value_narrow p f b ids (Some int) e r
  simple_narrow ids (core.put x i e) m r =
      let first_part = left_empty (expr_broken p f ids e ++ touch_broken p f ids x i) _ (left_empty _ (misfit (unless_owning (field_type p f x i)) (type_of_expr p f e)) r) in
      let touch = touch_low p f b ids x i (right_empty (expr_broken p f ids e) (touch_broken p f ids x i) first_part) in
      (touch.0, touch.1, expr_narrow p f b ids e (left_empty (expr_broken p f ids e) _ first_part))
  simple_narrow ids (core.make x os) m r =
      let first_part = left_empty (made_broken p (length os) (var_type f x) ++ operands_broken p f ids (made_types p (var_type f x)) os) (binding_broken f ids (own_key f x) x) r in (
        binding_id p f b ids (own_key f x) x (right_empty (made_broken p (length os) (var_type f x) ++ operands_broken p f ids (made_types p (var_type f x)) os) (binding_broken f ids (own_key f x) x) r),
        operands_narrow p f b ids (made_types p (var_type f x)) os m (right_empty (made_broken p (length os) (var_type f x)) (operands_broken p f ids (made_types p (var_type f x)) os) first_part),
      )
  simple_narrow ids (core.become x state) m r =
      let go : Program → ℕ → List ℕ → Rules = λ p t args. state_broken p t state in
      let t = left_empty (tracked_broken f ids rule.WRONG_BECOME x) (struct_broken p f rule.WRONG_BECOME x go) r in
      let is = tracked_there p f b ids rule.WRONG_BECOME x t in (
        tracked_id p f b ids rule.WRONG_BECOME x t,
        state_low is.1 state (struct_go p f b rule.WRONG_BECOME x go is (right_empty (tracked_broken f ids rule.WRONG_BECOME x) (struct_broken p f rule.WRONG_BECOME x go) r)),
      )
  simple_narrow ids (core.release x) m r = tracked_id p f b ids rule.WRONG_RELEASE x (left_empty (tracked_broken f ids rule.WRONG_RELEASE x) (droppable_broken p f x) r)
  simple_narrow ids (core.drop v) m r = use_id p f b ids v (left_empty (use_broken f ids v) _ r)
  simple_narrow ids (core.own v o) m r =
      let w = if is_owning_var f v then var_type f v else None in (
        target_id p f b ids v (right_empty (wanted_of (var_type f v) is_owning ++ operand_broken p f ids w o) (target_broken f ids v) r),
        operand_narrow p f b ids w o m (right_empty (wanted_of (var_type f v) is_owning) (operand_broken p f ids w o) (left_empty _ (target_broken f ids v) r)),
      )
  simple_narrow ids (core.unpack x v) m r = (
    binding_id p f b ids (own_key f x) x (right_empty (use_broken f ids v ++ wanted_of (var_type f v) is_owning_object ++ wanted_of (var_type f x) is_tracked_type ++
        objects_apart (owning_object (var_type f v)) (tracked_type (var_type f x))) (binding_broken f ids (own_key f x) x) r),
    use_id p f b ids v (left_empty (use_broken f ids v) _ (left_empty _ _ (left_empty _ _ (left_empty _ (binding_broken f ids (own_key f x) x) r)))),
  )
  simple_narrow ids (core.build v c os) m r =
      let t = right_empty (wanted_of (var_type f v) is_variant_type ++ case_broken p c (length os) (variant_args (var_type f v)) ++
      operands_broken p f ids (payload_types p (variant_args (var_type f v)) c) os) (target_broken f ids v) r in
      let first_part = left_empty (wanted_of (var_type f v) is_variant_type ++ case_broken p c (length os) (variant_args (var_type f v))) (operands_broken p f ids (payload_types p (variant_args (var_type f v)) c) os)
      (left_empty _ (target_broken f ids v) r) in
      let is = variant_there p f b v rule.WRONG_TYPE (target_there p f b ids v t) (left_empty (wanted_of (var_type f v) is_variant_type) (case_broken p c (length os) (variant_args (var_type f v))) first_part) in (
        target_id p f b ids v t,
        case_low p f b v c (length os) is (right_empty (wanted_of (var_type f v) is_variant_type) (case_broken p c (length os) (variant_args (var_type f v))) first_part),
        operands_narrow p f b ids (payload_types p (variant_args (var_type f v)) c) os m
            (right_empty (wanted_of (var_type f v) is_variant_type ++ case_broken p c (length os) (variant_args (var_type f v))) (operands_broken p f ids (payload_types p (variant_args (var_type f v)) c) os)
            (left_empty _ (target_broken f ids v) r)),
      )
  simple_narrow ids (core.swap x i v) m r =
      let first_part = left_empty (tracked_broken f ids rule.WRONG_SWAP x ++ use_broken f ids v) (swap_broken p f x i v) r in
      let t = left_empty (tracked_broken f ids rule.WRONG_SWAP x) (use_broken f ids v) first_part in
      let is = tracked_there p f b ids rule.WRONG_SWAP x t in
      let go : Program → ℕ → List ℕ → Rules = λ p t args. of_field v (slice_get (fields_of p t) i) args in (
        tracked_id p f b ids rule.WRONG_SWAP x t,
        field_low is.1 i v is.2 (struct_go p f b rule.WRONG_SWAP x go is (right_empty (tracked_broken f ids rule.WRONG_SWAP x ++ use_broken f ids v) (swap_broken p f x i v) r)),
        use_id p f b ids v (right_empty (tracked_broken f ids rule.WRONG_SWAP x) (use_broken f ids v) first_part),
      )
  simple_narrow ids (core.open_into x vs) m r =
      let go : Program → ℕ → List ℕ → Rules = λ p t args. unless (length (owning_field_types p t args) == length vs) rule.WRONG_COUNT in (
        tracked_id p f b ids rule.WRONG_RELEASE x (left_empty (tracked_broken f ids rule.WRONG_RELEASE x) (struct_broken p f rule.WRONG_RELEASE x go) (left_empty _ (opened_broken p f ids (opened_types p (tracked_type (var_type f x))) vs) r)),
        opened_low ids (opened_types p (tracked_type (var_type f x))) vs (right_empty (tracked_broken f ids rule.WRONG_RELEASE x ++ struct_broken p f rule.WRONG_RELEASE x go) (opened_broken p f ids (opened_types p (tracked_type (var_type f x))) vs) r),
      )
  simple_narrow ids (core.adopt y x k) m r =
      let first_part = left_empty (tracked_broken f ids rule.WRONG_TYPE x ++ tracked_broken f ids rule.WRONG_TYPE k) (droppable_broken p f x) (left_empty _ _ (left_empty _ _ (left_empty _ _ (left_empty _ (target_broken f ids y) r)))) in (
        target_id p f b ids y (right_empty _ (target_broken f ids y) r),
        tracked_id p f b ids rule.WRONG_TYPE x (left_empty (tracked_broken f ids rule.WRONG_TYPE x) (tracked_broken f ids rule.WRONG_TYPE k) first_part),
        tracked_id p f b ids rule.WRONG_TYPE k (right_empty (tracked_broken f ids rule.WRONG_TYPE x) (tracked_broken f ids rule.WRONG_TYPE k) first_part),
      )

  -- ---- calls

  argument_narrow : (ids : Ids) (w : Option Ty) (o : Operand) → IsMaskedOperand o → argument_broken_by p f ids w o ≡ [] → IsNarrowOperand o
  argument_narrow ids w o m r = by (gives_other_keys w (argument_type p f o)) r
    where
      by : (t : Bool) → (if t then rule.TWO_CALLER_KEYS ∷ operand_broken p f ids None o else operand_broken p f ids w o) ≡ [] → IsNarrowOperand o
      by true r = absurd (filled_not_empty rule.TWO_CALLER_KEYS (operand_broken p f ids None o) r)
      by false r = operand_narrow p f b ids w o m r

  arguments_narrow : (ids : Ids) (ws : List (Option Ty)) (os : List Operand) → All IsMaskedOperand os → arguments_broken p f ids ws os ≡ [] → All IsNarrowOperand os
  arguments_narrow ids ws [] m r = tt
  arguments_narrow ids [] (o ∷ os) m r = (
    argument_narrow ids None o m.0 (left_empty (argument_broken_by p f ids None o) (arguments_broken p f ids [] os) r),
    arguments_narrow ids [] os m.1 (right_empty (argument_broken_by p f ids None o) (arguments_broken p f ids [] os) r),
  )
  arguments_narrow ids (w ∷ ws) (o ∷ os) m r = (
    argument_narrow ids w o m.0 (left_empty (argument_broken_by p f ids w o) (arguments_broken p f ids ws os) r),
    arguments_narrow ids ws os m.1 (right_empty (argument_broken_by p f ids w o) (arguments_broken p f ids ws os) r),
  )

  call_target : (ids : Ids) (g : Func) (keys : List ℕ) (target : Option ℕ) → call_target_broken f ids g keys target ≡ [] → IsMaybeId target
  call_target ids g keys None r = tt
  call_target ids g keys (Some v) r = by (is_fresh_call g) (right_empty (result_broken_by g keys g.result (var_type f v)) _ r)
    where
      by : (t : Bool) → (if t then binding_broken f ids (own_key f v) v else target_broken f ids v) ≡ [] → IsId v
      by true r = binding_id p f b ids (own_key f v) v r
      by false r = target_id p f b ids v r

  pub call_narrow : (ids : Ids) (g : ℕ) (target : Option ℕ) (keys : List ℕ) (os : List Operand) → All IsMaskedOperand os →
      call_broken p f ids (slice_get p.fns g) target keys os ≡ [] → IsId g × IsMaybeId target × All IsId keys × All IsNarrowOperand os
  call_narrow ids g target keys os m r = by (slice_get p.fns g) refl r
    where
      key_rules : Rules
      key_rules = flat_map (λ k. unless (nat_lt k (length f.keys)) rule.UNKNOWN_NAME) keys

      by : (o : Option Func) → slice_get p.fns g ≡ o → call_broken p f ids o target keys os ≡ [] → IsId g × IsMaybeId target × All IsId keys × All IsNarrowOperand os
      by None at r = absurd (filled_not_empty rule.UNKNOWN_NAME (operands_broken p f ids [] os) (right_empty key_rules (rule.UNKNOWN_NAME ∷ operands_broken p f ids [] os) (left_empty (key_rules ++ (rule.UNKNOWN_NAME ∷ operands_broken p f ids [] os)) (target_alone_broken f ids target) r)))
      by (Some h) at r =
          let e1 = left_empty _ (call_target_broken f ids h keys target) r in
          let e2 = left_empty _ (caller_keys_broken f ids h (enumerate_from 0 keys)) e1 in
          let e3 = left_empty _ (arguments_broken p f ids (map (caller_type keys) (parameters_of h)) os) e2 in (
            few_id g (length p.fns) (within p.fns g h at) b.fns,
            call_target ids h keys target (right_empty _ (call_target_broken f ids h keys target) r),
            all_flat IsId (λ k. unless (nat_lt k (length f.keys)) rule.UNKNOWN_NAME) (key_id p f b) keys (left_empty key_rules _ (left_empty _ _ (left_empty _ _ e3))),
            arguments_narrow ids (map (caller_type keys) (parameters_of h)) os m (right_empty _ (arguments_broken p f ids (map (caller_type keys) (parameters_of h)) os) e2),
          )

  -- ---- returns

  new_result_narrow : (ids : Ids) (t : ℕ) (args : List ℕ) (o : Operand) → new_result_broken p f ids t args o ≡ [] → IsNarrowOperand o
  new_result_narrow ids t args (pure (core.var x)) r = use_id p f b ids x (left_empty (use_broken f ids x) _ r)
  new_result_narrow ids t args (pure (core.number z)) r = absurd (filled_not_empty rule.WRONG_TYPE _ r)
  new_result_narrow ids t args (pure (core.truth z)) r = absurd (filled_not_empty rule.WRONG_TYPE _ r)
  new_result_narrow ids t args (pure (core.field x i)) r = absurd (filled_not_empty rule.WRONG_TYPE _ r)
  new_result_narrow ids t args (pure (core.unary op a)) r = absurd (filled_not_empty rule.WRONG_TYPE _ r)
  new_result_narrow ids t args (pure (core.binary op a c)) r = absurd (filled_not_empty rule.WRONG_TYPE _ r)
  new_result_narrow ids t args (move v) r = absurd (filled_not_empty rule.WRONG_TYPE _ r)
  new_result_narrow ids t args (pack x s) r = absurd (filled_not_empty rule.WRONG_TYPE _ r)

  returned_narrow : (ids : Ids) (ty : Ty) (o : Operand) → IsMaskedOperand o → returned_broken p f ids ty o ≡ [] → IsNarrowOperand o
  returned_narrow ids (tracked k t args) o m r = by (has (new_keys f) k) r
    where
      by : (c : Bool) → (if c then new_result_broken p f ids t args o else operand_broken p f ids (Some (tracked k t args)) o) ≡ [] → IsNarrowOperand o
      by true r = new_result_narrow ids t args o r
      by false r = operand_narrow p f b ids (Some (tracked k t args)) o m r
  returned_narrow ids int o m r = operand_narrow p f b ids (Some int) o m r
  returned_narrow ids bool o m r = operand_narrow p f b ids (Some bool) o m r
  returned_narrow ids (owning s t args) o m r = operand_narrow p f b ids (Some (owning s t args)) o m r
  returned_narrow ids (guarded k t args) o m r = operand_narrow p f b ids (Some (guarded k t args)) o m r
  returned_narrow ids (variant t args) o m r = operand_narrow p f b ids (Some (variant t args)) o m r
  returned_narrow ids (owning_variant t args) o m r = operand_narrow p f b ids (Some (owning_variant t args)) o m r

  pub return_narrow : (ids : Ids) (result : Option Ty) (o : Option Operand) → IfSome o IsMaskedOperand → return_broken p f ids result o ≡ [] → IsNarrowReturn o
  return_narrow ids None None m r = tt
  return_narrow ids (Some ty) None m r = tt
  return_narrow ids None (Some o) m r = absurd (filled_not_empty rule.WRONG_RETURN _ r)
  return_narrow ids (Some ty) (Some o) m r = returned_narrow ids ty o m r
