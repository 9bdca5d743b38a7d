-- Statements that break no rule keep what is known of a scope.
use Rattle.std.proofs.Common.{◌≡◌, ℕ, nat_lt, ◌==◌, Bool, true, false, if◌then◌else◌, List, [], ◌∷◌, ◌++◌, length, map, Option, Some, None, refl, slice_get}
use Rattle.std.specs.List.{flat_map, enumerate_from}
use Rattle.vlt_core.specs.Core.{bool, int, Operand, Form, simple, call, choose, loop, switch, focus, scope, return, jump, Arms, no_arms, arm, Simple, set, input, print, put, make, become, release, drop, own, unpack, build, swap, open_into, adopt, Func, Program}
use Rattle.vlt_core.specs.Core as core
use Rattle.vlt_core.specs.Lookups.{var_type, is_owning, is_owning_var}
use Rattle.vlt_core.specs.KindedHeads.{unless, parameters_of}
use Rattle.vlt_core.specs.declared.rules.TheConstants as rule
use Rattle.vlt_core.specs.KindedScopes.{Ids, Around, with_binding, with_target, own_key, use_broken, binding_broken, target_broken}
use Rattle.vlt_core.specs.KindedOperands.{misfit, expr_broken, operand_broken, operands_broken}
use Rattle.vlt_core.specs.KindedStatements.{tracked_type, variant_args, case_broken, payload_types, is_variant_type, is_guarded_type, is_tracked_type, is_owning_object, owning_object, guarded_object, guard_key, keys_differ, wanted_of, objects_apart, tracked_broken, struct_broken, droppable_broken, owning_field_types, opened_types, opened_broken, set_broken, made_broken, made_types, simple_broken, ids_after}
use Rattle.vlt_core.specs.KindedCalls.{caller_type, keys_fit, clause_keys_broken, arguments_broken, caller_keys_broken, result_broken_by, call_target_broken, call_broken, target_alone_broken, is_fresh_call, with_call_target}
use Rattle.vlt_core.specs.KindedBodies.{focus_broken, with_focus, row_broken, ids_following, ids_following_block, ids_following_arms, with_vars}
use Rattle.vlt_sound_worlds.specs.Agrees.{Context}
use Rattle.vlt_sound_worlds.proofs.Empty.{both_empty}
use Rattle.vlt_sound_worlds.specs.Scoped.{IsScoped, HasKeys}
use Rattle.vlt_sound_worlds.proofs.Widening.{focus_widens, vars_widen, block_widens, widens_both}
use Rattle.vlt_sound_worlds.proofs.Binding.{itself, bound_scoped, binding_scoped, target_scoped, opened_scoped, left_scoped, scoped_with}

module _ (p : Program) {f : Func} {c : Context} (keyed : HasKeys f) where
  pub simple_scoped : (s : Simple) {ids : Ids} → simple_broken p f ids s ≡ [] → IsScoped f c ids →
      IsScoped f c (ids_after f s ids)
  simple_scoped (set v e) {ids} b s =
      target_scoped keyed v (both_empty (expr_broken p f ids e ++ set_broken p f (var_type f v) e) (target_broken f ids v) b).1 s
  simple_scoped (input v more) {ids} b s =
      target_scoped keyed v
      (both_empty (misfit (Some (if more then bool else int)) (var_type f v)) (target_broken f ids v) b).1 s
  simple_scoped (print e) b s = s
  simple_scoped (put x i e) b s = s
  simple_scoped (make x args) {ids} b s =
      binding_scoped keyed (own_key f x) x (itself f x)
      (both_empty (made_broken p (length args) (var_type f x) ++ operands_broken p f ids (made_types p (var_type f x)) args)
      (binding_broken f ids (own_key f x) x) b).1 s
  simple_scoped (become x state) b s = s
  simple_scoped (release x) b s = s
  simple_scoped (drop v) b s = s
  simple_scoped (own v value) {ids} b s =
      target_scoped keyed v
      (both_empty
      (wanted_of (var_type f v) is_owning ++ operand_broken p f ids (if is_owning_var f v then var_type f v else None) value)
      (target_broken f ids v) b).1 s
  simple_scoped (unpack x v) {ids} b s =
      binding_scoped keyed (own_key f x) x (itself f x)
      (both_empty
      (use_broken f ids v ++ wanted_of (var_type f v) is_owning_object ++ wanted_of (var_type f x) is_tracked_type ++
      objects_apart (owning_object (var_type f v)) (tracked_type (var_type f x)))
      (binding_broken f ids (own_key f x) x) b).1 s
  simple_scoped (build v case args) {ids} b s =
      target_scoped keyed v
      (both_empty
      (wanted_of (var_type f v) is_variant_type ++ case_broken p case (length args) (variant_args (var_type f v)) ++
      operands_broken p f ids (payload_types p (variant_args (var_type f v)) case) args)
      (target_broken f ids v) b).1 s
  simple_scoped (swap x i v) b s = s
  simple_scoped (open_into x vs) {ids} b s =
      opened_scoped keyed p (opened_types p (tracked_type (var_type f x))) vs
      (both_empty
      (tracked_broken f ids rule.WRONG_RELEASE x ++
      struct_broken p f rule.WRONG_RELEASE x
      (λ p t args. unless (length (owning_field_types p t args) == length vs) rule.WRONG_COUNT))
      (opened_broken p f ids (opened_types p (tracked_type (var_type f x))) vs) b).1 s
  simple_scoped (adopt y x r) {ids} b s =
      target_scoped keyed y
      (both_empty
      (tracked_broken f ids rule.WRONG_TYPE x ++ tracked_broken f ids rule.WRONG_TYPE r ++ droppable_broken p f x ++
      wanted_of (var_type f y) is_guarded_type ++ objects_apart (guarded_object (var_type f y)) (tracked_type (var_type f x)) ++
      keys_differ (guard_key (var_type f y)) (own_key f r))
      (target_broken f ids y) b).1 s

  pub focus_scoped : (y z : ℕ) {ids : Ids} → focus_broken p f ids y z ≡ [] → IsScoped f c ids →
      IsScoped f c (with_focus f z ids)
  focus_scoped y z {ids} b s =
      bound_scoped keyed (own_key f z) z (itself f z)
      (both_empty
      (use_broken f ids y ++ wanted_of (var_type f y) is_guarded_type ++ wanted_of (var_type f z) is_tracked_type ++
      objects_apart (guarded_object (var_type f y)) (tracked_type (var_type f z)))
      (binding_broken f ids (own_key f z) z) b).1 s

  call_target_scoped : (g : Func) (keys : List ℕ) (target : Option ℕ) {ids : Ids} →
      call_target_broken f ids g keys target ≡ [] → IsScoped f c ids →
      IsScoped f c (with_call_target f (Some g) target ids)
  call_target_scoped g keys None b s = s
  call_target_scoped g keys (Some v) {ids} b s =
      by (is_fresh_call g)
      (both_empty (result_broken_by g keys g.result (var_type f v))
      (if is_fresh_call g then binding_broken f ids (own_key f v) v else target_broken f ids v) b).1
    where
      by : (fresh : Bool) → (if fresh then binding_broken f ids (own_key f v) v else target_broken f ids v) ≡ [] →
          IsScoped f c (if fresh then with_binding f (own_key f v) v ids else with_target f v ids)
      by true b = binding_scoped keyed (own_key f v) v (itself f v) b s
      by false b = target_scoped keyed v b s

  pub call_scoped : (g : Option Func) (target : Option ℕ) (keys : List ℕ) (args : List Operand) {ids : Ids} →
      call_broken p f ids g target keys args ≡ [] → IsScoped f c ids → IsScoped f c (with_call_target f g target ids)
  call_scoped None target keys args {ids} b s =
      let q =
      (both_empty (flat_map (λ k. unless (nat_lt k (length f.keys)) rule.UNKNOWN_NAME) keys ++
      rule.UNKNOWN_NAME ∷ operands_broken p f ids [] args) (target_alone_broken f ids target) b).0 in
      let none =
      (both_empty (flat_map (λ k. unless (nat_lt k (length f.keys)) rule.UNKNOWN_NAME) keys)
      (rule.UNKNOWN_NAME ∷ operands_broken p f ids [] args) q).1 in
      cc
  call_scoped (Some g) target keys args {ids} b s =
      call_target_scoped g keys target
      (both_empty
      (flat_map (λ k. unless (nat_lt k (length f.keys)) rule.UNKNOWN_NAME) keys ++
      unless (keys_fit g keys) rule.TWO_CALLER_KEYS ++ unless (length args == length (parameters_of g)) rule.WRONG_COUNT ++
      (if keys_fit g keys then clause_keys_broken g keys else []) ++
      arguments_broken p f ids (map (caller_type keys) (parameters_of g)) args ++
      caller_keys_broken f ids g (enumerate_from 0 keys))
      (call_target_broken f ids g keys target) b).1 s

-- what is known of a scope is known after blocks
module _ {f : Func} {c : Context} (p : Program) where
  pub block_scoped : (b : core.Block) {ids : Ids} → IsScoped f c ids → IsScoped f c (ids_following_block p f b ids)
  block_scoped (core.block ss bound end) {ids} s =
      scoped_with refl refl (block_widens p f (core.block ss bound end) ids) s

  pub arms_scoped : (arms : Arms) {ids : Ids} → IsScoped f c ids → IsScoped f c (ids_following_arms p f arms ids)
  arms_scoped no_arms s = s
  arms_scoped (arm k vs b rest) {ids} s =
      arms_scoped rest
      (left_scoped (widens_both (vars_widen f vs ids) (block_widens p f b (with_vars f vs ids))) s)

  pub form_scoped : HasKeys f → (around : Around) (s : Form) {ids : Ids} → row_broken p f around ids s ≡ [] →
      IsScoped f c ids → IsScoped f c (ids_following p f s ids)
  form_scoped keyed around (simple s) b i = simple_scoped p keyed s b i
  form_scoped keyed around (call g target keys args) b i = call_scoped p keyed (slice_get p.fns g) target keys args b i
  form_scoped keyed around (choose e a b) broken i = block_scoped b (block_scoped a i)
  form_scoped keyed around (loop e b) broken i = block_scoped b i
  form_scoped keyed around (switch v arms end) b i = arms_scoped arms i
  form_scoped keyed around (focus y z b) {ids} broken i =
      left_scoped (widens_both (focus_widens f z ids) (block_widens p f b (with_focus f z ids))) i
  form_scoped keyed around (scope b) broken i = block_scoped b i
  form_scoped keyed around (return value) b i = i
  form_scoped keyed around (jump continues) b i = i
