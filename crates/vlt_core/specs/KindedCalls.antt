-- Rules on numbers: calls and returns.
use Rattle.std.specs.Prelude.{ℕ, nat_lt, ◌==◌, Bool, false, not, ◌&&◌, ◌||◌, if◌then◌else◌, List, [], ◌∷◌, ◌++◌, length, map, filter, Option, Some, None, slice_get}
use Rattle.std.specs.List.{list_any, list_all, flat_map, filter_map, range_with_len, enumerate_from}
use Rattle.vlt_core.specs.Core.{Ty, tracked, owning, guarded, variant, owning_variant, var, field, Operand, pure, move, pack, Func, Program}
use Rattle.vlt_core.specs.Lookups.{var_type, is_new, is_given_back}
use Rattle.vlt_core.specs.Types.{lies_within, same_keys, same_object, same_ty, with_keys, args_of, keys_of_ty}
use Rattle.vlt_core.specs.KindedHeads.{Rules, unless, when_some, has, are_apart, parameters_of, keys_of_parameters, new_keys}
use Rattle.vlt_core.specs.declared.rules.TheConstants as rule
use Rattle.vlt_core.specs.KindedScopes.{Ids, with_binding, with_target, own_key, use_broken, binding_broken, target_broken}
use Rattle.vlt_core.specs.KindedOperands.{field_type, is_owning_some, as_owning, operand_broken, operands_broken}
use Rattle.vlt_core.specs.KindedStatements.{is_tracked_type}

-- ---- calls

abbrev pub is_fresh_call : Func → Bool
is_fresh_call g = list_any is_new g.clause

-- the callee's keys are the numbers from 0 on, and each has a key of the caller
abbrev pub keys_fit : Func → (keys : List ℕ) → Bool
keys_fit g keys = list_all (has (keys_of_parameters g ++ new_keys g)) (range_with_len 0 (length keys)) &&
    list_all (λ k. nat_lt k (length keys)) (keys_of_parameters g ++ new_keys g)

-- the type of what an argument hands over
abbrev pub argument_type : Program → Func → Operand → Option Ty
argument_type p f (pure (var v)) = var_type f v
argument_type p f (pure (field x i)) = field_type p f x i
argument_type p f (pure e) = None
argument_type p f (move v) = var_type f v
argument_type p f (pack x states) = of_type (var_type f x)
  where
    of_type : Option Ty → Option Ty
    of_type None = None
    of_type (Some ty) = as_owning states ty

-- the types are the same but for their keys
abbrev pub same_but_keys : (wanted given : Ty) → Bool
same_but_keys (tracked k t args) (tracked j u others) = t == u && (length args == length others)
same_but_keys (guarded k t args) (guarded j u others) = t == u && (length args == length others)
same_but_keys (variant t args) (variant u others) = t == u && (length args == length others)
same_but_keys (owning_variant t args) (owning_variant u others) = t == u && (length args == length others)
same_but_keys (owning b t args) (owning a u others) = t == u && (length args == length others) && lies_within a b
same_but_keys _ _ = false

-- the argument gives another key than the one that is listed
abbrev pub gives_other_keys : (wanted given : Option Ty) → Bool
gives_other_keys (Some w) (Some t) = same_but_keys w t && not (same_keys (keys_of_ty w) (keys_of_ty t))
gives_other_keys _ _ = false

abbrev pub argument_broken_by : Program → Func → Ids → (wanted : Option Ty) → Operand → Rules
argument_broken_by p f ids w o =
    if gives_other_keys w (argument_type p f o) then rule.TWO_CALLER_KEYS ∷ operand_broken p f ids None o
    else operand_broken p f ids w o

abbrev pub arguments_broken : Program → Func → Ids → (wanted : List (Option Ty)) → List Operand → Rules
arguments_broken p f ids ws [] = []
arguments_broken p f ids [] (o ∷ os) = argument_broken_by p f ids None o ++ arguments_broken p f ids [] os
arguments_broken p f ids (w ∷ ws) (o ∷ os) = argument_broken_by p f ids w o ++ arguments_broken p f ids ws os

-- a callee's type with the caller's keys, where each of its keys has one
abbrev pub caller_type : (keys : List ℕ) → Ty → Option Ty
caller_type keys ty = if list_all (λ k. nat_lt k (length keys)) (keys_of_ty ty) then Some (with_keys keys ty) else None

abbrev pub clause_keys_broken : Func → (keys : List ℕ) → Rules
clause_keys_broken g keys = unless (are_apart (filter_map (λ e. slice_get keys e.key) g.clause)) rule.CLAUSE_KEYS_MEET

-- the caller keys of a call that aren't fresh are in scope
abbrev pub caller_keys_broken : Func → Ids → Func → List (ℕ × ℕ) → Rules
caller_keys_broken f ids g [] = []
caller_keys_broken f ids g (q ∷ qs) =
    (if has (new_keys g) q.0 || not (nat_lt q.1 (length f.keys)) then [] else unless (has ids.keys q.1) rule.NAME_TAKEN) ++
    caller_keys_broken f ids g qs

abbrev pub result_misfit : Func → (wanted given : Ty) → Rules
result_misfit g w t =
    if same_ty w t then []
    else if is_fresh_call g && is_tracked_type w && same_but_keys w t && same_keys (args_of w) (args_of t)
    then rule.TWO_CALLER_KEYS ∷ []
    else rule.WRONG_TYPE ∷ []

-- the callee's result for a target of the type `given`
abbrev pub result_broken_by : Func → (keys : List ℕ) → (result given : Option Ty) → Rules
result_broken_by g keys None given = rule.WRONG_TYPE ∷ []
result_broken_by g keys (Some w) None = []
result_broken_by g keys (Some w) (Some t) = when_some (caller_type keys w) (λ w. result_misfit g w t)

abbrev pub call_target_broken : Func → Ids → Func → (keys : List ℕ) → (target : Option ℕ) → Rules
call_target_broken f ids g keys None = unless (not (is_owning_some g.result) && not (is_fresh_call g)) rule.DROPPED_RESULT
call_target_broken f ids g keys (Some v) =
    result_broken_by g keys g.result (var_type f v) ++
    (if is_fresh_call g then binding_broken f ids (own_key f v) v else target_broken f ids v)

abbrev pub with_call_target : Func → Option Func → (target : Option ℕ) → Ids → Ids
with_call_target f g None ids = ids
with_call_target f None (Some v) ids = with_target f v ids
with_call_target f (Some g) (Some v) ids = if is_fresh_call g then with_binding f (own_key f v) v ids else with_target f v ids

abbrev pub target_alone_broken : Func → Ids → (target : Option ℕ) → Rules
target_alone_broken f ids None = []
target_alone_broken f ids (Some v) = target_broken f ids v

abbrev pub call_broken : Program → Func → Ids → Option Func → (target : Option ℕ) → (keys : List ℕ) → List Operand → Rules
call_broken p f ids None target keys args =
    flat_map (λ k. unless (nat_lt k (length f.keys)) rule.UNKNOWN_NAME) keys ++
    rule.UNKNOWN_NAME ∷ operands_broken p f ids [] args ++ target_alone_broken f ids target
call_broken p f ids (Some g) target keys args =
    flat_map (λ k. unless (nat_lt k (length f.keys)) rule.UNKNOWN_NAME) keys ++
    unless (keys_fit g keys) rule.TWO_CALLER_KEYS ++
    unless (length args == length (parameters_of g)) rule.WRONG_COUNT ++
    (if keys_fit g keys then clause_keys_broken g keys else []) ++
    arguments_broken p f ids (map (caller_type keys) (parameters_of g)) args ++
    caller_keys_broken f ids g (enumerate_from 0 keys) ++
    call_target_broken f ids g keys target

-- ---- returns

-- the keys of the clause that are held after, those of `new` entries aside
abbrev pub kept_keys : Func → List ℕ
kept_keys f = map (λ e. e.key) (filter is_given_back f.clause)

-- a returned reference for a `new` key: of the result's type under its own key, which the clause doesn't have after
abbrev pub new_result_broken : Program → Func → Ids → (t : ℕ) → List ℕ → Operand → Rules
new_result_broken p f ids t args (pure (var x)) = use_broken f ids x ++ when_some (var_type f x) of_type
  where
    of_type : Ty → Rules
    of_type (tracked k u others) =
        unless (same_object t args u others) rule.WRONG_TYPE ++
        (if same_object t args u others then unless (not (has (kept_keys f) k)) rule.RETURNED_KEY else [])
    of_type ty = rule.WRONG_TYPE ∷ []
new_result_broken p f ids t args o = rule.WRONG_TYPE ∷ operand_broken p f ids None o

abbrev pub returned_broken : Program → Func → Ids → Ty → Operand → Rules
returned_broken p f ids (tracked k t args) o =
    if has (new_keys f) k then new_result_broken p f ids t args o else operand_broken p f ids (Some (tracked k t args)) o
returned_broken p f ids ty o = operand_broken p f ids (Some ty) o

abbrev pub return_broken : Program → Func → Ids → Option Ty → Option Operand → Rules
return_broken p f ids None None = []
return_broken p f ids (Some ty) None = rule.WRONG_RETURN ∷ []
return_broken p f ids None (Some o) = rule.WRONG_RETURN ∷ operand_broken p f ids None o
return_broken p f ids (Some ty) (Some o) = returned_broken p f ids ty o
