-- A call that breaks no rule breaks none of its parts' rules.
use Rattle.std.proofs.Common.{◌≡◌, ℕ, ◌==◌, nat_lt, true, if◌then◌else◌, List, [], ◌++◌, length, map, Option, Some}
use Rattle.std.specs.List.{flat_map, enumerate_from}
use Rattle.vlt_core.specs.Core.{Operand, Func, Program}
use Rattle.vlt_core.specs.KindedHeads.{unless, parameters_of}
use Rattle.vlt_core.specs.KindedScopes.{Ids}
use Rattle.vlt_core.specs.KindedCalls.{keys_fit, clause_keys_broken, arguments_broken, caller_type, caller_keys_broken, call_target_broken, call_broken}
use Rattle.vlt_core.specs.declared.rules.TheConstants as rule
use Rattle.vlt_sound_worlds.proofs.Empty.{both_empty, unless_so}

pub record IsUnbrokenCall (p : Program) (f : Func) (ids : Ids) (g : Func) (target : Option ℕ) (keys : List ℕ)
    (args : List Operand) : Type 0 where
  pub numbers : flat_map (λ k. unless (nat_lt k (length f.keys)) rule.UNKNOWN_NAME) keys ≡ []
  pub fit : keys_fit g keys ≡ true
  pub count : unless (length args == length (parameters_of g)) rule.WRONG_COUNT ≡ []
  pub met : (if keys_fit g keys then clause_keys_broken g keys else []) ≡ []
  pub arguments : arguments_broken p f ids (map (caller_type keys) (parameters_of g)) args ≡ []
  pub in_scope : caller_keys_broken f ids g (enumerate_from 0 keys) ≡ []
  pub target_fits : call_target_broken f ids g keys target ≡ []

module _ (p : Program) (f : Func) (ids : Ids) (g : Func) (target : Option ℕ) (keys : List ℕ) (args : List Operand) where
  abbrev numbers : List ℕ
  numbers = flat_map (λ k. unless (nat_lt k (length f.keys)) rule.UNKNOWN_NAME) keys

  abbrev fit : List ℕ
  fit = unless (keys_fit g keys) rule.TWO_CALLER_KEYS

  abbrev count : List ℕ
  count = unless (length args == length (parameters_of g)) rule.WRONG_COUNT

  abbrev met : List ℕ
  met = if keys_fit g keys then clause_keys_broken g keys else []

  abbrev arguments : List ℕ
  arguments = arguments_broken p f ids (map (caller_type keys) (parameters_of g)) args

  abbrev in_scope : List ℕ
  in_scope = caller_keys_broken f ids g (enumerate_from 0 keys)

  pub unbroken_call : call_broken p f ids (Some g) target keys args ≡ [] → IsUnbrokenCall p f ids g target keys args
  unbroken_call broken =
      let to_scope = both_empty (numbers ++ fit ++ count ++ met ++ arguments ++ in_scope) (call_target_broken f ids g keys target) broken in
      let to_args = both_empty (numbers ++ fit ++ count ++ met ++ arguments) in_scope to_scope.0 in
      let to_met = both_empty (numbers ++ fit ++ count ++ met) arguments to_args.0 in
      let to_count = both_empty (numbers ++ fit ++ count) met to_met.0 in
      let to_fit = both_empty (numbers ++ fit) count to_count.0 in
      let first = both_empty numbers fit to_fit.0 in
      record {
        numbers = first.0;
        fit = unless_so (keys_fit g keys) rule.TWO_CALLER_KEYS first.1;
        count = to_fit.1;
        met = to_count.1;
        arguments = to_met.1;
        in_scope = to_args.1;
        target_fits = to_scope.1;
      }
