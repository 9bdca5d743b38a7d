-- What the rules say of a call of a kinded program.
use Rattle.std.proofs.Common.{◌≡◌, ℕ, ◌+◌, ◌==◌, nat_lt, true, false, if◌then◌else◌, List, [], ◌++◌, map, length, Option, Some, slice_get, subst, arith}
use Rattle.std.specs.List.{flat_map, list_all, enumerate_from, range_with_len}
use Rattle.std.proofs.lemmas.Bool.{eqb-true}
use Rattle.vlt_core.specs.Core.{Operand, Func, Program}
use Rattle.vlt_core.specs.Kinded.{IsKinded}
use Rattle.vlt_core.specs.KindedHeads.{unless, has, new_keys, keys_of_parameters, parameters_of}
use Rattle.vlt_core.specs.KindedScopes.{Ids}
use Rattle.vlt_core.specs.KindedCalls.{keys_fit, caller_type, clause_keys_broken, caller_keys_broken, call_target_broken, arguments_broken, call_broken}
use Rattle.vlt_core.specs.declared.rules.TheConstants as rule
use Rattle.vlt_core_laws.proofs.Ids.{and_right}
use Rattle.c_lower_worlds.specs.Naming.Functions.{IsFunction}
use Rattle.c_lower_worlds.proofs.OfNaming.CallOperands.{operands_fit}
use Rattle.c_lower_worlds.proofs.OfNaming.HeadKeys.{headed}
use Rattle.c_lower_worlds.proofs.OfNaming.NamedCalls.{IsKnownCall, all_has, caller_in, listed_at, target_so}
use Rattle.c_lower_worlds.proofs.OfNaming.RuleFacts.{both_empty}
use Rattle.vlt_core_laws.proofs.Unbroken.{unless_holds}

module _ (p : Program) (kinded : IsKinded p) where
  pub known_call : (f : Func) (ids : Ids) (n : ℕ) (g : Func) (target : Option ℕ) (keys : List ℕ) (os : List Operand) → IsFunction p f → slice_get p.fns n ≡ Some g → call_broken p f ids (Some g) target keys os ≡ [] →
      IsKnownCall p f ids g target keys os
  known_call f ids n g target keys os is at e =
      let a = both_empty _ (call_target_broken f ids g keys target) e in
      let b = both_empty _ (caller_keys_broken f ids g (enumerate_from 0 keys)) a.left in
      let c = both_empty _ (arguments_broken p f ids (map (caller_type keys) (parameters_of g)) os) b.left in
      let d = both_empty _ (if keys_fit g keys then clause_keys_broken g keys else []) c.left in
      let h = both_empty _ (unless (length os == length (parameters_of g)) rule.WRONG_COUNT) d.left in
      let i = both_empty (flat_map (λ k. unless (nat_lt k (length f.keys)) rule.UNKNOWN_NAME) keys) (unless (keys_fit g keys) rule.TWO_CALLER_KEYS) h.left in
      let ok = unless_holds (keys_fit g keys) rule.TWO_CALLER_KEYS i.right in
      let range : (k : ℕ) → has (keys_of_parameters g ++ new_keys g) k ≡ true → nat_lt k (length keys) ≡ true =
      λ k m. all_has (λ k. nat_lt k (length keys)) (keys_of_parameters g ++ new_keys g) k
      (and_right (list_all (has (keys_of_parameters g ++ new_keys g)) (range_with_len 0 (length keys))) (list_all (λ k. nat_lt k (length keys)) (keys_of_parameters g ++ new_keys g)) ok) m in
      record {
        fits = operands_fit p f ids keys g os
            (and_right (list_all (has (keys_of_parameters g ++ new_keys g)) (range_with_len 0 (length keys))) (list_all (λ k. nat_lt k (length keys)) (keys_of_parameters g ++ new_keys g)) ok)
            (eqb-true (length os) (length (parameters_of g)) (unless_holds (length os == length (parameters_of g)) rule.WRONG_COUNT h.right)) c.right;
        listed = λ k m. listed_at keys k (range k m);
        scoped = λ j k q old. caller_in f ids g keys 0 j k
            (λ k m. unless_holds (nat_lt k (length f.keys)) rule.UNKNOWN_NAME (Rattle.vlt_core_laws.proofs.Ids.each_has (λ k. unless (nat_lt k (length f.keys)) rule.UNKNOWN_NAME) keys k i.left m)) b.right q
            (subst (λ m. has (new_keys g) m ≡ false) (zero_less j) old);
        aimed = target_so p f ids g target keys (headed p kinded n g at) range a.right;
      }
    where
      zero_less : (j : ℕ) → j ≡ 0 + j
      zero_less j = omega arith
