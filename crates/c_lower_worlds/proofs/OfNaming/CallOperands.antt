-- What a call that breaks no rule says of its operands.
use Rattle.std.proofs.Common.{◌≡◌, ℕ, List, [], ◌∷◌, ◌++◌, map, Some, refl, subst, true, nat_lt, Bool, false, ◌&&◌, if◌then◌else◌, length, None, ap, arith}
use Rattle.std.specs.List.{flat_map, list_all}
use Rattle.vlt_core_laws.proofs.Ids.{and_left, and_right}
use Rattle.vlt_core.specs.Core.{Ty, Operand, Func, Program}
use Rattle.vlt_core.specs.KindedScopes.{Ids}
use Rattle.vlt_core.specs.KindedOperands.{operand_broken}
use Rattle.vlt_core.specs.Types.{with_keys, keys_of_ty}
use Rattle.vlt_core.specs.KindedHeads.{parameters_of, keys_of_parameters, new_keys}
use Rattle.vlt_core.specs.declared.rules.TheConstants as rule
use Rattle.vlt_core.specs.KindedCalls.{caller_type, argument_type, gives_other_keys, argument_broken_by, arguments_broken}
use Rattle.vlt_core_laws.proofs.Unbroken.{filled_not_empty}
use Rattle.c_lower_worlds.proofs.OfNaming.RuleFacts.{both_empty}

-- an operand for each type
abbrev pub OperandsFit : Program → Func → Ids → List Ty → List Operand → Type 0
OperandsFit p f ids [] [] = Unit {0}
OperandsFit p f ids (t ∷ tys) (o ∷ os) = (operand_broken p f ids (Some t) o ≡ []) × OperandsFit p f ids tys os
OperandsFit p f ids _ _ = ⊥

all_left : (test : ℕ → Bool) (xs ys : List ℕ) → list_all test (xs ++ ys) ≡ true → list_all test xs ≡ true
all_left test [] ys e = refl
all_left test (x ∷ xs) ys e = both (test x) (list_all test xs) (and_left (test x) (list_all test (xs ++ ys)) e) (all_left test xs ys (and_right (test x) (list_all test (xs ++ ys)) e))
  where
    both : (a b : Bool) → a ≡ true → b ≡ true → (a && b) ≡ true
    both a b h k = rw (h, k) refl

all_right : (test : ℕ → Bool) (xs ys : List ℕ) → list_all test (xs ++ ys) ≡ true → list_all test ys ≡ true
all_right test [] ys e = e
all_right test (x ∷ xs) ys e = all_right test xs ys (and_right (test x) (list_all test (xs ++ ys)) e)

wanted : (keys : List ℕ) (tys : List Ty) → list_all (λ k. nat_lt k (length keys)) (flat_map keys_of_ty tys) ≡ true → map (caller_type keys) tys ≡ map (λ ty. Some (with_keys keys ty)) tys
wanted keys [] e = refl
wanted keys (ty ∷ tys) e =
    rw (all_left (λ k. nat_lt k (length keys)) (keys_of_ty ty) (flat_map keys_of_ty tys) e)
    (ap (λ os. Some (with_keys keys ty) ∷ os) (wanted keys tys (all_right (λ k. nat_lt k (length keys)) (keys_of_ty ty) (flat_map keys_of_ty tys) e)))

module _ (p : Program) (f : Func) (ids : Ids) (keys : List ℕ) where
  argument : (w : Ty) (o : Operand) → argument_broken_by p f ids (Some w) o ≡ [] → operand_broken p f ids (Some w) o ≡ []
  argument w o e = by (gives_other_keys (Some w) (argument_type p f o)) e
    where
      by : (b : Bool) → (if b then rule.TWO_CALLER_KEYS ∷ operand_broken p f ids None o else operand_broken p f ids (Some w) o) ≡ [] → operand_broken p f ids (Some w) o ≡ []
      by true e = absurd (filled_not_empty rule.TWO_CALLER_KEYS (operand_broken p f ids None o) e)
      by false e = e

  arguments : (tys : List Ty) (os : List Operand) → arguments_broken p f ids (map (λ ty. Some (with_keys keys ty)) tys) os ≡ [] → length os ≡ length tys →
      OperandsFit p f ids (map (with_keys keys) tys) os
  arguments [] [] e l = tt
  arguments [] (o ∷ os) e l = absurd (omega arith)
  arguments (ty ∷ tys) [] e l = absurd (omega arith)
  arguments (ty ∷ tys) (o ∷ os) e l =
      let b = both_empty (argument_broken_by p f ids (Some (with_keys keys ty)) o) (arguments_broken p f ids (map (λ ty. Some (with_keys keys ty)) tys) os) e in
      (argument (with_keys keys ty) o b.left, arguments tys os b.right (omega arith))

-- the operands fit the callee's types under the caller's keys
pub operands_fit : (p : Program) (f : Func) (ids : Ids) (keys : List ℕ) (g : Func) (os : List Operand) →
    list_all (λ k. nat_lt k (length keys)) (keys_of_parameters g ++ new_keys g) ≡ true → length os ≡ length (parameters_of g) →
    arguments_broken p f ids (map (caller_type keys) (parameters_of g)) os ≡ [] → OperandsFit p f ids (map (with_keys keys) (parameters_of g)) os
operands_fit p f ids keys g os all long e =
    arguments p f ids keys (parameters_of g) os
    (subst (λ ws. arguments_broken p f ids ws os ≡ []) (wanted keys (parameters_of g) (all_left (λ k. nat_lt k (length keys)) (keys_of_parameters g) (new_keys g) all)) e) long
