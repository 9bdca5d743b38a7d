-- The key of a call that stands for a bound entry's has that key's type.
use Rattle.std.proofs.Common.{◌≡◌, ◌<◌, inl, inr, ⊎_elim, ℕ, suc, ◌==◌, nat_lt, Bool, true, false, true≢false, ◌||◌, if◌then◌else◌, List, [], ◌∷◌, ◌++◌, map, length, Option, Some, None, slice_get, refl, sym, ap, ◌∙◌, subst, arith}
use Rattle.std.specs.List.{list_all, flat_map, range_with_len}
use Rattle.std.proofs.lemmas.Bool.{and_parts, eqb-true, ltb-true}
use Rattle.std.proofs.lemmas.List.{length-map}
use Rattle.std.proofs.lemmas.Option.{slice_get-get_or, slice_get_within}
use Rattle.vlt_core.specs.Core.{Ty, Operand, up_to, Entry, Func, Program}
use Rattle.vlt_core.specs.Kinded.{IsKinded}
use Rattle.vlt_core.specs.KindedHeads.{has, parameters_of, keys_of_parameters, new_keys}
use Rattle.vlt_core.specs.KindedScopes.{Ids}
use Rattle.vlt_core.specs.KindedOperands.{operand_broken, operands_broken}
use Rattle.vlt_core.specs.KindedCalls.{argument_type, gives_other_keys, argument_broken_by, arguments_broken, caller_type, call_broken}
use Rattle.vlt_core.specs.declared.rules.TheConstants as rule
use Rattle.vlt_core.specs.Lookups.{key_type, is_fresh, is_new}
use Rattle.vlt_core.specs.Types.{keys_of_ty, stands_for, with_keys}
use Rattle.vlt_core_laws.proofs.Unbroken.{some_same}
use Rattle.vlt_sound_worlds.proofs.Empty.{both_empty, unless_so}
use Rattle.vlt_sound_worlds.proofs.Starting.{has_left, has_right, has_in}
use Rattle.vlt_sound_calls.specs.Callee.{IsParamKey}
use Rattle.vlt_sound_calls.specs.Among.{Among}
use Rattle.vlt_sound_calls.specs.Heads.{HasHead}
use Rattle.vlt_sound_calls.specs.Meet.{KeysMeet}
use Rattle.vlt_sound_calls.proofs.CallRules.{IsUnbrokenCall, unbroken_call}
use Rattle.vlt_sound_calls.proofs.ResultsLaws.{caller_type_is}
use Rattle.vlt_sound.specs.Sizes.{HasSizes}
use Rattle.vlt_sound.proofs.Facts.{is_typed, has_head}
use Rattle.vlt_sound.proofs.HeadsDeclared.{has_fields}
use Rattle.vlt_sound.proofs.Meeting.{keys_meet}

all_has : (test : ℕ → Bool) (xs : List ℕ) → list_all test xs ≡ true → (k : ℕ) → has xs k ≡ true → test k ≡ true
all_has test [] all k there = absurd (true≢false (sym there))
all_has test (x ∷ xs) all k there = by (x == k) refl there (all_has test xs (and_parts (test x) (list_all test xs) all).1 k)
  where
    by : (b : Bool) → (x == k) ≡ b → (b || has xs k) ≡ true → (has xs k ≡ true → test k ≡ true) → test k ≡ true
    by true same there more = subst (λ j. test j ≡ true) (eqb-true x k same) (and_parts (test x) (list_all test xs) all).0
    by false same there more = more there

-- arguments that break no rule are operands that break none
arguments_fit : (p : Program) (f : Func) (ids : Ids) (keys : List ℕ) (types : List Ty) (args : List Operand) →
    ((ty : Ty) → Among ty types → caller_type keys ty ≡ Some (with_keys keys ty)) → length args ≡ length types →
    arguments_broken p f ids (map (caller_type keys) types) args ≡ [] → operands_broken p f ids (map (with_keys keys) types) args ≡ []
arguments_fit p f ids keys [] [] known long e = refl
arguments_fit p f ids keys [] (o ∷ os) known long e = cc
arguments_fit p f ids keys (ty ∷ types) [] known long e = refl
arguments_fit p f ids keys (ty ∷ types) (o ∷ os) known long e =
    let both = both_empty (argument_broken_by p f ids (caller_type keys ty) o) (arguments_broken p f ids (map (caller_type keys) types) os) e in
    rw (here (gives_other_keys (Some (with_keys keys ty)) (argument_type p f o)) (subst (λ w. argument_broken_by p f ids w o ≡ []) (known ty (inl refl)) both.0))
    (arguments_fit p f ids keys types os (λ t i. known t (inr i)) (suc_same long) both.1)
  where
    suc_same : {n m : ℕ} → suc n ≡ suc m → n ≡ m
    suc_same e = omega arith

    here : (b : Bool) → (if b then rule.TWO_CALLER_KEYS ∷ operand_broken p f ids None o else operand_broken p f ids (Some (with_keys keys ty)) o) ≡ [] →
        operand_broken p f ids (Some (with_keys keys ty)) o ≡ []
    here true e = cc
    here false e = e

module _ (p : Program) (kinded : IsKinded p) (sizes : HasSizes p) (n : ℕ) (f : Func) (there : slice_get p.fns n ≡ Some f) (c : ℕ) (h : Func) (at : slice_get p.fns c ≡ Some h)
    (ids : Ids) (target : Option ℕ) (keys : List ℕ) (args : List Operand) (broken : call_broken p f ids (Some h) target keys args ≡ []) where
  head : HasHead p h
  head = has_head p c h kinded at

  rules : IsUnbrokenCall p f ids h target keys args
  rules = unbroken_call p f ids h target keys args broken

  within : (k : ℕ) → has (keys_of_parameters h ++ new_keys h) k ≡ true → k < length keys
  within k t =
      ltb-true k (length keys)
      (all_has (λ k. nat_lt k (length keys)) (keys_of_parameters h ++ new_keys h)
      (and_parts (list_all (has (keys_of_parameters h ++ new_keys h)) (range_with_len 0 (length keys))) (list_all (λ k. nat_lt k (length keys)) (keys_of_parameters h ++ new_keys h)) rules.fit).1 k t)

  params_known : (ds : List Ty) → ((k : ℕ) → has (flat_map keys_of_ty ds) k ≡ true → k < length keys) → (ty : Ty) → Among ty ds → caller_type keys ty ≡ Some (with_keys keys ty)
  params_known [] all ty i = absurd i
  params_known (d ∷ ds) all ty (inl same) =
      caller_type_is keys ty (λ k j. all k (has_left k (keys_of_ty d) (flat_map keys_of_ty ds) (subst (λ t. has (keys_of_ty t) k ≡ true) same (has_in k (keys_of_ty ty) j))))
  params_known (d ∷ ds) all ty (inr rest) = params_known ds (λ k t. all k (has_right k (keys_of_ty d) (flat_map keys_of_ty ds) t)) ty rest

  same_count : length args ≡ length (parameters_of h)
  same_count = eqb-true (length args) (length (parameters_of h)) (unless_so (length args == length (parameters_of h)) rule.WRONG_COUNT rules.count)

  meets : KeysMeet p f h
  meets = keys_meet p f h (is_typed p n f kinded sizes there) (has_fields p kinded) head

  pub typed_key : (e : Entry) (i : ℕ) (b t k : ℕ) → slice_get h.clause i ≡ Some e → e.mode ≡ up_to b → key_type h e.key ≡ Some t → slice_get keys e.key ≡ Some k → key_type f k ≡ Some t
  typed_key e i b t k from mode type stands = subst (λ j. key_type f j ≡ Some t) same
      (meets.types ids keys args (same_count ∙ sym (length-map (parameters_of h) (with_keys keys)))
      (arguments_fit p f ids keys (parameters_of h) args (params_known (parameters_of h) (λ k t. within k (has_left k (keys_of_parameters h) (new_keys h) t))) same_count rules.arguments)
      e.key t param type)
    where
      old : is_new e ≡ false
      old = ap is_fresh mode

      param : IsParamKey h e.key
      param = ⊎_elim (λ new. absurd (true≢false (sym new ∙ old))) (λ q. q) (head.entries i e from)

      same : stands_for keys e.key ≡ k
      same = some_same (stands_for keys e.key) k (sym (slice_get-get_or keys e.key 0 (slice_get_within keys e.key k stands)) ∙ stands)
