-- What a call that breaks no rule says of its keys.
use Rattle.std.proofs.Common.{◌≡◌, ◌⊎◌, inl, inr, ⊎_elim, ℕ, zero, suc, ◌+◌, ◌<◌, ◌==◌, nat_lt, Bool, true, false, ◌&&◌, ◌||◌, not, if◌then◌else◌, List, [], ◌∷◌, ◌++◌, map, filter, length, take, Option, Some, None, refl, sym, ap, ◌∙◌, subst, arith, slice_get}
use Rattle.std.proofs.lemmas.Bool.{cases_Bool, eqb-true, eq-eqb, ltb-true}
use Rattle.std.proofs.lemmas.List.{length-map}
use Rattle.std.proofs.lemmas.Option.{none-some, same_Some, slice_get-get_or, slice_get_cases}
use Rattle.std.specs.List.{list_any, list_all, flat_map, filter_map, range_with_len, enumerate_from}
use Rattle.std.specs.Option.{option_map}
use Rattle.vlt_core.specs.Core.{Ty, int, bool, tracked, owning, guarded, variant, owning_variant, VarDecl, Mode, kept, taken, given, fresh, up_to, Operand, Entry, Func, Program}
use Rattle.vlt_core.specs.Lookups.{var_type, is_before, is_fresh, is_held_before, is_new}
use Rattle.vlt_core.specs.Types.{same_ty, same_keys, same_object, keys_of_ty, stands_for, with_keys}
use Rattle.vlt_core.specs.KindedHeads.{has, are_apart, unless, when_some, parameters_of, keys_of_parameters, new_keys, keys_of_result}
use Rattle.vlt_core.specs.declared.rules.TheConstants as rule
use Rattle.vlt_core.specs.KindedScopes.{Ids, own_key, tracked_key, fresh_broken, binding_broken, target_broken}
use Rattle.vlt_core.specs.KindedOperands.{is_owning_some, operand_broken, operands_broken}
use Rattle.vlt_core.specs.KindedCalls.{is_fresh_call, gives_other_keys, argument_type, argument_broken_by, arguments_broken, caller_type, clause_keys_broken, caller_keys_broken, result_misfit, result_broken_by, call_target_broken, call_broken}
use Rattle.vlt_meaning.specs.Calls.{is_new_key}
use Rattle.vlt_sound_worlds.specs.Members.{In}
use Rattle.vlt_sound_worlds.proofs.Members.{in_either}
use Rattle.vlt_sound_worlds.specs.Agrees.{Context}
use Rattle.vlt_sound_worlds.specs.Typed.{IsTyped}
use Rattle.vlt_sound_worlds.proofs.Empty.{both_empty, both_so, unless_so}
use Rattle.vlt_sound_worlds.proofs.TypeFacts.{var_known}
use Rattle.vlt_sound_worlds.specs.Scoped.{IsKeyInScope, IsScoped}
use Rattle.vlt_sound_worlds.proofs.Starting.{has_left, has_right, has_in}
use Rattle.vlt_sound_worlds.proofs.Binding.{first_or_other, binding_kept}
use Rattle.vlt_sound_worlds.proofs.Fresh.{is_fresh as key_is_fresh}
use Rattle.vlt_sound_calls.specs.Heads.{IsNewKey, HasHead}
use Rattle.vlt_sound_calls.proofs.CallRules.{IsUnbrokenCall, unbroken_call}
use Rattle.vlt_sound_calls.specs.Callee.{AreApartBy, caller_key, IsParamKey, IsCall}
use Rattle.vlt_sound_calls.specs.Among.{Among}
use Rattle.vlt_sound_calls.proofs.Parameters.{in_range}
use Rattle.vlt_sound_calls.specs.Fresh.{IsFreshCall}
use Rattle.vlt_sound_calls.proofs.ResultsLaws.{result_same, caller_type_is, new_entry}
use Rattle.vlt_sound_calls.specs.Meet.{KeysMeet}

-- ---- lists of numbers

pub has_there : (k : ℕ) (ks : List ℕ) → has ks k ≡ true → In k ks
has_there k [] e = cc
has_there k (j ∷ js) e = ⊎_elim inl (λ rest. inr (has_there k js rest)) (first_or_other k j js e)

all_has : (test : ℕ → Bool) (ns : List ℕ) → list_all test ns ≡ true → (k : ℕ) → has ns k ≡ true → test k ≡ true
all_has test [] all k e = cc
all_has test (n ∷ ns) all k e =
    let both = both_so (test n) (list_all test ns) all in
    ⊎_elim (λ same. ap test same ∙ both.0) (λ rest. all_has test ns both.1 k rest) (first_or_other k n ns e)

-- entries with different numbers
pub apart_by : (at : Entry → ℕ) (es : List Entry) → are_apart (map at es) ≡ true → AreApartBy at es
apart_by at [] e = tt
apart_by at (x ∷ es) e =
    let both = both_so (not (has (map at es) (at x))) (are_apart (map at es)) e in (
      λ d i same. clash (sym (not_so (has (map at es) (at x)) both.0) ∙ (ap (has (map at es)) (sym same) ∙ there es d i)),
      apart_by at es both.1,
    )
  where
    clash : false ≡ true → ⊥
    clash e = cc

    not_so : (b : Bool) → not b ≡ true → b ≡ false
    not_so true e = cc
    not_so false e = refl

    there : (es : List Entry) (d : Entry) → Among d es → has (map at es) (at d) ≡ true
    there [] d i = absurd i
    there (y ∷ ys) d (inl same) = rw (eq-eqb (at y) (at d) (ap at (sym same))) refl
    there (y ∷ ys) d (inr rest) = by (at y == at d) (there ys d rest)
      where
        by : (b : Bool) → has (map at ys) (at d) ≡ true → (b || has (map at ys) (at d)) ≡ true
        by true e = refl
        by false e = e

stands : (keys : List ℕ) (k : ℕ) → k < length keys → slice_get keys k ≡ Some (stands_for keys k)
stands keys k lt = slice_get-get_or keys k 0 lt

-- an entry by its position
pub among_at : (es : List Entry) (e : Entry) → Among e es → (i : ℕ) × (slice_get es i ≡ Some e)
among_at [] e i = absurd i
among_at (x ∷ es) e i =
    ⊎_elim (λ same. (0, ap Some (sym same))) (λ rest. let r = among_at es e rest in (suc r.0, r.1)) i

-- ---- keys of parameters

-- such a key stands in the type of one of the first variables
pub param_var : (n : ℕ) (ds : List VarDecl) (k : ℕ) → has (flat_map keys_of_ty (map (λ d. d.ty) (take n ds))) k ≡ true →
    (v : ℕ) × (ty : Ty) × (option_map (λ d. d.ty) (slice_get ds v) ≡ Some ty) × In k (keys_of_ty ty)
param_var zero ds k e = cc
param_var (suc n) [] k e = cc
param_var (suc n) (d ∷ ds) k e = ⊎_elim
    (λ i. (0, d.ty, refl, i))
    (λ i. let r = param_var n ds k (has_in k (flat_map keys_of_ty (map (λ d. d.ty) (take n ds))) i) in (suc r.0, r.1, r.2, r.3))
    (in_either k (keys_of_ty d.ty) (flat_map keys_of_ty (map (λ d. d.ty) (take n ds)))
    (has_there k (keys_of_ty d.ty ++ flat_map keys_of_ty (map (λ d. d.ty) (take n ds))) e))

-- a `new` entry of the key
pub any_new : (es : List Entry) (k : ℕ) → list_any (λ e. is_new e && e.key == k) es ≡ true →
    (e : Entry) × Among e es × (is_new e ≡ true) × (e.key ≡ k)
any_new [] k e = cc
any_new (x ∷ es) k e = ⊎_elim
    (λ t. let both = both_so (is_new x) (x.key == k) t in (x, inl refl, both.0, eqb-true x.key k both.1))
    (λ f.
    let r = any_new es k (subst (λ b. (b || list_any (λ e. is_new e && e.key == k) es) ≡ true) f e) in
    (r.0, inr r.1, r.2, r.3))
    (cases_Bool (is_new x && x.key == k))

before_not_new : (e : Entry) → is_held_before e ≡ true → is_new e ≡ true → ⊥
before_not_new e b n = by e.mode b n
  where
    by : (m : Mode) → is_before m ≡ true → is_fresh m ≡ true → ⊥
    by kept b n = cc
    by (up_to u) b n = cc
    by taken b n = cc
    by given b n = cc
    by fresh b n = cc

module _ {p : Program} {g : Func} (head : HasHead p g) where
  pub param_not_new : (k : ℕ) → IsParamKey g k → is_new_key g k ≡ false
  param_not_new k param = ⊎_elim
      (λ t.
      let e = any_new g.clause k t in
      let at = among_at g.clause e.0 e.1 in
      let q = head.new at.0 e.0 at.1 e.2 in
      let v = param_var g.params g.vars k param in
      absurd (q.not_vars v.0 v.1 v.2 (subst (λ k. In k (keys_of_ty v.1)) (sym e.3) v.3)))
      (λ f. f)
      (cases_Bool (is_new_key g k))

  entry_known : (e : Entry) → Among e g.clause → (is_new e ≡ true) ⊎ IsParamKey g e.key
  entry_known e i = let at = among_at g.clause e i in head.entries at.0 e at.1

-- ---- arguments

-- arguments that break no rule are operands that break none
arguments_fit : (p : Program) (f : Func) (ids : Ids) (keys : List ℕ) (types : List Ty) (args : List Operand) →
    ((ty : Ty) → Among ty types → caller_type keys ty ≡ Some (with_keys keys ty)) → length args ≡ length types →
    arguments_broken p f ids (map (caller_type keys) types) args ≡ [] →
    operands_broken p f ids (map (with_keys keys) types) args ≡ []
arguments_fit p f ids keys [] [] known long e = refl
arguments_fit p f ids keys [] (o ∷ os) known long e = cc
arguments_fit p f ids keys (ty ∷ types) [] known long e = refl
arguments_fit p f ids keys (ty ∷ types) (o ∷ os) known long e =
    let both =
    both_empty (argument_broken_by p f ids (caller_type keys ty) o)
    (arguments_broken p f ids (map (caller_type keys) types) os) e in
    rw (here (gives_other_keys (Some (with_keys keys ty)) (argument_type p f o))
    (subst (λ w. argument_broken_by p f ids w o ≡ []) (known ty (inl refl)) both.0))
    (arguments_fit p f ids keys types os (λ t i. known t (inr i)) (suc_same long) both.1)
  where
    suc_same : {n m : ℕ} → suc n ≡ suc m → n ≡ m
    suc_same e = omega arith

    here : (b : Bool) →
        (if b then rule.TWO_CALLER_KEYS ∷ operand_broken p f ids None o else operand_broken p f ids (Some (with_keys keys ty)) o) ≡ [] →
        operand_broken p f ids (Some (with_keys keys ty)) o ≡ []
    here true e = cc
    here false e = e

-- ---- pieces of what a call breaks

known_key : (f : Func) (keys : List ℕ) → flat_map (λ k. unless (nat_lt k (length f.keys)) rule.UNKNOWN_NAME) keys ≡ [] →
    (j k : ℕ) → slice_get keys j ≡ Some k → nat_lt k (length f.keys) ≡ true
known_key f [] e j k at = absurd (none-some k at)
known_key f (x ∷ xs) e zero k at =
    let both =
    both_empty (unless (nat_lt x (length f.keys)) rule.UNKNOWN_NAME)
    (flat_map (λ k. unless (nat_lt k (length f.keys)) rule.UNKNOWN_NAME) xs) e in
    ap (λ k. nat_lt k (length f.keys)) (sym (same_Some x k at)) ∙ unless_so (nat_lt x (length f.keys)) rule.UNKNOWN_NAME both.0
known_key f (x ∷ xs) e (suc j) k at =
    let both =
    both_empty (unless (nat_lt x (length f.keys)) rule.UNKNOWN_NAME)
    (flat_map (λ k. unless (nat_lt k (length f.keys)) rule.UNKNOWN_NAME) xs) e in
    known_key f xs both.1 j k at

old_in_scope : (f : Func) (ids : Ids) (g : Func) (i : ℕ) (keys : List ℕ) →
    caller_keys_broken f ids g (enumerate_from i keys) ≡ [] → (j k : ℕ) → slice_get keys j ≡ Some k →
    has (new_keys g) (i + j) ≡ false → nat_lt k (length f.keys) ≡ true → IsKeyInScope ids k
old_in_scope f ids g i [] e j k at old lt = absurd (none-some k at)
old_in_scope f ids g i (x ∷ xs) e zero k at old lt =
    let both =
    both_empty (if has (new_keys g) i || not (nat_lt x (length f.keys)) then [] else unless (has ids.keys x) rule.NAME_TAKEN)
    (caller_keys_broken f ids g (enumerate_from (i + 1) xs)) e in
    let same = same_Some x k at in
    let not_new : has (new_keys g) i ≡ false = ap (has (new_keys g)) (omega arith) ∙ old in
    let first =
    subst (λ b. (if b || not (nat_lt x (length f.keys)) then [] else unless (has ids.keys x) rule.NAME_TAKEN) ≡ []) not_new both.0 in
    let second =
    subst (λ b. (if not b then [] else unless (has ids.keys x) rule.NAME_TAKEN) ≡ []) (ap (λ k. nat_lt k (length f.keys)) same ∙ lt) first in
    subst (IsKeyInScope ids) same (unless_so (has ids.keys x) rule.NAME_TAKEN second)
old_in_scope f ids g i (x ∷ xs) e (suc j) k at old lt =
    let both =
    both_empty (if has (new_keys g) i || not (nat_lt x (length f.keys)) then [] else unless (has ids.keys x) rule.NAME_TAKEN)
    (caller_keys_broken f ids g (enumerate_from (i + 1) xs)) e in
    old_in_scope f ids g (i + 1) xs both.1 j k at (ap (has (new_keys g)) (omega arith) ∙ old) lt

callers_are : (keys : List ℕ) (es : List Entry) →
    ((e : Entry) → Among e es → slice_get keys e.key ≡ Some (caller_key keys e)) →
    filter_map (λ e. slice_get keys e.key) es ≡ map (caller_key keys) es
callers_are keys [] there = refl
callers_are keys (x ∷ es) there =
    rw (there x (inl refl)) (ap (λ ks. caller_key keys x ∷ ks) (callers_are keys es (λ e i. there e (inr i))))

any_is_new : (es : List Entry) (e : Entry) → Among e es → is_new e ≡ true → list_any is_new es ≡ true
any_is_new [] e i t = absurd i
any_is_new (x ∷ es) e (inl same) t = rw (ap is_new (sym same) ∙ t) refl
any_is_new (x ∷ es) e (inr rest) t = by (is_new x) (any_is_new es e rest t)
  where
    by : (b : Bool) → list_any is_new es ≡ true → (b || list_any is_new es) ≡ true
    by true e = refl
    by false e = e

pub record IsTracked (k t : ℕ) (ty : Ty) : Type 0 where
  pub args : List ℕ
  pub is : ty ≡ tracked k t args

tracked_same : (k t : ℕ) (args : List ℕ) (ty : Ty) → same_ty (tracked k t args) ty ≡ true → IsTracked k t ty
tracked_same k t args (tracked j u others) e =
    let both = both_so (k == j) (same_object t args u others) e in
    let type = both_so (t == u) (same_keys args others) both.1 in
    record {
      args = others;
      is =
          ap (λ k. tracked k u others) (sym (eqb-true k j both.0)) ∙
          ap (λ u. tracked k u others) (sym (eqb-true t u type.0));
    }
tracked_same k t args int e = cc
tracked_same k t args bool e = cc
tracked_same k t args (owning S u others) e = cc
tracked_same k t args (guarded j u others) e = cc
tracked_same k t args (variant u others) e = cc
tracked_same k t args (owning_variant u others) e = cc

module _ {p : Program} {f : Func} {c : Context} {ids : Ids} {g : Func} (target : Option ℕ) (keys : List ℕ) (args : List Operand)
    (head : HasHead p g) (typed : IsTyped p f) (scoped : IsScoped f c ids) (meet : KeysMeet p f g)
    (broken : call_broken p f ids (Some g) target keys args ≡ []) where
  rules : IsUnbrokenCall p f ids g target keys args
  rules = unbroken_call p f ids g target keys args broken

  within : (k : ℕ) → has (keys_of_parameters g ++ new_keys g) k ≡ true → k < length keys
  within k t =
      ltb-true k (length keys)
      (all_has (λ k. nat_lt k (length keys)) (keys_of_parameters g ++ new_keys g)
      (both_so (list_all (has (keys_of_parameters g ++ new_keys g)) (range_with_len 0 (length keys))) (list_all (λ k. nat_lt k (length keys)) (keys_of_parameters g ++ new_keys g)) rules.fit).1 k t)

  param_there : (k : ℕ) → IsParamKey g k → slice_get keys k ≡ Some (stands_for keys k)
  param_there k t = stands keys k (within k (has_left k (keys_of_parameters g) (new_keys g) t))

  new_has : (es : List Entry) (e : Entry) → Among e es → is_new e ≡ true → has (map (λ e. e.key) (filter is_new es)) e.key ≡ true
  new_has [] e i t = absurd i
  new_has (x ∷ es) e (inl same) t =
      rw (ap is_new (sym same) ∙ t) (rw (eq-eqb x.key e.key (ap (λ e. e.key) (sym same))) refl)
  new_has (x ∷ es) e (inr rest) t = by (is_new x) (new_has es e rest t)
    where
      or_more : (b : Bool) → has (map (λ e. e.key) (filter is_new es)) e.key ≡ true →
          (b || has (map (λ e. e.key) (filter is_new es)) e.key) ≡ true
      or_more true e = refl
      or_more false e = e

      by : (b : Bool) → has (map (λ e. e.key) (filter is_new es)) e.key ≡ true →
          has (map (λ e. e.key) (if b then x ∷ filter is_new es else filter is_new es)) e.key ≡ true
      by true q = or_more (x.key == e.key) q
      by false q = q

  entry_there : (e : Entry) → Among e g.clause → slice_get keys e.key ≡ Some (caller_key keys e)
  entry_there e i = ⊎_elim
      (λ t. stands keys e.key (within e.key (has_right e.key (keys_of_parameters g) (new_keys g) (new_has g.clause e i t))))
      (λ param. param_there e.key param)
      (entry_known head e i)

  param_old : (k : ℕ) → IsParamKey g k → has (new_keys g) k ≡ false
  param_old k param = ⊎_elim
      (λ t.
      let e = new_entry g.clause k t in
      let at = among_at g.clause e.entry e.among in
      let q = head.new at.0 e.entry at.1 e.new in
      let v = param_var g.params g.vars k param in
      absurd (q.not_vars v.0 v.1 v.2 (subst (λ k. In k (keys_of_ty v.1)) (sym e.is) v.3)))
      (λ f. f)
      (cases_Bool (has (new_keys g) k))

  same_count : length args ≡ length (parameters_of g)
  same_count =
      eqb-true (length args) (length (parameters_of g)) (unless_so (length args == length (parameters_of g)) rule.WRONG_COUNT rules.count)

  pub args_long : length args ≡ length (map (with_keys keys) (parameters_of g))
  args_long = same_count ∙ sym (length-map (parameters_of g) (with_keys keys))

  -- the numbers of the keys that a call has are numbers of keys
  first_so : (k : ℕ) → k < length keys → has (keys_of_parameters g ++ new_keys g) k ≡ true
  first_so k lt =
      all_has (has (keys_of_parameters g ++ new_keys g)) (range_with_len 0 (length keys))
      (both_so (list_all (has (keys_of_parameters g ++ new_keys g)) (range_with_len 0 (length keys))) (list_all (λ k. nat_lt k (length keys)) (keys_of_parameters g ++ new_keys g)) rules.fit).0 k
      (in_range k 0 (length keys) (omega arith) (omega arith))

  entry_has : (es : List Entry) (e : Entry) → Among e es → has (map (λ e. e.key) es) e.key ≡ true
  entry_has [] e i = absurd i
  entry_has (x ∷ es) e (inl same) = rw (eq-eqb x.key e.key (ap (λ e. e.key) (sym same))) refl
  entry_has (x ∷ es) e (inr rest) = or_more (x.key == e.key) (entry_has es e rest)
    where
      or_more : (b : Bool) → has (map (λ e. e.key) es) e.key ≡ true → (b || has (map (λ e. e.key) es) e.key) ≡ true
      or_more true q = refl
      or_more false q = q

  key_number : (k : ℕ) → has (keys_of_parameters g ++ new_keys g) k ≡ true → nat_lt k (length g.keys) ≡ true
  key_number k t = ⊎_elim
      (λ i. head.numbers k
      (has_left k (keys_of_result g ++ keys_of_parameters g) (map (λ e. e.key) g.clause)
      (has_right k (keys_of_result g) (keys_of_parameters g) (has_in k (keys_of_parameters g) i))))
      (λ i.
      let e = new_entry g.clause k (has_in k (new_keys g) i) in
      head.numbers k
      (has_right k (keys_of_result g ++ keys_of_parameters g) (map (λ e. e.key) g.clause)
      (subst (λ k. has (map (λ e. e.key) g.clause) k ≡ true) e.is (entry_has g.clause e.entry e.among))))
      (in_either k (keys_of_parameters g) (new_keys g) (has_there k (keys_of_parameters g ++ new_keys g) t))

  clash : false ≡ true → ⊥
  clash e = cc

  params_known : (ds : List Ty) → ((k : ℕ) → has (flat_map keys_of_ty ds) k ≡ true → k < length keys) → (ty : Ty) →
      Among ty ds → caller_type keys ty ≡ Some (with_keys keys ty)
  params_known [] all ty i = absurd i
  params_known (d ∷ ds) all ty i = ⊎_elim
      (λ same. caller_type_is keys ty (λ k j. all k
      (has_left k (keys_of_ty d) (flat_map keys_of_ty ds) (has_in k (keys_of_ty d) (subst (λ t. In k (keys_of_ty t)) same j)))))
      (λ rest. params_known ds (λ k t. all k (has_right k (keys_of_ty d) (flat_map keys_of_ty ds) t)) ty rest)
      i

  pub args_fit : operands_broken p f ids (map (with_keys keys) (parameters_of g)) args ≡ []
  args_fit =
      arguments_fit p f ids keys (parameters_of g) args
      (params_known (parameters_of g) (λ k t. within k (has_left k (keys_of_parameters g) (new_keys g) t))) same_count rules.arguments

  pub target_fit : call_target_broken f ids g keys target ≡ []
  target_fit = rules.target_fits

  pub is_call : IsCall p f g ids keys
  is_call = record {
    entries = entry_there;
    params = param_there;
    old = param_not_new head;
    beyond = λ k past. ⊎_elim
        (λ at. absurd (clash (sym past ∙ key_number k (first_so k (at.1)))))
        (λ none. none.1)
        (slice_get_cases keys k).1;
    before = λ e i b. ⊎_elim (λ t. absurd (before_not_new e b t)) (λ q. q) (entry_known head e i);
    apart = apart_by (λ e. e.key) g.clause head.apart;
    callers =
        apart_by (caller_key keys) g.clause
        (subst (λ ks. are_apart ks ≡ true) (callers_are keys g.clause entry_there)
        (unless_so (are_apart (filter_map (λ e. slice_get keys e.key) g.clause)) rule.CLAUSE_KEYS_MEET
        (subst (λ b. (if b then clause_keys_broken g keys else []) ≡ []) rules.fit rules.met)));
    scoped = λ k t. old_in_scope f ids g 0 keys rules.in_scope k (stands_for keys k) (param_there k t)
        (ap (has (new_keys g)) (omega arith) ∙ param_old k t) (known_key f keys rules.numbers k (stands_for keys k) (param_there k t));
    typed = λ k t param type. meet.types ids keys args args_long args_fit k t param type;
  }

  -- ---- new keys

  -- the variable that takes the result of a call that gives a new key
  pub record NewTarget (e : Entry) : Type 0 where
    pub var : ℕ
    pub type : ℕ
    pub taken : List ℕ
    pub others : List ℕ
    pub result : g.result ≡ Some (tracked e.key type taken)
    pub is : var_type f var ≡ Some (tracked (caller_key keys e) type others)
    pub fresh : fresh_broken f ids (own_key f var) ≡ []

  new_target : (e : Entry) → Among e g.clause → is_new e ≡ true → NewTarget e
  new_target e i t = by target target_fit
    where
      at : (n : ℕ) × (slice_get g.clause n ≡ Some e)
      at = among_at g.clause e i

      q : IsNewKey g e.key
      q = head.new at.0 e at.1 t

      calls_fresh : is_fresh_call g ≡ true
      calls_fresh = any_is_new g.clause e i t

      result_known : caller_type keys (tracked e.key q.type q.args) ≡ Some (with_keys keys (tracked e.key q.type q.args))
      result_known = caller_type_is keys (tracked e.key q.type q.args) (λ k j. ⊎_elim
          (λ t. within k (has_right k (keys_of_parameters g) (new_keys g) t))
          (λ t. within k (has_left k (keys_of_parameters g) (new_keys g) t))
          (head.result k (rw q.is j)))

      by : (o : Option ℕ) → call_target_broken f ids g keys o ≡ [] → NewTarget e
      by None broken =
          let r = subst (λ b. unless (not (is_owning_some g.result) && not b) rule.DROPPED_RESULT ≡ []) calls_fresh broken in
          absurd (clash (is_owning_some g.result) r)
        where
          clash : (b : Bool) → unless (not b && false) rule.DROPPED_RESULT ≡ [] → ⊥
          clash true e = cc
          clash false e = cc
      by (Some v) broken =
          let both =
          both_empty (result_broken_by g keys g.result (var_type f v))
          (if is_fresh_call g then binding_broken f ids (own_key f v) v else target_broken f ids v) broken in
          let bind =
          subst (λ b. (if b then binding_broken f ids (own_key f v) v else target_broken f ids v) ≡ []) calls_fresh both.1 in
          let kept = binding_kept f ids (own_key f v) v bind in
          let ty = var_known f v kept.within in
          let misfit =
          subst (λ o. result_broken_by g keys g.result o ≡ []) ty.1 both.0 in
          let misfit2 = subst (λ o. result_broken_by g keys o (Some ty.0) ≡ []) q.is misfit in
          let misfit3 = subst (λ o. when_some o (λ w. result_misfit g w ty.0) ≡ []) result_known misfit2 in
          let same =
          tracked_same (caller_key keys e) q.type (map (stands_for keys) q.args) ty.0
          (result_same g (with_keys keys (tracked e.key q.type q.args)) ty.0 misfit3) in
          record {
            var = v;
            type = q.type;
            taken = q.args;
            others = same.args;
            result = q.is;
            is = ty.1 ∙ ap Some same.is;
            fresh = kept.key;
          }

  pub is_fresh_too : IsFreshCall f c g ids keys
  is_fresh_too = record {
    fresh = λ e i t.
        let n = new_target e i t in
        key_is_fresh scoped (caller_key keys e) [] tt
        (known_key f keys rules.numbers e.key (caller_key keys e) (entry_there e i))
        (subst (λ o. fresh_broken f ids o ≡ []) (ap tracked_key n.is) n.fresh);
    typed = λ e t args i new is.
        let n = new_target e i new in
        let same : n.type ≡ t = ap_type (same_Some (tracked e.key n.type n.taken) (tracked e.key t args) (sym n.result ∙ is)) in
        typed.keys n.var (caller_key keys e) n.type n.others n.is ∙ ap Some same;
    result = λ e i t. let n = new_target e i t in (n.type, n.taken, n.result);
    params = λ e i after old. ⊎_elim (λ t. absurd (old t)) (λ q. q) (entry_known head e i);
  }
    where
      type_of : Ty → ℕ
      type_of (tracked k t args) = t
      type_of ty = 0

      ap_type : {k t u : ℕ} {as' bs : List ℕ} → tracked k t as' ≡ tracked k u bs → t ≡ u
      ap_type e = ap type_of e
