-- Calls that break no rule have good rows.
use Rattle.std.proofs.Common.{◌≡◌, ◌≤◌, ◌+◌, ℕ, zero, suc, Bool, true, false, not, ◌&&◌, ◌||◌, ◌==◌, cond, if◌then◌else◌, List, [], ◌∷◌, ◌++◌, map, length, Option, Some, None, refl, sym, ap, subst, ◌∙◌, ◌⊎◌, inl, inr, ⊎_elim, arith}
use Rattle.std.specs.Prelude.{nat_lt, slice_get, filter, IfSome}
use Rattle.std.specs.List.{flat_map, list_any, list_all, enumerate_from}
use Rattle.std.proofs.lemmas.List.Concat.{flat_map-cons}
use Rattle.vlt_core.specs.Core.{States, Ty, int, bool, tracked, owning, guarded, variant, owning_variant, Tok, a_key, Operand, Mode, kept, taken, given, fresh, up_to, Entry, VarDecl, Func, Program}
use Rattle.vlt_core.specs.Lookups.{every_state, key_type, states_of_type, states_or_all, is_held_before, is_held_after, is_new, var_type}
use Rattle.vlt_core.specs.Maps.{wants_absent, becomes_absent, becomes_held}
use Rattle.vlt_core.specs.Rows.{on_option, held_in, entry_row, called_row, called_rows, target_rows, operand_rows, operands_rows}
use Rattle.vlt_core.specs.Types.{same_ty, with_keys, stands_for}
use Rattle.vlt_core.specs.KindedHeads.{unless, when_some, has, new_keys, keys_of_parameters, parameters_of}
use Rattle.vlt_core.specs.KindedScopes.{Ids, own_key, tracked_key, with_binding, with_target, binding_broken, target_broken}
use Rattle.vlt_core.specs.KindedOperands.{operand_broken, operands_broken, is_owning_some}
use Rattle.vlt_core.specs.KindedCalls.{is_fresh_call, keys_fit, gives_other_keys, argument_type, argument_broken_by, arguments_broken, caller_type, clause_keys_broken, caller_keys_broken, result_misfit, result_broken_by, call_target_broken, with_call_target, target_alone_broken, call_broken}
use Rattle.vlt_core.specs.declared.rules.TheConstants as rule
use Rattle.std.specs.Option.{option_map}
use Rattle.std.proofs.lemmas.Bool.Decides.{nat_tests}
use Rattle.std.proofs.lemmas.Option.{get_or_from_slice_get, slice_get_within, slice_get_cases}
use Rattle.vlt_core_laws.specs.States.{HasStates, IsFilledSet}
use Rattle.vlt_core_laws.specs.Heads.{HasNewResult, HaveNewResults}
use Rattle.vlt_core_laws.proofs.Unbroken.{left_empty, right_empty, unless_holds, filled_not_empty, some_same, some_not_none}
use Rattle.vlt_core_laws.proofs.Ids.{type_keys, AreTyped, or_left, or_right, or_split, not_both, same_number, each_has, is_false, and_left, and_right}
use Rattle.vlt_core_laws.proofs.Binding.{has_first, IsInRange, var_there, own_in_range, binding_var, binding_key, target_var, on_true, on_false}
use Rattle.vlt_core_laws.proofs.Good.{Good, AllRows, all_both, all_filled, fill_good}
use Rattle.vlt_core_laws.proofs.Scoping.{Covers, operand_good}
use Rattle.vlt_core_laws.specs.Tame.{IsPlainWanted, IsPlainAfter}
use Rattle.vlt_core_laws.specs.Shown.{IsFilled, IsOwnKind}
use Rattle.vlt_core_laws.proofs.Simple.{has_only, option_rows}

-- ---- sets that a call leaves

every_filled : IsFilledSet every_state
every_filled = record { state = 0; has = refl }

module _ (p : Program) (h : HasStates p) where
  pub type_filled : (o : Option ℕ) → IsFilledSet (states_of_type p o)
  type_filled None = every_filled
  type_filled (Some t) = h.all t

  pub left_filled : (f : Func) (k n i : ℕ) (g : Func) (e : Entry) → slice_get p.fns n ≡ Some g → slice_get g.clause i ≡ Some e → IsFilledSet (states_or_all p f k e.after)
  left_filled f k n i g e there at = by e.after (h.after n g i e there at)
    where
      by : (o : Option States) → IfSome o IsFilledSet → IsFilledSet (states_or_all p f k o)
      by None s = type_filled (key_type f k)
      by (Some states) s = s

-- ---- the rows of a clause's entry

wanted_plain : (b : Bool) (o : Option States) → IsPlainWanted (if b then held_in o else wants_absent)
wanted_plain true None = tt
wanted_plain true (Some s) = tt
wanted_plain false o = tt

after_good : (b : Bool) (states : States) (k : ℕ) → IsFilledSet states → IsPlainAfter (if b then becomes_held states else becomes_absent) × IsFilled (if b then becomes_held states else becomes_absent) × IsOwnKind (if b then becomes_held states else becomes_absent) (a_key k)
after_good true states k s = (tt, (s.state, s.has), tt)
after_good false states k s = (tt, tt, tt)

pub entry_good : (p : Program) (f : Func) (g : Tok → Bool) (k : ℕ) (e : Entry) → g (a_key k) ≡ true → IsFilledSet (states_or_all p f k e.after) → Good g (entry_row p f k e)
entry_good p f g k e s some =
    let a = after_good (is_held_after e) (states_or_all p f k e.after) k some in
    record { scoped = s; wanted = wanted_plain (is_held_before e) e.before; after = a.0; filled = a.1; own = a.2 }

called_good : (p : Program) (f : Func) (g : Tok → Bool) (k : ℕ) (e : Entry) → g (a_key k) ≡ true → IsFilledSet (states_or_all p f k e.after) → Good g (called_row p f k e)
called_good p f g k e s some = by e.mode
  where
    by : (m : Mode) → Good g (called_row p f k (record e { mode = m }))
    by kept = entry_good p f g k (record e { mode = kept }) s some
    by taken = entry_good p f g k (record e { mode = taken }) s some
    by given = entry_good p f g k (record e { mode = given }) s some
    by fresh = entry_good p f g k (record e { mode = fresh }) s some
    by (up_to b) = record { scoped = s; wanted = tt; after = tt; filled = tt; own = tt }

pub clause_good : (p : Program) (f : Func) (g : Tok → Bool) (keys : List ℕ) (es : List Entry) →
    ((j k : ℕ) → slice_get keys j ≡ Some k → g (a_key k) ≡ true) → ((i : ℕ) (e : Entry) (k : ℕ) → slice_get es i ≡ Some e → IsFilledSet (states_or_all p f k e.after)) →
    AllRows (Good g) (called_rows p f keys es)
clause_good p f g keys [] s some = tt
clause_good p f g keys (e ∷ es) s some =
    all_both (Good g) _ (called_rows p f keys es)
    (option_rows (Good g) (slice_get keys e.key) _ (λ k at. (called_good p f g k e (s e.key k at) (some zero e k refl), tt)))
    (clause_good p f g keys es s (λ i d k at. some (suc i) d k at))

-- ---- the caller's keys

caller_in : (f : Func) (ids : Ids) (g : Func) (keys : List ℕ) (n j k : ℕ) → ((k : ℕ) → has keys k ≡ true → nat_lt k (length f.keys) ≡ true) → caller_keys_broken f ids g (enumerate_from n keys) ≡ [] →
    slice_get keys j ≡ Some k → ((m : ℕ) × (m ≡ n + j) × (has (new_keys g) m ≡ true)) ⊎ (has ids.keys k ≡ true)
caller_in f ids g [] n j k r e at = absurd (some_not_none k (sym at))
caller_in f ids g (x ∷ xs) n zero k r e at =
    by (has (new_keys g) n) refl (has_first x xs) (left_empty _ (caller_keys_broken f ids g (enumerate_from (n + 1) xs)) e)
  where
    by : (b : Bool) → has (new_keys g) n ≡ b → has (x ∷ xs) x ≡ true → (if has (new_keys g) n || not (nat_lt x (length f.keys)) then [] else unless (has ids.keys x) rule.NAME_TAKEN) ≡ [] →
        ((m : ℕ) × (m ≡ n + 0) × (has (new_keys g) m ≡ true)) ⊎ (has ids.keys k ≡ true)
    by true new m e = inl (n, omega arith, new)
    by false old m e =
        let range : not (nat_lt x (length f.keys)) ≡ false = ap not (r x m) in
        let test : (has (new_keys g) n || not (nat_lt x (length f.keys))) ≡ false = ap (λ b. b || not (nat_lt x (length f.keys))) old ∙ range in
        inr (subst (λ k. has ids.keys k ≡ true) (some_same x k at) (unless_holds (has ids.keys x) rule.NAME_TAKEN (sym (on_false _ _ _ test) ∙ e)))
caller_in f ids g (x ∷ xs) n (suc j) k r e at =
    ⊎_elim (λ y. let same = y.1 in inl (y.0, omega (arith, same), y.2)) (λ y. inr y)
    (caller_in f ids g xs (n + 1) j k (λ k m. r k (or_right (x == k) (has xs k) m)) (right_empty _ (caller_keys_broken f ids g (enumerate_from (n + 1) xs)) e) at)

-- ---- the key that is made by a call

some_new : (es : List Entry) (k : ℕ) → has (map (λ e. e.key) (filter is_new es)) k ≡ true → list_any is_new es ≡ true
some_new [] k m = m
some_new (e ∷ es) k m = by (λ m. some_new es k m) (is_new e) refl m
  where
    by : (has (map (λ e. e.key) (filter is_new es)) k ≡ true → list_any is_new es ≡ true) → (b : Bool) → is_new e ≡ b → has (map (λ e. e.key) (cond b (e ∷ filter is_new es) (filter is_new es))) k ≡ true → (is_new e || list_any is_new es) ≡ true
    by more true new m = or_left (is_new e) (list_any is_new es) new
    by more false old m = or_right (is_new e) (list_any is_new es) (more m)

all_has : (test : ℕ → Bool) (ns : List ℕ) (n : ℕ) → list_all test ns ≡ true → has ns n ≡ true → test n ≡ true
all_has test [] n a m = not_both false m refl
all_has test (x ∷ xs) n a m = ⊎_elim (λ same. subst (λ n. test n ≡ true) (same_number x n same) (and_left (test x) (list_all test xs) a))
    (λ there. all_has test xs n (and_right (test x) (list_all test xs) a) there) (or_split (x == n) (has xs n) m)

has_all : (test : ℕ → Bool) (ns : List ℕ) → ((n : ℕ) → has ns n ≡ true → test n ≡ true) → list_all test ns ≡ true
has_all test [] q = refl
has_all test (x ∷ xs) q = both (test x) (list_all test xs) (q x (has_first x xs)) (has_all test xs (λ n m. q n (or_right (x == n) (has xs n) m)))
  where
    both : (a b : Bool) → a ≡ true → b ≡ true → (a && b) ≡ true
    both true b e d = d
    both false b e d = e

-- a type that is the same as a reference's is one under that key
same_reference : (k t : ℕ) (args : List ℕ) (o : Option Ty) (ty : Ty) → o ≡ Some ty → same_ty (tracked k t args) ty ≡ true → tracked_key o ≡ Some k
same_reference k t args o ty e s = ap tracked_key e ∙ by ty s
  where
    by : (ty : Ty) → same_ty (tracked k t args) ty ≡ true → tracked_key (Some ty) ≡ Some k
    by (tracked j u others) s = ap Some (sym (same_number k j (and_left (k == j) _ s)))
    by int s = not_both false s refl
    by bool s = not_both false s refl
    by (owning r u others) s = not_both false s refl
    by (guarded j u others) s = not_both false s refl
    by (variant u others) s = not_both false s refl
    by (owning_variant u others) s = not_both false s refl

has_append_right : (xs ys : List ℕ) (n : ℕ) → has ys n ≡ true → has (xs ++ ys) n ≡ true
has_append_right [] ys n m = m
has_append_right (x ∷ xs) ys n m = or_right (x == n) (has (xs ++ ys) n) (has_append_right xs ys n m)

from_zero : (m j : ℕ) → m ≡ 0 + j → m ≡ j
from_zero m j e = omega (arith, e)

misfits : (a b : Bool) (r q : ℕ) → (if a then [] else (if b then r ∷ [] else q ∷ [])) ≡ [] → a ≡ true
misfits true b r q e = refl
misfits false true r q e = absurd (filled_not_empty r [] e)
misfits false false r q e = absurd (filled_not_empty q [] e)

pub var_some : (f : Func) (v : ℕ) → nat_lt v (length f.vars) ≡ true → (d : VarDecl) × (slice_get f.vars v ≡ Some d)
var_some f v e = ⊎_elim (λ x. (x.0, x.2)) (λ x. absurd (past (length f.vars) v e x.0)) ((slice_get_cases f.vars v).1)
  where
    past : (n v : ℕ) → nat_lt v n ≡ true → n ≤ v → ⊥
    past n v e le = grind (arith, nat_tests)

module _ (p : Program) (f : Func) (ranged : (v k : ℕ) → has (type_keys f v) k ≡ true → nat_lt k (length f.keys) ≡ true) (g : Tok → Bool) (h : HasStates p) (ids : Ids) (covers : Covers f g ids) (typed : AreTyped f ids) where
  argument_good : (w : Option Ty) (o : Operand) → argument_broken_by p f ids w o ≡ [] → AllRows (Good g) (operand_rows p f o)
  argument_good w o e = by (gives_other_keys w (argument_type p f o)) e
    where
      by : (b : Bool) → (if b then rule.TWO_CALLER_KEYS ∷ operand_broken p f ids None o else operand_broken p f ids w o) ≡ [] → AllRows (Good g) (operand_rows p f o)
      by true e = absurd (filled_not_empty _ _ e)
      by false e = operand_good p f g ids covers typed w o e

  arguments_good : (ws : List (Option Ty)) (os : List Operand) → arguments_broken p f ids ws os ≡ [] → AllRows (Good g) (operands_rows p f os)
  arguments_good ws [] e = tt
  arguments_good [] (o ∷ os) e =
      subst (AllRows (Good g)) (sym (flat_map-cons (operand_rows p f) o os)) (all_both (Good g) (operand_rows p f o) (operands_rows p f os)
      (argument_good None o (left_empty (argument_broken_by p f ids None o) (arguments_broken p f ids [] os) e))
      (arguments_good [] os (right_empty (argument_broken_by p f ids None o) (arguments_broken p f ids [] os) e)))
  arguments_good (w ∷ ws) (o ∷ os) e =
      subst (AllRows (Good g)) (sym (flat_map-cons (operand_rows p f) o os)) (all_both (Good g) (operand_rows p f o) (operands_rows p f os)
      (argument_good w o (left_empty (argument_broken_by p f ids w o) (arguments_broken p f ids ws os) e))
      (arguments_good ws os (right_empty (argument_broken_by p f ids w o) (arguments_broken p f ids ws os) e)))

  -- the key that stands for a new one is bound with the target
  new_in : (fn : Func) (target : Option ℕ) (keys : List ℕ) (j k : ℕ) → HasNewResult fn → keys_fit fn keys ≡ true → call_target_broken f ids fn keys target ≡ [] →
      Covers f g (with_call_target f (Some fn) target ids) → slice_get keys j ≡ Some k → has (new_keys fn) j ≡ true → g (a_key k) ≡ true
  new_in fn None keys j k head fit e c at new =
      let test = unless_holds (not (is_owning_some fn.result) && not (is_fresh_call fn)) rule.DROPPED_RESULT e in
      let fresh = some_new fn.clause j new in
      not_both (is_fresh_call fn) fresh (is_false (is_fresh_call fn) (and_right (not (is_owning_some fn.result)) (not (is_fresh_call fn)) test))
  new_in fn (Some v) keys j k head fit e c at new =
      let fresh = some_new fn.clause j new in
      let bind = sym (on_true (is_fresh_call fn) (binding_broken f ids (own_key f v) v) (target_broken f ids v) fresh) ∙ right_empty (result_broken_by fn keys fn.result (var_type f v)) _ e in
      let d = var_some f v (var_there f ranged ids (own_key f v) v bind) in
      let is = ap (option_map (λ d. d.ty)) d.1 in
      let r = head.each j new in
      let result = subst (λ o. result_broken_by fn keys o (var_type f v) ≡ []) r.2 (left_empty (result_broken_by fn keys fn.result (var_type f v)) _ e) in
      let given = subst (λ o. result_broken_by fn keys (Some (tracked j r.0 r.1)) o ≡ []) is result in
      let each = has_all (λ k. nat_lt k (length keys)) (j ∷ r.1) (λ m x. ⊎_elim (λ s. subst (λ m. nat_lt m (length keys) ≡ true) (same_number j m s) (in_keys keys j k at)) (λ x. fits fn keys fit m (r.3 m x)) (or_split (j == m) (has r.1 m) x)) in
      let same = misfits (same_ty (with_keys keys (tracked j r.0 r.1)) d.0.ty) _ rule.TWO_CALLER_KEYS rule.WRONG_TYPE
      (subst (λ o. when_some o (λ w. result_misfit fn w d.0.ty) ≡ []) (on_true (list_all (λ k. nat_lt k (length keys)) (j ∷ r.1)) _ _ each) given) in
      let own = same_reference (stands_for keys j) r.0 (map (stands_for keys) r.1) (var_type f v) d.0.ty is same in
      let there = subst (λ o. binding_broken f ids o v ≡ []) own bind in
      let ids2 = with_binding f (Some (stands_for keys j)) v ids in
      let range = subst (λ o. IsInRange f ranged o) own (own_in_range f ranged v) in
      let key = subst (λ o. has (with_binding f o v ids).keys (stands_for keys j) ≡ true) (sym own) (binding_key f ranged ids (stands_for keys j) v range there) in
      let c2 = subst (λ x. Covers f g x) (on_true (is_fresh_call fn) (with_binding f (own_key f v) v ids) (with_target f v ids) fresh) c in
      subst (λ k. g (a_key k) ≡ true) (get_or_from_slice_get keys j k 0 at) (c2.keys (stands_for keys j) key)
    where
      fits : (fn : Func) (keys : List ℕ) → keys_fit fn keys ≡ true → (m : ℕ) → has (keys_of_parameters fn ++ new_keys fn) m ≡ true → nat_lt m (length keys) ≡ true
      fits fn keys fit m x = all_has (λ k. nat_lt k (length keys)) (keys_of_parameters fn ++ new_keys fn) m (and_right _ (list_all (λ k. nat_lt k (length keys)) (keys_of_parameters fn ++ new_keys fn)) fit) x

      in_keys : (keys : List ℕ) (j k : ℕ) → slice_get keys j ≡ Some k → nat_lt j (length keys) ≡ true
      in_keys keys j k at = let less = slice_get_within keys j k at in grind (arith, nat_tests)

  -- the keys that a call names are in scope after it
  key_in : (fn : Func) (target : Option ℕ) (keys : List ℕ) → HasNewResult fn → keys_fit fn keys ≡ true → flat_map (λ k. unless (nat_lt k (length f.keys)) rule.UNKNOWN_NAME) keys ≡ [] →
      caller_keys_broken f ids fn (enumerate_from 0 keys) ≡ [] → call_target_broken f ids fn keys target ≡ [] → ((k : ℕ) → has ids.keys k ≡ true → g (a_key k) ≡ true) →
      Covers f g (with_call_target f (Some fn) target ids) → (j k : ℕ) → slice_get keys j ≡ Some k → g (a_key k) ≡ true
  key_in fn target keys head fit range callers t old c j k at =
      let in_range = λ (k : ℕ) (m : has keys k ≡ true). unless_holds (nat_lt k (length f.keys)) rule.UNKNOWN_NAME (each_has (λ k. unless (nat_lt k (length f.keys)) rule.UNKNOWN_NAME) keys k range m) in
      ⊎_elim (λ x. new_in fn target keys j k head fit t c at (subst (λ m. has (new_keys fn) m ≡ true) (from_zero x.0 j x.1) x.2)) (λ x. old k x) (caller_in f ids fn keys 0 j k in_range callers at)

  target_good : (o : Option Func) (target : Option ℕ) → ((v : ℕ) → target ≡ Some v → has (with_call_target f o target ids).vars v ≡ true) → Covers f g (with_call_target f o target ids) → AllRows (Good g) (target_rows f target)
  target_good o None t c = tt
  target_good o (Some v) t c = all_filled (Good g) f (v ∷ []) (λ w m own. fill_good g w (c.vars w (subst (λ w. has (with_call_target f o (Some v) ids).vars w ≡ true) (has_only v w m) (t v refl))))

  target_there : (fn : Func) (keys : List ℕ) (target : Option ℕ) → call_target_broken f ids fn keys target ≡ [] → (v : ℕ) → target ≡ Some v → has (with_call_target f (Some fn) target ids).vars v ≡ true
  target_there fn keys None e v is = absurd (some_not_none v (sym is))
  target_there fn keys (Some u) e v is = subst (λ v. has (with_call_target f (Some fn) (Some u) ids).vars v ≡ true) (some_same u v is) (by (is_fresh_call fn) (right_empty (result_broken_by fn keys fn.result (var_type f u)) _ e))
    where
      by : (b : Bool) → (if b then binding_broken f ids (own_key f u) u else target_broken f ids u) ≡ [] → has (if b then with_binding f (own_key f u) u ids else with_target f u ids).vars u ≡ true
      by true e = binding_var f ranged ids (own_key f u) u e
      by false e = target_var f ranged ids u e

  call_by : (o : Option Func) (m : ℕ) → slice_get p.fns m ≡ o → HaveNewResults p → (target : Option ℕ) (keys : List ℕ) (args : List Operand) → call_broken p f ids o target keys args ≡ [] →
      Covers f g (with_call_target f o target ids) →
      AllRows (Good g) (operands_rows p f args ++ on_option o (λ fn. called_rows p f keys fn.clause) ++ target_rows f target)
  call_by None m there heads target keys args e c =
      absurd (filled_not_empty _ _ (right_empty (flat_map (λ k. unless (nat_lt k (length f.keys)) rule.UNKNOWN_NAME) keys) (rule.UNKNOWN_NAME ∷ operands_broken p f ids [] args) (left_empty _ (target_alone_broken f ids target) e)))
  call_by (Some fn) m there heads target keys args e c =
      let target_ok = right_empty _ (call_target_broken f ids fn keys target) e in
      let e5 = left_empty _ (call_target_broken f ids fn keys target) e in
      let callers = right_empty _ (caller_keys_broken f ids fn (enumerate_from 0 keys)) e5 in
      let e4 = left_empty _ (caller_keys_broken f ids fn (enumerate_from 0 keys)) e5 in
      let arguments = right_empty _ (arguments_broken p f ids (map (caller_type keys) (parameters_of fn)) args) e4 in
      let e3 = left_empty _ (arguments_broken p f ids (map (caller_type keys) (parameters_of fn)) args) e4 in
      let e2 = left_empty _ (unless (length args == length (parameters_of fn)) rule.WRONG_COUNT) (left_empty _ (if keys_fit fn keys then clause_keys_broken fn keys else []) e3) in
      let range = left_empty (flat_map (λ k. unless (nat_lt k (length f.keys)) rule.UNKNOWN_NAME) keys) (unless (keys_fit fn keys) rule.TWO_CALLER_KEYS) e2 in
      let fit = unless_holds (keys_fit fn keys) rule.TWO_CALLER_KEYS (right_empty (flat_map (λ k. unless (nat_lt k (length f.keys)) rule.UNKNOWN_NAME) keys) (unless (keys_fit fn keys) rule.TWO_CALLER_KEYS) e2) in
      all_both (Good g) _ (target_rows f target)
      (all_both (Good g) (operands_rows p f args) (called_rows p f keys fn.clause) (arguments_good (map (caller_type keys) (parameters_of fn)) args arguments)
      (clause_good p f g keys fn.clause (key_in fn target keys (heads m fn there) fit range callers target_ok covers.keys c) (λ i d k at. left_filled p h f k m i fn d there at)))
      (target_good (Some fn) target (target_there fn keys target target_ok) c)

  pub call_good : HaveNewResults p → (m : ℕ) (target : Option ℕ) (keys : List ℕ) (args : List Operand) → call_broken p f ids (slice_get p.fns m) target keys args ≡ [] →
      Covers f g (with_call_target f (slice_get p.fns m) target ids) →
      AllRows (Good g) (operands_rows p f args ++ on_option (slice_get p.fns m) (λ fn. called_rows p f keys fn.clause) ++ target_rows f target)
  call_good heads m target keys args e c = call_by (slice_get p.fns m) m refl heads target keys args e c
