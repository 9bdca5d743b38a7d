-- Calls keep it that a reference in scope is what its key names.
use Rattle.std.proofs.Common.{◌≡◌, ℕ, zero, suc, ◌+◌, ◌<◌, ◌==◌, nat_lt, ◌&&◌, ◌||◌, not, Bool, true, false, if◌then◌else◌, List, [], ◌∷◌, ◌++◌, map, take, length, Option, Some, None, slice_get, refl, sym, ap, ◌∙◌, subst, ⊎_elim, ◌⊎◌, inl, inr, arith}
use Rattle.std.proofs.lemmas.Bool.{false≢true, eqb-true, eq-eqb}
use Rattle.std.proofs.lemmas.Bool.Decides.{nat_tests}
use Rattle.std.proofs.lemmas.Option.{none-some, same_Some}
use Rattle.std.specs.List.{list_any, list_all, enumerate_from}
use Rattle.std.specs.Option.{option_map, option_and_then, option_to_list}
use Rattle.vlt_core.specs.Core.{Ty, tracked, Operand, Entry, VarDecl, Func, Program}
use Rattle.vlt_core.specs.Kinded.{IsKinded}
use Rattle.vlt_core.specs.Lookups.{var_type, is_new}
use Rattle.vlt_core.specs.Types.{keys_of_ty, same_ty, with_keys, stands_for, same_keys, args_of}
use Rattle.vlt_core.specs.KindedHeads.{unless, when_some, has, new_keys, keys_of_parameters, parameters_of, keys_of_result}
use Rattle.vlt_core.specs.KindedScopes.{Ids, with_binding, with_target, own_key, binding_broken, target_broken}
use Rattle.vlt_core.specs.KindedOperands.{is_owning_some}
use Rattle.vlt_core.specs.KindedStatements.{is_tracked_type}
use Rattle.vlt_core.specs.KindedCalls.{is_fresh_call, same_but_keys, caller_keys_broken, result_misfit, result_broken_by, call_target_broken, with_call_target}
use Rattle.vlt_core.specs.KindedBodies.{first_ids}
use Rattle.vlt_core.specs.declared.rules.TheConstants as rule
use Rattle.vlt_meaning.specs.World.{Value, one, reference, Frame}
use Rattle.vlt_meaning.specs.Step as step
use Rattle.vlt_meaning.specs.Step.{set_at}
use Rattle.vlt_meaning.specs.Calls.{is_new_key, callee_key, callee_frame, Binding, binding, bindings, with_names}
use Rattle.vlt_core_laws.proofs.Ids.{or_split, or_right, not_both, and_left, and_right, same_number, is_false}
use Rattle.vlt_core_laws.proofs.Binding.{has_first, on_true, on_false}
use Rattle.c_lower_worlds.specs.Naming.Lists.{Each}
use Rattle.c_lower_worlds.specs.Naming.Naming.{IsInScope, IsKeptBy, AreKeptFor}
use Rattle.c_lower_worlds.proofs.OfNaming.CallOperands.{OperandsFit}
use Rattle.c_lower_worlds.proofs.OfNaming.KnownScopes.{first_below, first_keys, first_known}
use Rattle.c_lower_worlds.proofs.OfNaming.FrameNaming.{Adds, set_here, set_there, binding_adds, target_adds}
use Rattle.c_lower_worlds.proofs.OfNaming.HeadKeys.{IsHeaded, is_new_same}
use Rattle.c_lower_worlds.proofs.OfNaming.NamedOperands.{IsOfTy, AreOfTys}
use Rattle.c_lower_worlds.proofs.OfNaming.DeclaredVariables.{Declared, bound_declared, target_declared}
use Rattle.c_lower_worlds.proofs.OfNaming.RuleFacts.{both_empty}
use Rattle.vlt_core_laws.proofs.Unbroken.{unless_holds, filled_not_empty}

-- ---- arguments

-- a parameter's value
pub param_of : (K : ℕ → Option ℕ) (keys : List ℕ) (ds : List VarDecl) (n v : ℕ) (values : List Value) (ty : Ty) (a : Value) →
    AreOfTys K (map (with_keys keys) (map (λ (d : VarDecl). d.ty) (take n ds))) values → v < n → option_map (λ (d : VarDecl). d.ty) (slice_get ds v) ≡ Some ty → slice_get values v ≡ Some a →
    IsOfTy K (with_keys keys ty) a
param_of K keys [] n v values ty a h l t q = absurd (none-some ty t)
param_of K keys (d ∷ ds) zero v values ty a h l t q = absurd (omega arith)
param_of K keys (d ∷ ds) (suc n) v [] ty a h l t q = absurd h
param_of K keys (d ∷ ds) (suc n) zero (b ∷ values) ty a h l t q =
    subst (λ ty. IsOfTy K (with_keys keys ty) a) (same_Some d.ty ty t) (subst (IsOfTy K (with_keys keys d.ty)) (same_Some b a q) h.0)
param_of K keys (d ∷ ds) (suc n) (suc v) (b ∷ values) ty a h l t q = param_of K keys ds n v values ty a h.1 (omega arith) t q

-- a key that is listed
pub listed_at : (keys : List ℕ) (k : ℕ) → nat_lt k (length keys) ≡ true → slice_get keys k ≡ Some (stands_for keys k)
listed_at [] k e = absurd (none k e)
  where
    none : (k : ℕ) → nat_lt k 0 ≡ true → ⊥
    none k e = grind (arith, nat_tests)
listed_at (x ∷ keys) zero e = refl
listed_at (x ∷ keys) (suc k) e = listed_at keys k (grind (arith, nat_tests))

pub all_has : (test : ℕ → Bool) (ns : List ℕ) (n : ℕ) → list_all test ns ≡ true → has ns n ≡ true → test n ≡ true
all_has test [] n a m = not_both false m refl
all_has test (x ∷ xs) n a m = ⊎_elim (λ same. subst (λ n. test n ≡ true) (same_number x n same) (and_left (test x) (list_all test xs) a))
    (λ there. all_has test xs n (and_right (test x) (list_all test xs) a) there) (or_split (x == n) (has xs n) m)

has_all : (test : ℕ → Bool) (ns : List ℕ) → ((n : ℕ) → has ns n ≡ true → test n ≡ true) → list_all test ns ≡ true
has_all test [] q = refl
has_all test (x ∷ xs) q = both (test x) (list_all test xs) (q x (has_first x xs)) (has_all test xs (λ n m. q n (or_right (x == n) (has xs n) m)))
  where
    both : (a b : Bool) → a ≡ true → b ≡ true → (a && b) ≡ true
    both true b e d = d
    both false b e d = e

-- the caller's keys that aren't for new ones are in scope
pub caller_in : (f : Func) (ids : Ids) (g : Func) (keys : List ℕ) (n j k : ℕ) → ((k : ℕ) → has keys k ≡ true → nat_lt k (length f.keys) ≡ true) → caller_keys_broken f ids g (enumerate_from n keys) ≡ [] →
    slice_get keys j ≡ Some k → has (new_keys g) (n + j) ≡ false → has ids.keys k ≡ true
caller_in f ids g [] n j k r e at old = absurd (none-some k at)
caller_in f ids g (x ∷ xs) n zero k r e at old =
    by (has (new_keys g) n) refl (subst (λ m. has (new_keys g) m ≡ false) (zero_more n) old) (has_first x xs) (both_empty _ (caller_keys_broken f ids g (enumerate_from (n + 1) xs)) e).left
  where
    zero_more : (n : ℕ) → n + 0 ≡ n
    zero_more n = omega arith

    by : (b : Bool) → has (new_keys g) n ≡ b → has (new_keys g) n ≡ false → has (x ∷ xs) x ≡ true → (if b || not (nat_lt x (length f.keys)) then [] else unless (has ids.keys x) rule.NAME_TAKEN) ≡ [] → has ids.keys k ≡ true
    by true new old m e = not_both (has (new_keys g) n) new old
    by false new old m e =
        let range : not (nat_lt x (length f.keys)) ≡ false = ap not (r x m) in
        subst (λ k. has ids.keys k ≡ true) (same_Some x k at) (unless_holds (has ids.keys x) rule.NAME_TAKEN (sym (on_false (not (nat_lt x (length f.keys))) _ _ range) ∙ e))
caller_in f ids g (x ∷ xs) n (suc j) k r e at old =
    caller_in f ids g xs (n + 1) j k (λ k m. r k (or_right (x == k) (has xs k) m)) (both_empty _ (caller_keys_broken f ids g (enumerate_from (n + 1) xs)) e).right at
    (subst (λ m. has (new_keys g) m ≡ false) (one_more n j) old)
  where
    one_more : (n j : ℕ) → n + suc j ≡ n + 1 + j
    one_more n j = omega arith

-- ---- what the rules say of a call

misfit_same : (g : Func) (w t : Ty) → result_misfit g w t ≡ [] → same_ty w t ≡ true
misfit_same g w t e = by (same_ty w t) (is_fresh_call g && is_tracked_type w && same_but_keys w t && same_keys (args_of w) (args_of t)) e
  where
    by : (b c : Bool) → (if b then [] else if c then rule.TWO_CALLER_KEYS ∷ [] else rule.WRONG_TYPE ∷ []) ≡ [] → b ≡ true
    by true c e = refl
    by false true e = absurd (filled_not_empty rule.TWO_CALLER_KEYS [] e)
    by false false e = absurd (filled_not_empty rule.WRONG_TYPE [] e)

-- the target has the type of the result
pub record IsTargetOf (f : Func) (ids : Ids) (g : Func) (keys : List ℕ) (v : ℕ) : Type 0 where
  pub given : Ty
  pub result : g.result ≡ Some given
  pub ty : Ty
  pub declared : var_type f v ≡ Some ty
  pub same : same_ty (with_keys keys given) ty ≡ true
  pub binds : is_fresh_call g ≡ true → binding_broken f ids (own_key f v) v ≡ []

abbrev pub TargetSo : Func → Ids → Func → List ℕ → Option ℕ → Type 0
TargetSo f ids g keys None = is_fresh_call g ≡ false
TargetSo f ids g keys (Some v) = IsTargetOf f ids g keys v

pub record IsKnownCall (p : Program) (f : Func) (ids : Ids) (g : Func) (target : Option ℕ) (keys : List ℕ) (os : List Operand) : Type 0 where
  pub fits : OperandsFit p f ids (map (with_keys keys) (parameters_of g)) os
  pub listed : (k : ℕ) → has (keys_of_parameters g ++ new_keys g) k ≡ true → slice_get keys k ≡ Some (stands_for keys k)
  pub scoped : (j k : ℕ) → slice_get keys j ≡ Some k → has (new_keys g) j ≡ false → has ids.keys k ≡ true
  pub aimed : TargetSo f ids g keys target

pub target_so : (p : Program) (f : Func) (ids : Ids) (g : Func) (target : Option ℕ) (keys : List ℕ) → IsHeaded g → ((k : ℕ) → has (keys_of_parameters g ++ new_keys g) k ≡ true → nat_lt k (length keys) ≡ true) →
    call_target_broken f ids g keys target ≡ [] → TargetSo f ids g keys target
target_so p f ids g None keys head range e =
    is_false (is_fresh_call g) (and_right (not (is_owning_some g.result)) (not (is_fresh_call g)) (unless_holds (not (is_owning_some g.result) && not (is_fresh_call g)) rule.DROPPED_RESULT e))
target_so p f ids g (Some v) keys head range e =
    let parts = both_empty (result_broken_by g keys g.result (var_type f v)) (if is_fresh_call g then binding_broken f ids (own_key f v) v else target_broken f ids v) e in
    let d = declared (is_fresh_call g) parts.right in
    by g.result refl d.ty d.is parts.left parts.right
  where
    declared : (b : Bool) → (if b then binding_broken f ids (own_key f v) v else target_broken f ids v) ≡ [] → Declared f v
    declared true e = bound_declared f ids (own_key f v) v e
    declared false e = target_declared f ids v e

    in_result : Option Ty → List ℕ
    in_result None = []
    in_result (Some ty) = keys_of_ty ty

    keys_are : (w : Ty) → g.result ≡ Some w → keys_of_result g ≡ keys_of_ty w
    keys_are w q = rw q refl

    by : (r : Option Ty) → g.result ≡ r → (ty : Ty) → var_type f v ≡ Some ty → result_broken_by g keys g.result (var_type f v) ≡ [] → (if is_fresh_call g then binding_broken f ids (own_key f v) v else target_broken f ids v) ≡ [] →
        IsTargetOf f ids g keys v
    by None q ty d a b = absurd (filled_not_empty rule.WRONG_TYPE [] (subst (λ o. result_broken_by g keys o (var_type f v) ≡ []) q a))
    by (Some w) q ty d a b =
        let a2 : result_broken_by g keys (Some w) (Some ty) ≡ [] = subst (λ o. result_broken_by g keys (Some w) o ≡ []) d (subst (λ o. result_broken_by g keys o (var_type f v) ≡ []) q a) in
        let all = has_all (λ k. nat_lt k (length keys)) (keys_of_ty w) (λ k m. range k (head.given k (subst (λ ks. has ks k ≡ true) (sym (keys_are w q)) m))) in
        record {
          given = w;
          result = q;
          ty = ty;
          declared = d;
          same = misfit_same g (with_keys keys w) ty (subst (λ o. when_some o (λ w. result_misfit g w ty) ≡ []) (on_true (list_all (λ k. nat_lt k (length keys)) (keys_of_ty w)) _ _ all) a2);
          binds = λ fresh. sym (on_true (is_fresh_call g) (binding_broken f ids (own_key f v) v) (target_broken f ids v) fresh) ∙ b;
        }

module _ (p : Program) (kinded : IsKinded p) where
  -- ---- the callee begins

  pub callee_in_scope : (g : Func) (keys : List ℕ) (values : List Value) (s : Frame) → IsHeaded g →
      ((k : ℕ) → has (keys_of_parameters g ++ new_keys g) k ≡ true → slice_get keys k ≡ Some (stands_for keys k)) →
      AreOfTys s.keys (map (with_keys keys) (parameters_of g)) values → IsInScope g (first_ids p g) (callee_frame g keys values s)
  callee_in_scope g keys values s head listed of = record {
    known = first_known p g;
    names = record {
      at = λ v k t args i ty a q.
          let own : has (keys_of_ty (tracked k t args)) k ≡ true = has_first k args in
          let key = first_keys p g v k (tracked k t args) i ty own in
          let old = is_new_same g k ∙ head.plain v k (tracked k t args) ty own in
          let r = param_of s.keys keys g.vars g.params v values (tracked k t args) a of (first_below p g v i) ty q (stands_for keys k) t (map (stands_for keys) args) refl in
          record {
            number = r.number;
            is = r.is;
            named = ap (λ (b : Bool). if b then None else option_and_then s.keys (slice_get keys k)) old
                ∙ ap (option_and_then s.keys) (listed k (Rattle.vlt_core_laws.proofs.Headed.has_left (keys_of_parameters g) (new_keys g) k key)) ∙ r.named;
          };
    };
  }

-- ---- back to the caller

-- the key isn't one that a new entry's key stands for
module _ (g : Func) (keys : List ℕ) (s : Frame) (Excl : ℕ → Type 0) (a : Option Value) where
  abbrev NewApart : List Entry → Type 0
  NewApart = Each (λ (e : Entry). is_new e ≡ true → (j k : ℕ) → slice_get keys e.key ≡ Some j → Excl k → (k == j) ≡ false)

  pub old_key : (e k : ℕ) (j : Option ℕ) → slice_get keys e ≡ j → callee_key g keys s e ≡ Some k → (i : ℕ) × (j ≡ Some i) × (s.keys i ≡ Some k) × (is_new_key g e ≡ false)
  old_key e k j at q = by (is_new_key g e) refl j at q
    where
      by : (b : Bool) → is_new_key g e ≡ b → (j : Option ℕ) → slice_get keys e ≡ j → (if b then None else option_and_then s.keys (slice_get keys e)) ≡ Some k →
          (i : ℕ) × (j ≡ Some i) × (s.keys i ≡ Some k) × (is_new_key g e ≡ false)
      by true o j at q = absurd (none-some k q)
      by false o None at q = absurd (none-some k (sym (ap (option_and_then s.keys) at) ∙ q))
      by false o (Some i) at q = (i, refl, sym (ap (option_and_then s.keys) at) ∙ q, o)

  pub names_kept : (es : List Entry) (kept : List ℕ) (c : Frame) → AreKeptFor (callee_key g keys s) a es kept → NewApart es → ((k : ℕ) → Excl k → c.keys k ≡ s.keys k) →
      (k : ℕ) → Excl k → (with_names (bindings keys es kept) c).keys k ≡ s.keys k
  names_kept [] [] c h apart same k x = same k x
  names_kept [] (n ∷ ns) c h apart same k x = absurd h
  names_kept (e ∷ es) [] c h apart same k x = absurd h
  names_kept (e ∷ es) (n ∷ ns) c h apart same k x = by (slice_get keys e.key) refl (is_new e) refl h.0 (λ c same. names_kept es ns c h.1 apart.1 same k x)
    where
      set_kept : (j : ℕ) → ((k : ℕ) → Excl k → (b : Bool) → (k == j) ≡ b → (if b then Some n else c.keys k) ≡ s.keys k) → (k : ℕ) → Excl k → set_at j (Some n) c.keys k ≡ s.keys k
      set_kept j h k x = h k x (k == j) refl

      by : (o : Option ℕ) → slice_get keys e.key ≡ o → (b : Bool) → is_new e ≡ b → IsKeptBy b (callee_key g keys s) a e.key n →
          ((c : Frame) → ((k : ℕ) → Excl k → c.keys k ≡ s.keys k) → (with_names (bindings keys es ns) c).keys k ≡ s.keys k) →
          (with_names (option_to_list (option_map (binding n) o) ++ bindings keys es ns) c).keys k ≡ s.keys k
      by None at b new h rest = rest c same
      by (Some j) at true new h rest = rest (step.with_key j n c) (set_kept j one)
        where
          one : (k : ℕ) → Excl k → (b : Bool) → (k == j) ≡ b → (if b then Some n else c.keys k) ≡ s.keys k
          one k x true q = not_both (k == j) q (apart.0 new j k at x)
          one k x false q = same k x
      by (Some j) at false new h rest = rest (step.with_key j n c) (set_kept j one)
        where
          one : (k : ℕ) → Excl k → (b : Bool) → (k == j) ≡ b → (if b then Some n else c.keys k) ≡ s.keys k
          one k x true q = let r = old_key e.key n (Some j) at h in sym (ap s.keys (eqb-true k j q ∙ same_Some j r.0 r.1) ∙ r.2)
          one k x false q = same k x

  -- the new key's object is the one that is returned
  pub record HasNew (k : ℕ) (c : Frame) : Type 0 where
    pub number : ℕ
    pub is : a ≡ Some (one (reference number))
    pub named : c.keys k ≡ Some number

  pub names_new : (k : ℕ) (es : List Entry) (kept : List ℕ) (c : Frame) → AreKeptFor (callee_key g keys s) a es kept →
      Each (λ (e : Entry). is_new e ≡ true → slice_get keys e.key ≡ Some k) es →
      ((e j : ℕ) → slice_get keys e ≡ Some j → is_new_key g e ≡ false → (k == j) ≡ false) →
      (HasNew k c) ⊎ (list_any is_new es ≡ true) → HasNew k (with_names (bindings keys es kept) c)
  names_new k [] [] c h news olds e = ⊎_elim (λ x. x) (λ x. absurd (false≢true x)) e
  names_new k [] (n ∷ ns) c h news olds e = absurd h
  names_new k (x ∷ es) [] c h news olds e = absurd h
  names_new k (x ∷ es) (n ∷ ns) c h news olds e = by (slice_get keys x.key) refl (is_new x) refl h.0 e (λ c e. names_new k es ns c h.1 news.1 olds e)
    where
      by : (o : Option ℕ) → slice_get keys x.key ≡ o → (b : Bool) → is_new x ≡ b → IsKeptBy b (callee_key g keys s) a x.key n → (HasNew k c) ⊎ ((b || list_any is_new es) ≡ true) →
          ((c : Frame) → (HasNew k c) ⊎ (list_any is_new es ≡ true) → HasNew k (with_names (bindings keys es ns) c)) →
          HasNew k (with_names (option_to_list (option_map (binding n) o) ++ bindings keys es ns) c)
      by None at true new h e rest = absurd (none-some k (sym at ∙ news.0 new))
      by None at false new h e rest = let r = old_key x.key n None at h in absurd (none-some r.0 r.1)
      by (Some j) at true new h e rest =
          rest (step.with_key j n c) (inl (record { number = n; is = h; named = set_here j (Some n) c.keys k (eq-eqb k j (same_Some k j (sym (news.0 new) ∙ at))) }))
      by (Some j) at false new h e rest =
          let r = old_key x.key n (Some j) at h in
          rest (step.with_key j n c) (⊎_elim (λ (y : HasNew k c). inl (record { number = y.number; is = y.is; named = set_there j (Some n) c.keys k (olds x.key j at r.3) ∙ y.named })) (λ y. inr y) e)

pub names_vars : (bs : List Binding) (c : Frame) → (with_names bs c).vars ≡ c.vars
names_vars [] c = refl
names_vars (b ∷ bs) c = names_vars bs (step.with_key b.key b.number c)

-- ---- targets

pub call_adds : (f g : Func) (v : ℕ) (ids : Ids) → Adds ids.vars (with_call_target f (Some g) (Some v) ids).vars v
call_adds f g v ids u = by (is_fresh_call g)
  where
    by : (b : Bool) → has (if b then with_binding f (own_key f v) v ids else with_target f v ids).vars u ≡ true → (has ids.vars u ≡ true) ⊎ (v ≡ u)
    by true i = binding_adds f (own_key f v) v ids u i
    by false i = target_adds f v ids u i
