-- Bindings that break no rule keep what is known of a scope.
use Rattle.std.proofs.Common.{◌≡◌, ◌⊎◌, inl, inr, ⊎_elim, ℕ, ◌==◌, nat_lt, Bool, true, false, ◌||◌, not, IsTrue, if◌then◌else◌, List, [], ◌∷◌, ◌++◌, length, Option, Some, None, refl, sym, ap, ◌∙◌, subst}
use Rattle.std.proofs.lemmas.Bool.{cases_Bool, eqb-true, eq-eqb}
use Rattle.std.proofs.lemmas.Option.{none-some, same_Some}
use Rattle.std.specs.List.{flat_map}
use Rattle.vlt_core.specs.Core.{Ty, int, bool, tracked, owning, guarded, variant, owning_variant, Func, Program}
use Rattle.vlt_core.specs.Lookups.{var_type}
use Rattle.vlt_core.specs.Types.{keys_of_ty}
use Rattle.vlt_core.specs.KindedHeads.{has, unless, keys_of_parameters}
use Rattle.vlt_core.specs.declared.rules.TheConstants as rule
use Rattle.vlt_core.specs.KindedScopes.{Ids, left_behind, at_block_start, with_key, with_var, with_binding, tracked_key, own_key, with_target, fresh_broken, keys_broken, binding_broken, target_broken}
use Rattle.vlt_core.specs.KindedOperands.{misfit}
use Rattle.vlt_core.specs.KindedStatements.{with_bindings, opened_broken}
use Rattle.vlt_core.specs.KindedBodies.{with_vars, arm_vars_broken}
use Rattle.vlt_sound_worlds.specs.Members.{In}
use Rattle.vlt_sound_worlds.specs.Agrees.{InScope, Pin, Context}
use Rattle.vlt_sound_worlds.proofs.Empty.{both_empty, unless_so}
use Rattle.vlt_sound_worlds.specs.Scoped.{IsKeyInScope, WasKeyBound, WasVarBound, WerePinsBound, IsOwnKey, IsScoped, HasKeys, Widens}
use Rattle.vlt_sound_worlds.proofs.Widening.{has_more, left_widens}

-- the first number of a list, or one of the others
pub first_or_other : (n m : ℕ) (ns : List ℕ) → has (m ∷ ns) n ≡ true → (n ≡ m) ⊎ (has ns n ≡ true)
first_or_other n m ns e = by (m == n) refl e
  where
    by : (b : Bool) → (m == n) ≡ b → (b || has ns n) ≡ true → (n ≡ m) ⊎ (has ns n ≡ true)
    by true q e = inl (sym (eqb-true m n q))
    by false q e = inr e

has_first : (n : ℕ) (ns : List ℕ) → has (n ∷ ns) n ≡ true
has_first n ns = ap (λ b. b || has ns n) (eq-eqb n n refl)

-- a number that is in front of both lists, or in the first, is in the second
has_both : (n m : ℕ) (ns ms : List ℕ) → (has ns n ≡ true → has ms n ≡ true) → has (m ∷ ns) n ≡ true →
    has (m ∷ ms) n ≡ true
has_both n m ns ms to e = by (m == n) e
  where
    by : (b : Bool) → (b || has ns n) ≡ true → (b || has ms n) ≡ true
    by true e = refl
    by false e = to e

pub pins_widen : (a b : Ids) → ((k : ℕ) → WasKeyBound a k → WasKeyBound b k) → (qs : List Pin) → WerePinsBound a qs →
    WerePinsBound b qs
pins_widen a b to [] was = tt
pins_widen a b to (q ∷ qs) was = (to q.key was.0, pins_widen a b to qs was.1)

-- each key of the list is in scope
keys_there : (f : Func) (ids : Ids) (ks : List ℕ) →
    flat_map (λ k. if nat_lt k (length f.keys) then unless (has ids.keys k) rule.NAME_TAKEN else []) ks ≡ [] →
    (k : ℕ) → In k ks → nat_lt k (length f.keys) ≡ true → IsKeyInScope ids k
keys_there f ids [] e k i lt = absurd i
keys_there f ids (j ∷ js) e k i lt =
    let both =
    both_empty (if nat_lt j (length f.keys) then unless (has ids.keys j) rule.NAME_TAKEN else [])
    (flat_map (λ k. if nat_lt k (length f.keys) then unless (has ids.keys k) rule.NAME_TAKEN else []) js) e in
    ⊎_elim (λ same. subst (IsKeyInScope ids) (sym same) (here (ap (λ k. nat_lt k (length f.keys)) (sym same) ∙ lt) both.0))
    (λ rest. keys_there f ids js both.1 k rest lt) i
  where
    here : nat_lt j (length f.keys) ≡ true →
        (if nat_lt j (length f.keys) then unless (has ids.keys j) rule.NAME_TAKEN else []) ≡ [] → IsKeyInScope ids j
    here lt e = let q = rw lt at e in unless_so (has ids.keys j) rule.NAME_TAKEN q

type_keys_there : (f : Func) (ids : Ids) (o : Option Ty) (ty : Ty) → o ≡ Some ty → keys_broken f ids o ≡ [] →
    (k : ℕ) → In k (keys_of_ty ty) → nat_lt k (length f.keys) ≡ true → IsKeyInScope ids k
type_keys_there f ids o ty is e =
    keys_there f ids (keys_of_ty ty) (subst (λ o. keys_broken f ids o ≡ []) is e)

-- what a binding that breaks no rule says
pub record BindingKept (f : Func) (ids : Ids) (fresh : Option ℕ) (v : ℕ) : Type 0 where
  pub within : nat_lt v (length f.vars) ≡ true
  pub new : has ids.vars_ever v ≡ false
  pub key : fresh_broken f ids fresh ≡ []
  pub keys : keys_broken f (with_key f fresh ids) (var_type f v) ≡ []

not_so : (b : Bool) → not b ≡ true → b ≡ false
not_so true e = cc
not_so false e = refl

pub binding_kept : (f : Func) (ids : Ids) (fresh : Option ℕ) (v : ℕ) → binding_broken f ids fresh v ≡ [] →
    BindingKept f ids fresh v
binding_kept f ids fresh v e = ⊎_elim
    (λ lt.
    let q = rw lt at e in
    let two =
    both_empty (unless (not (has ids.vars_ever v)) rule.NAME_TAKEN ++ fresh_broken f ids fresh)
    (keys_broken f (with_key f fresh ids) (var_type f v)) q in
    let one = both_empty (unless (not (has ids.vars_ever v)) rule.NAME_TAKEN) (fresh_broken f ids fresh) two.0 in
    record {
      within = lt;
      new = not_so (has ids.vars_ever v) (unless_so (not (has ids.vars_ever v)) rule.NAME_TAKEN one.0);
      key = one.1;
      keys = two.1;
    })
    (λ past. let q = rw past at e in cc)
    (cases_Bool (nat_lt v (length f.vars)))

-- ---- the keys of references in scope

-- a key that comes into scope with the variable v is that one's own
pub record IsKeyOf (f : Func) (fresh : Option ℕ) (v : ℕ) : Type 0 where
  pub own : (k : ℕ) → fresh ≡ Some k → own_key f v ≡ Some k

pub no_key : (f : Func) (v : ℕ) → IsKeyOf f None v
no_key f v = record { own = λ k e. absurd (none-some k e) }

pub itself : (f : Func) (v : ℕ) → IsKeyOf f (own_key f v) v
itself f v = record { own = λ k e. e }

own_key_is : (f : Func) (ids : Ids) (v k : ℕ) (o : Option Ty) → var_type f v ≡ o → InScope ids v →
    tracked_key o ≡ Some k → IsOwnKey f ids k
own_key_is f ids v k None at i e = cc
own_key_is f ids v k (Some int) at i e = cc
own_key_is f ids v k (Some bool) at i e = cc
own_key_is f ids v k (Some (tracked j t args)) at i e = record {
  var = v;
  type = t;
  args = args;
  is = at ∙ ap (λ k. Some (tracked k t args)) (same_Some j k e);
  scoped = i;
}
own_key_is f ids v k (Some (owning S t args)) at i e = cc
own_key_is f ids v k (Some (guarded j t args)) at i e = cc
own_key_is f ids v k (Some (variant t args)) at i e = cc
own_key_is f ids v k (Some (owning_variant t args)) at i e = cc

-- in a larger scope it is one still
pub owned_in : (f : Func) (a b : Ids) (k : ℕ) → ((v : ℕ) → InScope a v → InScope b v) →
    (has (keys_of_parameters f) k ≡ true) ⊎ IsOwnKey f a k → (has (keys_of_parameters f) k ≡ true) ⊎ IsOwnKey f b k
owned_in f a b k more (inl p) = inl p
owned_in f a b k more (inr o) =
    inr (record { var = o.var; type = o.type; args = o.args; is = o.is; scoped = more o.var o.scoped })

-- what is known of a scope while a key is bound and its variable isn't yet
record IsKnown (f : Func) (c : Context) (ids : Ids) : Type 0 where
  vars : (v k : ℕ) (ty : Ty) → InScope ids v → var_type f v ≡ Some ty → In k (keys_of_ty ty) → IsKeyInScope ids k
  keys : (k : ℕ) → IsKeyInScope ids k → WasKeyBound ids k
  ever : (v : ℕ) → InScope ids v → WasVarBound ids v
  head : (k : ℕ) → IsTrue (c.head k) → nat_lt k (length f.keys) ≡ true → WasKeyBound ids k
  pins : WerePinsBound ids c.pins

module _ {f : Func} {c : Context} where
  known : {ids : Ids} → IsScoped f c ids → IsKnown f c ids
  known s = record { vars = s.vars; keys = s.keys; ever = s.ever; head = s.head; pins = s.pins }

  -- a scope with other tokens
  pub scoped_with : {a b : Ids} → a.vars ≡ b.vars → a.keys ≡ b.keys → Widens a b → IsScoped f c a → IsScoped f c b
  scoped_with {a} {b} same keys wide s = record {
    vars = λ v k ty i is at. wide.keys k (s.vars v k ty (subst (λ vs. has vs v ≡ true) (sym same) i) is at);
    keys = λ k i. wide.keys_ever k (s.keys k (subst (λ ks. has ks k ≡ true) (sym keys) i));
    ever = λ v i. wide.vars_ever v (s.ever v (subst (λ vs. has vs v ≡ true) (sym same) i));
    head = λ k i lt. wide.keys_ever k (s.head k i lt);
    pins = pins_widen a b wide.keys_ever c.pins s.pins;
    owned = λ k i. owned_in f a b k wide.vars (s.owned k (subst (λ ks. has ks k ≡ true) (sym keys) i));
  }

  pub left_scoped : {before last : Ids} → Widens before last → IsScoped f c before → IsScoped f c (left_behind before last)
  left_scoped {before} {last} wide s = scoped_with refl refl (left_widens before wide) s

  pub entered_scoped : {ids : Ids} → IsScoped f c ids → IsScoped f c (at_block_start ids)
  entered_scoped {ids} s = record {
    vars = s.vars;
    keys = s.keys;
    ever = s.ever;
    head = s.head;
    pins = pins_widen ids (at_block_start ids) (λ k i. i) c.pins s.pins;
    owned = λ k i. owned_in f ids (at_block_start ids) k (λ v e. e) (s.owned k i);
  }

  key_known : (fresh : Option ℕ) {ids : Ids} → IsKnown f c ids → IsKnown f c (with_key f fresh ids)
  key_known None s = s
  key_known (Some k) {ids} s = by (nat_lt k (length f.keys))
    where
      by : (b : Bool) →
          IsKnown f c (if b then record ids { keys = k ∷ ids.keys; keys_ever = k ∷ ids.keys_ever } else ids)
      by true = record {
        vars = λ v j ty i is at. has_more j k ids.keys (s.vars v j ty i is at);
        keys = λ j i. has_both j k ids.keys ids.keys_ever (s.keys j) i;
        ever = s.ever;
        head = λ j i lt. has_more j k ids.keys_ever (s.head j i lt);
        pins = pins_widen ids (record ids { keys = k ∷ ids.keys; keys_ever = k ∷ ids.keys_ever }) (λ j i. has_more j k ids.keys_ever i) c.pins s.pins;
      }
      by false = s

  var_known : (v : ℕ) {ids : Ids} → HasKeys f → keys_broken f ids (var_type f v) ≡ [] → IsKnown f c ids →
      IsKnown f c (with_var f v ids)
  var_known v {ids} own e s = by (nat_lt v (length f.vars))
    where
      by : (b : Bool) →
          IsKnown f c (if b then record ids { vars = v ∷ ids.vars; vars_ever = v ∷ ids.vars_ever } else ids)
      by true = record {
        vars = λ u k ty i is at. ⊎_elim
            (λ same.
            type_keys_there f ids (var_type f v) ty (ap (var_type f) (sym same) ∙ is) e k at
            (own.keys u k ty is at))
            (λ old. s.vars u k ty old is at)
            (first_or_other u v ids.vars i);
        keys = s.keys;
        ever = λ u i. has_both u v ids.vars ids.vars_ever (s.ever u) i;
        head = s.head;
        pins = pins_widen ids (record ids { vars = v ∷ ids.vars; vars_ever = v ∷ ids.vars_ever }) (λ j i. i) c.pins s.pins;
      }
      by false = s

  module _ (own : HasKeys f) where
    -- a variable and its fresh key, but in no block
    pub bound_scoped : (fresh : Option ℕ) (v : ℕ) {ids : Ids} → IsKeyOf f fresh v → binding_broken f ids fresh v ≡ [] →
        IsScoped f c ids → IsScoped f c (with_var f v (with_key f fresh ids))
    bound_scoped fresh v {ids} of e s = record {
      vars = t.vars;
      keys = t.keys;
      ever = t.ever;
      head = t.head;
      pins = t.pins;
      owned = λ k i. owned k (same_keys (nat_lt v (length f.vars)) k i);
    }
      where
        b : BindingKept f ids fresh v
        b = binding_kept f ids fresh v e

        t : IsKnown f c (with_var f v (with_key f fresh ids))
        t = var_known v own b.keys (key_known fresh (known s))

        same_keys : (b : Bool) (k : ℕ) →
            IsKeyInScope (if b then record (with_key f fresh ids) { vars = v ∷ (with_key f fresh ids).vars; vars_ever = v ∷ (with_key f fresh ids).vars_ever } else with_key f fresh ids) k →
            IsKeyInScope (with_key f fresh ids) k
        same_keys true k i = i
        same_keys false k i = i

        here : InScope (with_var f v (with_key f fresh ids)) v
        here = rw b.within (has_first v (with_key f fresh ids).vars)

        same_vars : (o : Option ℕ) → (with_key f o ids).vars ≡ ids.vars
        same_vars None = refl
        same_vars (Some k) = by (nat_lt k (length f.keys))
          where
            by : (b : Bool) →
                (if b then record ids { keys = k ∷ ids.keys; keys_ever = k ∷ ids.keys_ever } else ids).vars ≡ ids.vars
            by true = refl
            by false = refl

        more : (u : ℕ) → InScope ids u → InScope (with_var f v (with_key f fresh ids)) u
        more u i = rw b.within (has_more u v (with_key f fresh ids).vars (subst (λ vs. has vs u ≡ true) (sym (same_vars fresh)) i))

        one : (o : Option ℕ) (k : ℕ) → IsKeyInScope (with_key f o ids) k → (o ≡ Some k) ⊎ IsKeyInScope ids k
        one None k i = inr i
        one (Some j) k i = by (nat_lt j (length f.keys)) i
          where
            by : (b : Bool) →
                IsKeyInScope (if b then record ids { keys = j ∷ ids.keys; keys_ever = j ∷ ids.keys_ever } else ids) k →
                (Some j ≡ Some k) ⊎ IsKeyInScope ids k
            by true i = ⊎_elim (λ same. inl (ap Some (sym same))) (λ old. inr old) (first_or_other k j ids.keys i)
            by false i = inr i

        owned : (k : ℕ) → IsKeyInScope (with_key f fresh ids) k →
            (has (keys_of_parameters f) k ≡ true) ⊎ IsOwnKey f (with_var f v (with_key f fresh ids)) k
        owned k i = ⊎_elim
            (λ mine. inr (own_key_is f (with_var f v (with_key f fresh ids)) v k (var_type f v) refl here (of.own k mine)))
            (λ old. owned_in f ids (with_var f v (with_key f fresh ids)) k more (s.owned k old))
            (one fresh k i)

    pub binding_scoped : (fresh : Option ℕ) (v : ℕ) {ids : Ids} → IsKeyOf f fresh v → binding_broken f ids fresh v ≡ [] →
        IsScoped f c ids → IsScoped f c (with_binding f fresh v ids)
    binding_scoped fresh v {ids} of e s =
        let t = bound_scoped fresh v of e s in
        record {
          vars = t.vars;
          keys = t.keys;
          ever = t.ever;
          head = t.head;
          pins = pins_widen (with_var f v (with_key f fresh ids)) (with_binding f fresh v ids) (λ j i. i) c.pins t.pins;
          owned = λ k i. owned_in f (with_var f v (with_key f fresh ids)) (with_binding f fresh v ids) k (λ u i. i) (t.owned k i);
        }

    pub target_scoped : (v : ℕ) {ids : Ids} → target_broken f ids v ≡ [] → IsScoped f c ids →
        IsScoped f c (with_target f v ids)
    target_scoped v {ids} e s = by (has ids.vars v) refl
      where
        by : (b : Bool) → has ids.vars v ≡ b → IsScoped f c (if b then ids else with_binding f None v ids)
        by true q = s
        by false q = binding_scoped None v (no_key f v) (let r = rw q at e in r) s

    pub opened_scoped : (p : Program) (ws : List Ty) (vs : List ℕ) {ids : Ids} → opened_broken p f ids ws vs ≡ [] →
        IsScoped f c ids → IsScoped f c (with_bindings f vs ids)
    opened_scoped p ws [] e s = s
    opened_scoped p [] (v ∷ vs) {ids} e s =
        let both = both_empty (binding_broken f ids None v) (opened_broken p f (with_binding f None v ids) [] vs) e in
        opened_scoped p [] vs both.1 (binding_scoped None v (no_key f v) both.0 s)
    opened_scoped p (w ∷ ws) (v ∷ vs) {ids} e s =
        let both =
        both_empty (misfit (Some w) (var_type f v) ++ binding_broken f ids None v)
        (opened_broken p f (with_binding f None v ids) ws vs) e in
        let two = both_empty (misfit (Some w) (var_type f v)) (binding_broken f ids None v) both.0 in
        opened_scoped p ws vs both.1 (binding_scoped None v (no_key f v) two.1 s)

    pub arm_scoped : (ws : List Ty) (vs : List ℕ) {ids : Ids} → arm_vars_broken f ids ws vs ≡ [] →
        IsScoped f c ids → IsScoped f c (with_vars f vs ids)
    arm_scoped ws [] e s = s
    arm_scoped [] (v ∷ vs) {ids} e s =
        let both = both_empty (binding_broken f ids None v) (arm_vars_broken f (with_var f v ids) [] vs) e in
        arm_scoped [] vs both.1 (bound_scoped None v (no_key f v) both.0 s)
    arm_scoped (w ∷ ws) (v ∷ vs) {ids} e s =
        let both =
        both_empty (misfit (Some w) (var_type f v) ++ binding_broken f ids None v)
        (arm_vars_broken f (with_var f v ids) ws vs) e in
        let two = both_empty (misfit (Some w) (var_type f v)) (binding_broken f ids None v) both.0 in
        arm_scoped ws vs both.1 (bound_scoped None v (no_key f v) two.1 s)

-- a variable that is bound is the only new one in scope
pub binding_from : (f : Func) (fresh : Option ℕ) (v : ℕ) (ids : Ids) (u : ℕ) → InScope (with_binding f fresh v ids) u →
    (u ≡ v) ⊎ InScope ids u
binding_from f fresh v ids u i = by (nat_lt v (length f.vars)) i
  where
    same_vars : (fresh : Option ℕ) → has (with_key f fresh ids).vars u ≡ true → InScope ids u
    same_vars None i = i
    same_vars (Some k) i = of (nat_lt k (length f.keys)) i
      where
        of : (b : Bool) →
            has (if b then record ids { keys = k ∷ ids.keys; keys_ever = k ∷ ids.keys_ever } else ids).vars u ≡ true →
            InScope ids u
        of true i = i
        of false i = i

    by : (b : Bool) →
        has (if b then record (with_key f fresh ids) {
          vars = v ∷ (with_key f fresh ids).vars;
          vars_ever = v ∷ (with_key f fresh ids).vars_ever;
        } else with_key f fresh ids).vars u ≡ true → (u ≡ v) ⊎ InScope ids u
    by true i = ⊎_elim inl (λ old. inr (same_vars fresh old)) (first_or_other u v (with_key f fresh ids).vars i)
    by false i = inr (same_vars fresh i)
