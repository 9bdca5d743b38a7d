-- What a call gives fits the variable that it is for.
use Rattle.std.proofs.Common.{◌≡◌, ◌⊎◌, inl, inr, ⊎_elim, ℕ, ◌<◌, ◌==◌, nat_lt, Bool, true, false, ◌&&◌, ◌||◌, not, if◌then◌else◌, List, [], ◌∷◌, map, filter, length, Option, Some, None, refl, sym, ap, subst}
use Rattle.std.proofs.lemmas.Bool.{cases_Bool, lt-ltb, eqb-true, eq-eqb}
use Rattle.std.specs.List.{list_all}
use Rattle.vlt_core.specs.Core.{States, Ty, int, bool, tracked, owning, guarded, variant, owning_variant, Mode, kept, taken, given, fresh, up_to, Entry, Func}
use Rattle.vlt_core.specs.Lookups.{is_owning, is_fresh, is_after, is_held_after, is_new}
use Rattle.vlt_core.specs.Types.{same_ty, same_keys, same_object, same_states, is_same_bool, state_numbers, with_keys, args_of, keys_of_ty}
use Rattle.vlt_core.specs.KindedHeads.{has}
use Rattle.vlt_core.specs.declared.rules.TheConstants as rule
use Rattle.vlt_core.specs.KindedScopes.{Ids, with_key, with_binding}
use Rattle.vlt_core.specs.KindedOperands.{fits_owning}
use Rattle.vlt_core.specs.KindedStatements.{is_tracked_type}
use Rattle.vlt_core.specs.KindedCalls.{is_fresh_call, same_but_keys, caller_type, result_misfit}
use Rattle.vlt_sound_worlds.specs.Members.{In}
use Rattle.vlt_sound_worlds.specs.Agrees.{InScope}
use Rattle.vlt_sound_worlds.proofs.Empty.{both_so}
use Rattle.vlt_sound_worlds.proofs.Binding.{first_or_other}
use Rattle.vlt_sound_calls.specs.Among.{Among}

-- a type with other keys owns where it does
pub owning_with : (keys : List ℕ) (ty : Ty) → is_owning (with_keys keys ty) ≡ is_owning ty
owning_with keys int = refl
owning_with keys bool = refl
owning_with keys (tracked k t args) = refl
owning_with keys (owning S t args) = refl
owning_with keys (guarded k t args) = refl
owning_with keys (variant t args) = refl
owning_with keys (owning_variant t args) = refl

-- a result that breaks no rule has the target's type
pub result_same : (g : Func) (w t : Ty) → result_misfit g w t ≡ [] → same_ty w t ≡ true
result_same g w t e = ⊎_elim (λ s. s) (λ f. absurd (none f)) (cases_Bool (same_ty w t))
  where
    two : (b : Bool) → (if b then rule.TWO_CALLER_KEYS ∷ [] else rule.WRONG_TYPE ∷ []) ≡ [] → ⊥
    two true e = cc
    two false e = cc

    none : same_ty w t ≡ false → ⊥
    none f =
        two (is_fresh_call g && is_tracked_type w && same_but_keys w t && same_keys (args_of w) (args_of t)) (rw f at e)

pub caller_type_is : (keys : List ℕ) (w : Ty) → ((k : ℕ) → In k (keys_of_ty w) → k < length keys) →
    caller_type keys w ≡ Some (with_keys keys w)
caller_type_is keys w there =
    ap (λ b. if b then Some (with_keys keys w) else None) (all (keys_of_ty w) there)
  where
    all : (ks : List ℕ) → ((k : ℕ) → In k ks → k < length keys) → list_all (λ k. nat_lt k (length keys)) ks ≡ true
    all [] there = refl
    all (k ∷ ks) there = rw (lt-ltb k (length keys) (there k (inl refl))) (all ks (λ j i. there j (inr i)))

-- ---- owning types that are the same

same_within : (a b : States) (ns : List ℕ) → list_all (λ s. is_same_bool (a s) (b s)) ns ≡ true →
    list_all (λ s. not (a s) || b s) ns ≡ true
same_within a b [] e = refl
same_within a b (s ∷ ns) e =
    let both = both_so (is_same_bool (a s) (b s)) (list_all (λ s. is_same_bool (a s) (b s)) ns) e in
    rw (one (a s) (b s) both.0) (same_within a b ns both.1)
  where
    one : (x y : Bool) → is_same_bool x y ≡ true → (not x || y) ≡ true
    one true true e = refl
    one true false e = cc
    one false y e = refl

same_numbers : (n m : ℕ) → (n == m) ≡ true → (m == n) ≡ true
same_numbers n m e = eq-eqb m n (sym (eqb-true n m e))

same_keys_back : (a b : List ℕ) → same_keys a b ≡ true → same_keys b a ≡ true
same_keys_back [] [] e = refl
same_keys_back [] (y ∷ ys) e = cc
same_keys_back (x ∷ xs) [] e = cc
same_keys_back (x ∷ xs) (y ∷ ys) e =
    let both = both_so (x == y) (same_keys xs ys) e in
    rw (same_numbers x y both.0) (same_keys_back xs ys both.1)

both_true : {a b : Bool} → a ≡ true → b ≡ true → (a && b) ≡ true
both_true e f = rw (e, f) refl

pub same_fits : (w t : Ty) → is_owning w ≡ true → same_ty w t ≡ true → fits_owning t w ≡ true
same_fits (owning a t args) (owning b u others) o e =
    let both = both_so (same_states a b) (same_object t args u others) e in
    both_true both.1 (same_within a b state_numbers both.0)
same_fits (owning S t args) int o e = cc
same_fits (owning S t args) bool o e = cc
same_fits (owning S t args) (tracked k u others) o e = cc
same_fits (owning S t args) (guarded k u others) o e = cc
same_fits (owning S t args) (variant u others) o e = cc
same_fits (owning S t args) (owning_variant u others) o e = cc
same_fits (owning_variant t args) (owning_variant u others) o e =
    let both = both_so (t == u) (same_keys args others) e in
    both_true (same_numbers t u both.0) (same_keys_back args others both.1)
same_fits (owning_variant t args) int o e = cc
same_fits (owning_variant t args) bool o e = cc
same_fits (owning_variant t args) (tracked k u others) o e = cc
same_fits (owning_variant t args) (guarded k u others) o e = cc
same_fits (owning_variant t args) (variant u others) o e = cc
same_fits (owning_variant t args) (owning S u others) o e = cc
same_fits int t o e = cc
same_fits bool t o e = cc
same_fits (tracked k u args) t o e = cc
same_fits (guarded k u args) t o e = cc
same_fits (variant u args) t o e = cc

pub same_owning : (w t : Ty) → is_owning t ≡ true → same_ty w t ≡ true → is_owning w ≡ true
same_owning (owning S t args) u o e = refl
same_owning (owning_variant t args) u o e = refl
same_owning int (owning S t args) o e = cc
same_owning int (owning_variant t args) o e = cc
same_owning int int o e = cc
same_owning int bool o e = cc
same_owning int (tracked k u args) o e = cc
same_owning int (guarded k u args) o e = cc
same_owning int (variant u args) o e = cc
same_owning bool (owning S t args) o e = cc
same_owning bool (owning_variant t args) o e = cc
same_owning bool int o e = cc
same_owning bool bool o e = cc
same_owning bool (tracked k u args) o e = cc
same_owning bool (guarded k u args) o e = cc
same_owning bool (variant u args) o e = cc
same_owning (tracked j v a) (owning S t args) o e = cc
same_owning (tracked j v a) (owning_variant t args) o e = cc
same_owning (tracked j v a) int o e = cc
same_owning (tracked j v a) bool o e = cc
same_owning (tracked j v a) (tracked k u args) o e = cc
same_owning (tracked j v a) (guarded k u args) o e = cc
same_owning (tracked j v a) (variant u args) o e = cc
same_owning (guarded j v a) (owning S t args) o e = cc
same_owning (guarded j v a) (owning_variant t args) o e = cc
same_owning (guarded j v a) int o e = cc
same_owning (guarded j v a) bool o e = cc
same_owning (guarded j v a) (tracked k u args) o e = cc
same_owning (guarded j v a) (guarded k u args) o e = cc
same_owning (guarded j v a) (variant u args) o e = cc
same_owning (variant v a) (owning S t args) o e = cc
same_owning (variant v a) (owning_variant t args) o e = cc
same_owning (variant v a) int o e = cc
same_owning (variant v a) bool o e = cc
same_owning (variant v a) (tracked k u args) o e = cc
same_owning (variant v a) (guarded k u args) o e = cc
same_owning (variant v a) (variant u args) o e = cc

-- ---- `new` keys

pub new_is_after : (e : Entry) → is_new e ≡ true → is_held_after e ≡ true
new_is_after e t = by e.mode t
  where
    by : (m : Mode) → is_fresh m ≡ true → is_after m ≡ true
    by kept e = cc
    by (up_to u) e = cc
    by taken e = cc
    by given e = cc
    by fresh e = refl

-- an entry of a `new` key
pub record NewEntry (es : List Entry) (k : ℕ) : Type 0 where
  pub entry : Entry
  pub among : Among entry es
  pub new : is_new entry ≡ true
  pub is : entry.key ≡ k

pub new_entry : (es : List Entry) (k : ℕ) → has (map (λ e. e.key) (filter is_new es)) k ≡ true → NewEntry es k
new_entry [] k e = cc
new_entry (x ∷ es) k e = ⊎_elim
    (λ t. ⊎_elim
    (λ same. record { entry = x; among = inl refl; new = t; is = sym same })
    (λ rest. more (new_entry es k rest))
    (first_or_other k x.key (map (λ e. e.key) (filter is_new es))
    (subst (λ b. has (map (λ e. e.key) (if b then x ∷ filter is_new es else filter is_new es)) k ≡ true) t e)))
    (λ f. more (new_entry es k
    (subst (λ b. has (map (λ e. e.key) (if b then x ∷ filter is_new es else filter is_new es)) k ≡ true) f e)))
    (cases_Bool (is_new x))
  where
    more : NewEntry es k → NewEntry (x ∷ es) k
    more q = record { entry = q.entry; among = inr q.among; new = q.new; is = q.is }

-- ---- scopes

pub binding_scope : (f : Func) (o : Option ℕ) (v : ℕ) (ids : Ids) (u : ℕ) → InScope (with_binding f o v ids) u →
    (u ≡ v) ⊎ InScope ids u
binding_scope f o v ids u e = by (nat_lt v (length f.vars)) e
  where
    of_key : (o : Option ℕ) → InScope (with_key f o ids) u → InScope ids u
    of_key None e = e
    of_key (Some k) e = by (nat_lt k (length f.keys)) e
      where
        by : (b : Bool) →
            InScope (if b then record ids { keys = k ∷ ids.keys; keys_ever = k ∷ ids.keys_ever } else ids) u → InScope ids u
        by true e = e
        by false e = e

    by : (b : Bool) →
        InScope (if b then record (with_key f o ids) { vars = v ∷ (with_key f o ids).vars; vars_ever = v ∷ (with_key f o ids).vars_ever } else with_key f o ids) u →
        (u ≡ v) ⊎ InScope ids u
    by true e = ⊎_elim inl (λ rest. inr (of_key o rest)) (first_or_other u v (with_key f o ids).vars e)
    by false e = inr (of_key o e)
