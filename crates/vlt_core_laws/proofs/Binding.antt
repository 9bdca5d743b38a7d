-- A binding leads on: what it binds is new, and is in scope after it.
use Rattle.std.proofs.Common.{◌≡◌, ℕ, Bool, true, false, not, ◌&&◌, ◌==◌, if◌then◌else◌, List, [], ◌∷◌, ◌++◌, Option, Some, None, refl, sym, ap, subst, ◌∙◌, ◌⊎◌, inl, inr, ⊎_elim}
use Rattle.std.specs.Prelude.{nat_lt, length}
use Rattle.std.specs.List.{flat_map}
use Rattle.std.proofs.lemmas.Bool.{eq-eqb}
use Rattle.vlt_core.specs.Core.{Ty, int, bool, tracked, owning, guarded, variant, owning_variant, Tok, a_key, a_var, Func}
use Rattle.vlt_core.specs.Lookups.{var_type, is_owning_var}
use Rattle.vlt_core.specs.Maps.{is_tok}
use Rattle.vlt_core.specs.Types.{keys_of_ty}
use Rattle.vlt_core.specs.KindedHeads.{Rules, unless, when_some, has}
use Rattle.vlt_core.specs.KindedScopes.{Ids, with_key, with_var, with_tokens, with_binding, with_target, fresh_broken, keys_broken, tracked_key, own_key, binding_broken, target_broken}
use Rattle.vlt_core.specs.declared.rules.TheConstants as rule
use Rattle.vlt_core_laws.specs.Scoped.{is_bound}
use Rattle.vlt_core_laws.proofs.Unbroken.{left_empty, right_empty, unless_holds, filled_not_empty}
use Rattle.vlt_core_laws.proofs.Ids.{was, keys_in_type, type_keys, Goes, or_split, or_left, or_right, not_both, is_false, same_number, bound_append, bound_left, bound_right, key_is, var_is, each_has, stays}

pub has_first : (n : ℕ) (ns : List ℕ) → has (n ∷ ns) n ≡ true
has_first n ns = or_left (n == n) (has ns n) (eq-eqb n n refl)

is_same_key : (k : ℕ) → is_tok (a_key k) (a_key k) ≡ true
is_same_key k = eq-eqb k k refl

is_same_var : (v : ℕ) → is_tok (a_var v) (a_var v) ≡ true
is_same_var v = eq-eqb v v refl

-- the tokens of a binding
key_tok : Option ℕ → List Tok
key_tok None = []
key_tok (Some k) = a_key k ∷ []

abbrev var_tok : Bool → (v : ℕ) → List Tok
var_tok b v = if b then a_var v ∷ [] else []

pub in_range : (b : Bool) (xs : Rules) → (if b then xs else rule.UNKNOWN_NAME ∷ []) ≡ [] → b ≡ true
in_range true xs e = refl
in_range false xs e = absurd (filled_not_empty _ _ e)

pub chosen : (b : Bool) (xs : Rules) → b ≡ true → (if b then xs else rule.UNKNOWN_NAME ∷ []) ≡ [] → xs ≡ []
chosen true xs t e = e
chosen false xs t e = not_both false t refl

pub on_true : {A : Type 0} (b : Bool) (x y : A) → b ≡ true → (if b then x else y) ≡ x
on_true true x y e = refl
on_true false x y e = not_both false e refl

pub on_false : {A : Type 0} (b : Bool) (x y : A) → b ≡ false → (if b then x else y) ≡ y
on_false true x y e = not_both true refl e
on_false false x y e = refl

no_more : (xs : List Tok) → xs ++ [] ≡ xs
no_more [] = refl
no_more (x ∷ xs) = ap (λ ys. x ∷ ys) (no_more xs)

one_more : (xs : List Tok) (t : Tok) (ys : List Tok) → (xs ++ t ∷ []) ++ ys ≡ xs ++ t ∷ ys
one_more [] t ys = refl
one_more (x ∷ xs) t ys = ap (λ zs. x ∷ zs) (one_more xs t ys)

module _ (f : Func) (ranged : (v k : ℕ) → has (type_keys f v) k ≡ true → nat_lt k (length f.keys) ≡ true) where
  -- a variable alone
  pub with_var_is : (v : ℕ) (ids : Ids) → nat_lt v (length f.vars) ≡ true → with_var f v ids ≡ record ids { vars = v ∷ ids.vars; vars_ever = v ∷ ids.vars_ever }
  with_var_is v ids e = on_true (nat_lt v (length f.vars)) _ _ e

  pub with_key_is : (k : ℕ) (ids : Ids) → nat_lt k (length f.keys) ≡ true → with_key f (Some k) ids ≡ record ids { keys = k ∷ ids.keys; keys_ever = k ∷ ids.keys_ever }
  with_key_is k ids e = on_true (nat_lt k (length f.keys)) _ _ e

  -- ---- what a binding's rules say

  typed_keys : (o : Option Ty) (ids : Ids) (k : ℕ) → when_some o (λ ty. flat_map (λ k. if nat_lt k (length f.keys) then unless (has ids.keys k) rule.NAME_TAKEN else []) (keys_of_ty ty)) ≡ [] →
      has (keys_in_type o) k ≡ true → nat_lt k (length f.keys) ≡ true → has ids.keys k ≡ true
  typed_keys None ids k e h r = not_both false h refl
  typed_keys (Some ty) ids k e h r =
      let go = each_has (λ k. if nat_lt k (length f.keys) then unless (has ids.keys k) rule.NAME_TAKEN else []) (keys_of_ty ty) k e h in
      unless_holds (has ids.keys k) rule.NAME_TAKEN (sym (on_true (nat_lt k (length f.keys)) _ _ r) ∙ go)

  pub keys_there : (v : ℕ) (ids : Ids) → keys_broken f ids (var_type f v) ≡ [] → (k : ℕ) → has (type_keys f v) k ≡ true → has ids.keys k ≡ true
  keys_there v ids e k h = typed_keys (var_type f v) ids k e h (ranged v k h)

  in_var_tok : (b : Bool) (v : ℕ) (t : Tok) → is_bound (var_tok b v) t ≡ true → (t ≡ a_var v) × (b ≡ true)
  in_var_tok true v t e = (var_is t v (⊎_elim (λ x. x) (λ x. not_both false x refl) (or_split (is_tok t (a_var v)) false e)), refl)
  in_var_tok false v t e = not_both false e refl

  to_var_tok : (b : Bool) (v : ℕ) → b ≡ true → is_bound (var_tok b v) (a_var v) ≡ true
  to_var_tok true v e = or_left (is_tok (a_var v) (a_var v)) false (is_same_var v)
  to_var_tok false v e = not_both false e refl

  -- the variable alone is bound
  abbrev alone : (v : ℕ) → Ids → Ids
  alone v ids = record ids { vars = v ∷ ids.vars; vars_ever = v ∷ ids.vars_ever; bound = ids.bound ++ var_tok (is_owning_var f v) v }

  alone_grows : (v : ℕ) (ids : Ids) (t : Tok) → was ids t ≡ true → was (alone v ids) t ≡ true
  alone_grows v ids (a_key k) e = e
  alone_grows v ids (a_var w) e = or_right (v == w) (has ids.vars_ever w) e

  alone_goes : (v : ℕ) (ids : Ids) → has ids.vars_ever v ≡ false → keys_broken f ids (var_type f v) ≡ [] → Goes f ids (alone v ids)
  alone_goes v ids fresh typed = record {
    grows = alone_grows v ids;
    kept = λ t e. bound_left ids.bound (var_tok (is_owning_var f v) v) t e;
    added = λ t e. ⊎_elim (λ x. inl x) (λ x. inr (subst (λ u. was ids u ≡ false) (sym (in_var_tok (is_owning_var f v) v t x).0) fresh)) (bound_append ids.bound (var_tok (is_owning_var f v) v) t e);
    known = λ t e. ⊎_elim (λ x. inl x) (λ x. inr (subst (λ u. was (alone v ids) u ≡ true) (sym (in_var_tok (is_owning_var f v) v t x).0) (has_first v ids.vars_ever))) (bound_append ids.bound (var_tok (is_owning_var f v) v) t e);
    keys = λ k e. inl e;
    vars = λ w e. ⊎_elim
        (λ same. inr (subst (λ w. is_owning_var f w ≡ true → is_bound (alone v ids).bound (a_var w) ≡ true) (same_number v w same)
        (λ own. bound_right ids.bound (var_tok (is_owning_var f v) v) (a_var v) (to_var_tok (is_owning_var f v) v own))))
        (λ x. inl x) (or_split (v == w) (has ids.vars w) e);
    typed = λ old. record {
      each = λ w k h u. ⊎_elim
          (λ same. keys_there v ids typed k (subst (λ w. has (type_keys f w) k ≡ true) (sym (same_number v w same)) u))
          (λ x. old.each w k x u) (or_split (v == w) (has ids.vars w) h);
    };
    keys_stay = λ k e. e;
    vars_stay = λ w e. or_right (v == w) (has ids.vars w) e;
  }

  -- a key, and then the variable
  abbrev keyed : (k v : ℕ) → Ids → Ids
  keyed k v ids = record ids { vars = v ∷ ids.vars; vars_ever = v ∷ ids.vars_ever; keys = k ∷ ids.keys; keys_ever = k ∷ ids.keys_ever; bound = ids.bound ++ a_key k ∷ var_tok (is_owning_var f v) v }

  keyed_grows : (k v : ℕ) (ids : Ids) (t : Tok) → was ids t ≡ true → was (keyed k v ids) t ≡ true
  keyed_grows k v ids (a_key j) e = or_right (k == j) (has ids.keys_ever j) e
  keyed_grows k v ids (a_var w) e = or_right (v == w) (has ids.vars_ever w) e

  in_keyed : (k v : ℕ) (t : Tok) → is_bound (a_key k ∷ var_tok (is_owning_var f v) v) t ≡ true → (t ≡ a_key k) ⊎ (t ≡ a_var v)
  in_keyed k v t e = ⊎_elim (λ x. inl (key_is t k x)) (λ x. inr (in_var_tok (is_owning_var f v) v t x).0) (or_split (is_tok t (a_key k)) (is_bound (var_tok (is_owning_var f v) v) t) e)

  keyed_goes : (k v : ℕ) (ids : Ids) → nat_lt k (length f.keys) ≡ true → has ids.keys_ever k ≡ false → has ids.vars_ever v ≡ false →
      keys_broken f (record ids { keys = k ∷ ids.keys; keys_ever = k ∷ ids.keys_ever }) (var_type f v) ≡ [] → Goes f ids (keyed k v ids)
  keyed_goes k v ids range fresh_key fresh typed = record {
    grows = keyed_grows k v ids;
    kept = λ t e. bound_left ids.bound (a_key k ∷ var_tok (is_owning_var f v) v) t e;
    added = λ t e. ⊎_elim (λ x. inl x) (λ x. inr (⊎_elim (λ s. subst (λ u. was ids u ≡ false) (sym s) fresh_key) (λ s. subst (λ u. was ids u ≡ false) (sym s) fresh) (in_keyed k v t x)))
        (bound_append ids.bound (a_key k ∷ var_tok (is_owning_var f v) v) t e);
    known = λ t e. ⊎_elim (λ x. inl x) (λ x. inr (⊎_elim (λ s. subst (λ u. was (keyed k v ids) u ≡ true) (sym s) (has_first k ids.keys_ever)) (λ s. subst (λ u. was (keyed k v ids) u ≡ true) (sym s) (has_first v ids.vars_ever)) (in_keyed k v t x)))
        (bound_append ids.bound (a_key k ∷ var_tok (is_owning_var f v) v) t e);
    keys = λ j e. ⊎_elim
        (λ same. inr (subst (λ j. (is_bound (keyed k v ids).bound (a_key j) ≡ true) × (nat_lt j (length f.keys) ≡ true)) (same_number k j same)
        (bound_right ids.bound (a_key k ∷ var_tok (is_owning_var f v) v) (a_key k) (or_left (is_tok (a_key k) (a_key k)) (is_bound (var_tok (is_owning_var f v) v) (a_key k)) (is_same_key k)), range)))
        (λ x. inl x) (or_split (k == j) (has ids.keys j) e);
    vars = λ w e. ⊎_elim
        (λ same. inr (subst (λ w. is_owning_var f w ≡ true → is_bound (keyed k v ids).bound (a_var w) ≡ true) (same_number v w same)
        (λ own. bound_right ids.bound (a_key k ∷ var_tok (is_owning_var f v) v) (a_var v)
        (or_right (is_tok (a_var v) (a_key k)) (is_bound (var_tok (is_owning_var f v) v) (a_var v)) (to_var_tok (is_owning_var f v) v own)))))
        (λ x. inl x) (or_split (v == w) (has ids.vars w) e);
    typed = λ old. record {
      each = λ w j h u. ⊎_elim
          (λ same. keys_there v (record ids { keys = k ∷ ids.keys; keys_ever = k ∷ ids.keys_ever }) typed j (subst (λ w. has (type_keys f w) j ≡ true) (sym (same_number v w same)) u))
          (λ x. or_right (k == j) (has ids.keys j) (old.each w j x u)) (or_split (v == w) (has ids.vars w) h);
    };
    keys_stay = λ j e. or_right (k == j) (has ids.keys j) e;
    vars_stay = λ w e. or_right (v == w) (has ids.vars w) e;
  }

  -- ---- bindings as the rules have them

  -- a key that is bound is one of the function's
  abbrev pub IsInRange : Option ℕ → Type 0
  IsInRange None = Unit {0}
  IsInRange (Some k) = nat_lt k (length f.keys) ≡ true

  pub var_there : (ids : Ids) (fresh : Option ℕ) (v : ℕ) → binding_broken f ids fresh v ≡ [] → nat_lt v (length f.vars) ≡ true
  var_there ids fresh v e = in_range (nat_lt v (length f.vars)) _ e

  pub fresh_var : (ids : Ids) (fresh : Option ℕ) (v : ℕ) →
      unless (not (has ids.vars_ever v)) rule.NAME_TAKEN ++ fresh_broken f ids fresh ++ keys_broken f (with_key f fresh ids) (var_type f v) ≡ [] → has ids.vars_ever v ≡ false
  fresh_var ids fresh v all =
      is_false (has ids.vars_ever v) (unless_holds (not (has ids.vars_ever v)) rule.NAME_TAKEN
      (left_empty _ (fresh_broken f ids fresh) (left_empty _ (keys_broken f (with_key f fresh ids) (var_type f v)) all)))

  pub binding_goes : (ids : Ids) (fresh : Option ℕ) (v : ℕ) → IsInRange fresh → binding_broken f ids fresh v ≡ [] → Goes f ids (with_binding f fresh v ids)
  binding_goes ids None v r e =
      let there = var_there ids None v e in
      let all = chosen (nat_lt v (length f.vars)) _ there e in
      let fresh = fresh_var ids None v all in
      let typed = right_empty (unless (not (has ids.vars_ever v)) rule.NAME_TAKEN ++ fresh_broken f ids None) (keys_broken f (with_key f None ids) (var_type f v)) all in
      subst (λ x. Goes f ids (with_tokens f None v x)) (sym (with_var_is v ids there))
      (subst (λ b. Goes f ids (record (alone v ids) { bound = b ++ var_tok (is_owning_var f v) v })) (sym (no_more ids.bound)) (alone_goes v ids fresh typed))
  binding_goes ids (Some k) v r e =
      let there = var_there ids (Some k) v e in
      let all = chosen (nat_lt v (length f.vars)) _ there e in
      let fresh = fresh_var ids (Some k) v all in
      let ids2 = with_key f (Some k) ids in
      let front = left_empty (unless (not (has ids.vars_ever v)) rule.NAME_TAKEN ++ fresh_broken f ids (Some k)) (keys_broken f ids2 (var_type f v)) all in
      let key = right_empty (unless (not (has ids.vars_ever v)) rule.NAME_TAKEN) (fresh_broken f ids (Some k)) front in
      let fresh_key = is_false (has ids.keys_ever k) (unless_holds (not (has ids.keys_ever k)) rule.NAME_TAKEN (sym (on_true (nat_lt k (length f.keys)) _ _ r) ∙ key)) in
      let typed = right_empty (unless (not (has ids.vars_ever v)) rule.NAME_TAKEN ++ fresh_broken f ids (Some k)) (keys_broken f ids2 (var_type f v)) all in
      let typed2 = subst (λ x. keys_broken f x (var_type f v) ≡ []) (with_key_is k ids r) typed in
      subst (λ x. Goes f ids (with_tokens f (Some k) v (with_var f v x))) (sym (with_key_is k ids r))
      (subst (λ x. Goes f ids (with_tokens f (Some k) v x)) (sym (with_var_is v _ there))
      (subst (λ b. Goes f ids (record (keyed k v ids) { bound = b })) (sym (one_more ids.bound (a_key k) (var_tok (is_owning_var f v) v))) (keyed_goes k v ids r fresh_key fresh typed2)))

  -- what is bound is in scope after
  pub binding_var : (ids : Ids) (fresh : Option ℕ) (v : ℕ) → binding_broken f ids fresh v ≡ [] → has (with_binding f fresh v ids).vars v ≡ true
  binding_var ids fresh v e =
      subst (λ x. has (with_tokens f fresh v x).vars v ≡ true) (sym (with_var_is v (with_key f fresh ids) (var_there ids fresh v e))) (has_first v (with_key f fresh ids).vars)

  pub binding_key : (ids : Ids) (k v : ℕ) → nat_lt k (length f.keys) ≡ true → binding_broken f ids (Some k) v ≡ [] → has (with_binding f (Some k) v ids).keys k ≡ true
  binding_key ids k v r e =
      subst (λ x. has (with_tokens f (Some k) v x).keys k ≡ true) (sym (with_var_is v (with_key f (Some k) ids) (var_there ids (Some k) v e)))
      (subst (λ x. has x.keys k ≡ true) (sym (with_key_is k ids r)) (has_first k ids.keys))

  pub binding_ever : (ids : Ids) (k v : ℕ) → nat_lt k (length f.keys) ≡ true → binding_broken f ids (Some k) v ≡ [] → has (with_var f v (with_key f (Some k) ids)).keys_ever k ≡ true
  binding_ever ids k v r e =
      subst (λ x. has x.keys_ever k ≡ true) (sym (with_var_is v (with_key f (Some k) ids) (var_there ids (Some k) v e)))
      (subst (λ x. has x.keys_ever k ≡ true) (sym (with_key_is k ids r)) (has_first k ids.keys_ever))

  -- ---- targets

  target_by : (b : Bool) (ids : Ids) (v : ℕ) → has ids.vars v ≡ b → target_broken f ids v ≡ [] → Goes f ids (if b then ids else with_binding f None v ids)
  target_by true ids v is e = stays f ids
  target_by false ids v is e =
      binding_goes ids None v tt (sym (on_false (has ids.vars v && nat_lt v (length f.vars)) _ _ (ap (λ b. b && nat_lt v (length f.vars)) is)) ∙ e)

  pub target_goes : (ids : Ids) (v : ℕ) → target_broken f ids v ≡ [] → Goes f ids (with_target f v ids)
  target_goes ids v e = target_by (has ids.vars v) ids v refl e

  target_var_by : (b : Bool) (ids : Ids) (v : ℕ) → has ids.vars v ≡ b → target_broken f ids v ≡ [] → has (if b then ids else with_binding f None v ids).vars v ≡ true
  target_var_by true ids v is e = is
  target_var_by false ids v is e =
      binding_var ids None v (sym (on_false (has ids.vars v && nat_lt v (length f.vars)) _ _ (ap (λ b. b && nat_lt v (length f.vars)) is)) ∙ e)

  pub target_var : (ids : Ids) (v : ℕ) → target_broken f ids v ≡ [] → has (with_target f v ids).vars v ≡ true
  target_var ids v e = target_var_by (has ids.vars v) ids v refl e

  -- ---- a reference's own key

  own_range : (o : Option Ty) → ((k : ℕ) → has (keys_in_type o) k ≡ true → nat_lt k (length f.keys) ≡ true) → IsInRange (tracked_key o)
  own_range (Some (tracked k t args)) r = r k (has_first k args)
  own_range (Some int) r = tt
  own_range (Some bool) r = tt
  own_range (Some (owning states t args)) r = tt
  own_range (Some (guarded k t args)) r = tt
  own_range (Some (variant t args)) r = tt
  own_range (Some (owning_variant t args)) r = tt
  own_range None r = tt

  pub own_in_range : (x : ℕ) → IsInRange (own_key f x)
  own_in_range x = own_range (var_type f x) (ranged x)
