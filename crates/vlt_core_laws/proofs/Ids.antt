-- What bindings do to what is in scope.
use Rattle.std.proofs.Common.{◌≡◌, ℕ, Bool, true, false, not, ◌&&◌, ◌||◌, ◌==◌, List, [], ◌∷◌, ◌++◌, Option, Some, None, refl, sym, ap, subst, ◌∙◌, ◌⊎◌, inl, inr, ⊎_elim, rules}
use Rattle.std.specs.Prelude.{nat_lt, length}
use Rattle.std.specs.List.{flat_map}
use Rattle.std.proofs.lemmas.List.Concat.{flat_map-cons}
use Rattle.vlt_core.specs.Core.{Ty, Tok, a_key, a_var, Func}
use Rattle.vlt_core.specs.Lookups.{var_type, is_owning_var}
use Rattle.vlt_core.specs.Maps.{is_tok}
use Rattle.vlt_core.specs.Types.{keys_of_ty}
use Rattle.vlt_core.specs.KindedHeads.{Rules, has}
use Rattle.vlt_core.specs.KindedScopes.{Ids}
use Rattle.vlt_core_laws.specs.Scoped.{is_bound}
use Rattle.vlt_core_laws.proofs.Unbroken.{left_empty, right_empty}

-- the token was bound before this point, wherever
abbrev pub was : Ids → Tok → Bool
was ids (a_key k) = has ids.keys_ever k
was ids (a_var v) = has ids.vars_ever v

-- a key of the function, or an owning variable
abbrev pub IsToken : Func → Tok → Type 0
IsToken f (a_key k) = nat_lt k (length f.keys) ≡ true
IsToken f (a_var v) = is_owning_var f v ≡ true

abbrev pub keys_in_type : Option Ty → List ℕ
keys_in_type None = []
keys_in_type (Some ty) = keys_of_ty ty

abbrev pub type_keys : Func → (v : ℕ) → List ℕ
type_keys f v = keys_in_type (var_type f v)

-- the keys of the types of variables in scope are in scope
pub record AreTyped (f : Func) (ids : Ids) : Type 0 where
  pub each : (v k : ℕ) → has ids.vars v ≡ true → has (type_keys f v) k ≡ true → has ids.keys k ≡ true

-- a part leads from one point to another
pub record Goes (f : Func) (a b : Ids) : Type 0 where
  pub grows : (t : Tok) → was a t ≡ true → was b t ≡ true
  -- the tokens of the block at hand: some are new, which weren't bound before and now were
  pub kept : (t : Tok) → is_bound a.bound t ≡ true → is_bound b.bound t ≡ true
  pub added : (t : Tok) → is_bound b.bound t ≡ true → (is_bound a.bound t ≡ true) ⊎ (was a t ≡ false)
  pub known : (t : Tok) → is_bound b.bound t ≡ true → (is_bound a.bound t ≡ true) ⊎ (was b t ≡ true)
  -- what is new in scope is a token of the block
  pub keys : (k : ℕ) → has b.keys k ≡ true → (has a.keys k ≡ true) ⊎ ((is_bound b.bound (a_key k) ≡ true) × (nat_lt k (length f.keys) ≡ true))
  pub vars : (v : ℕ) → has b.vars v ≡ true → (has a.vars v ≡ true) ⊎ (is_owning_var f v ≡ true → is_bound b.bound (a_var v) ≡ true)
  pub typed : AreTyped f a → AreTyped f b
  -- what was in scope stays
  pub keys_stay : (k : ℕ) → has a.keys k ≡ true → has b.keys k ≡ true
  pub vars_stay : (v : ℕ) → has a.vars v ≡ true → has b.vars v ≡ true

-- ---- tests

never : false ≡ true → ⊥
never e = cc

pub or_split : (a b : Bool) → (a || b) ≡ true → (a ≡ true) ⊎ (b ≡ true)
or_split true b e = inl refl
or_split false b e = inr e

pub or_left : (a b : Bool) → a ≡ true → (a || b) ≡ true
or_left true b e = refl
or_left false b e = absurd (never e)

pub or_right : (a b : Bool) → b ≡ true → (a || b) ≡ true
or_right true b e = refl
or_right false b e = e

pub true_or_false : (b : Bool) → (b ≡ true) ⊎ (b ≡ false)
true_or_false true = inl refl
true_or_false false = inr refl

pub not_both : {P : Type 0} (b : Bool) → b ≡ true → b ≡ false → P
not_both true t f = absurd (never (sym f))
not_both false t f = absurd (never t)

pub and_left : (a b : Bool) → (a && b) ≡ true → a ≡ true
and_left true b e = refl
and_left false b e = e

pub and_right : (a b : Bool) → (a && b) ≡ true → b ≡ true
and_right true b e = e
and_right false b e = absurd (never e)

pub is_false : (b : Bool) → not b ≡ true → b ≡ false
is_false true e = absurd (never e)
is_false false e = refl

pub same_number : (m n : ℕ) → (m == n) ≡ true → m ≡ n
same_number m n e = search rules

pub bound_append : (xs ys : List Tok) (t : Tok) → is_bound (xs ++ ys) t ≡ true → (is_bound xs t ≡ true) ⊎ (is_bound ys t ≡ true)
bound_append [] ys t e = inr e
bound_append (x ∷ xs) ys t e = ⊎_elim (λ here. inl (or_left (is_tok t x) (is_bound xs t) here))
    (λ there. ⊎_elim (λ l. inl (or_right (is_tok t x) (is_bound xs t) l)) (λ r. inr r) (bound_append xs ys t there))
    (or_split (is_tok t x) (is_bound (xs ++ ys) t) e)

pub bound_left : (xs ys : List Tok) (t : Tok) → is_bound xs t ≡ true → is_bound (xs ++ ys) t ≡ true
bound_left [] ys t e = absurd (never e)
bound_left (x ∷ xs) ys t e = ⊎_elim (λ here. or_left (is_tok t x) (is_bound (xs ++ ys) t) here)
    (λ there. or_right (is_tok t x) (is_bound (xs ++ ys) t) (bound_left xs ys t there)) (or_split (is_tok t x) (is_bound xs t) e)

pub bound_right : (xs ys : List Tok) (t : Tok) → is_bound ys t ≡ true → is_bound (xs ++ ys) t ≡ true
bound_right [] ys t e = e
bound_right (x ∷ xs) ys t e = or_right (is_tok t x) (is_bound (xs ++ ys) t) (bound_right xs ys t e)

pub key_is : (t : Tok) (k : ℕ) → is_tok t (a_key k) ≡ true → t ≡ a_key k
key_is (a_key j) k e = ap a_key (same_number j k e)
key_is (a_var v) k e = absurd (never e)

pub var_is : (t : Tok) (v : ℕ) → is_tok t (a_var v) ≡ true → t ≡ a_var v
var_is (a_var w) v e = ap a_var (same_number w v e)
var_is (a_key k) v e = absurd (never e)

-- each of a list
pub each_has : (go : ℕ → Rules) (ns : List ℕ) (n : ℕ) → flat_map go ns ≡ [] → has ns n ≡ true → go n ≡ []
each_has go [] n e h = absurd (never h)
each_has go (m ∷ ms) n e h = ⊎_elim
    (λ here. subst (λ x. go x ≡ []) (same_number m n here) (left_empty (go m) (flat_map go ms) (sym (flat_map-cons go m ms) ∙ e)))
    (λ there. each_has go ms n (right_empty (go m) (flat_map go ms) (sym (flat_map-cons go m ms) ∙ e)) there)
    (or_split (m == n) (has ms n) h)

-- ---- parts one after another

pub stays : (f : Func) (a : Ids) → Goes f a a
stays f a = record {
  grows = λ t e. e;
  kept = λ t e. e;
  added = λ t e. inl e;
  known = λ t e. inl e;
  keys = λ k e. inl e;
  vars = λ v e. inl e;
  typed = λ e. e;
  keys_stay = λ k e. e;
  vars_stay = λ v e. e;
}

pub was_not : (x y : Bool) → (x ≡ true → y ≡ true) → y ≡ false → x ≡ false
was_not true y f e = not_both y (f refl) e
was_not false y f e = refl

pub goes_on : (f : Func) (a b c : Ids) → Goes f a b → Goes f b c → Goes f a c
goes_on f a b c p q = record {
  grows = λ t e. q.grows t (p.grows t e);
  kept = λ t e. q.kept t (p.kept t e);
  added = λ t e. ⊎_elim (p.added t) (λ new. inr (was_not (was a t) (was b t) (p.grows t) new)) (q.added t e);
  known = λ t e. ⊎_elim (λ old. ⊎_elim (λ x. inl x) (λ x. inr (q.grows t x)) (p.known t old)) (λ x. inr x) (q.known t e);
  keys = λ k e. ⊎_elim (λ old. ⊎_elim (λ x. inl x) (λ x. inr (q.kept (a_key k) x.0, x.1)) (p.keys k old)) (λ x. inr x) (q.keys k e);
  vars = λ v e. ⊎_elim (λ old. ⊎_elim (λ x. inl x) (λ x. inr (λ o. q.kept (a_var v) (x o))) (p.vars v old)) (λ x. inr x) (q.vars v e);
  typed = λ e. q.typed (p.typed e);
  keys_stay = λ k e. q.keys_stay k (p.keys_stay k e);
  vars_stay = λ v e. q.vars_stay v (p.vars_stay v e);
}
