-- What a step keeps of the naming of references.
use Rattle.std.proofs.Common.{◌≡◌, ℕ, ◌==◌, nat_lt, ◌||◌, Bool, true, false, if◌then◌else◌, List, ◌∷◌, length, Option, Some, None, refl, sym, ◌∙◌, subst, ⊎_elim, ◌⊎◌, inl, inr}
use Rattle.std.proofs.lemmas.Bool.{false≢true, eqb-true}
use Rattle.std.proofs.lemmas.Option.{none-some, same_Some}
use Rattle.vlt_core.specs.Core.{tracked, Func}
use Rattle.vlt_core.specs.Lookups.{var_type}
use Rattle.vlt_core.specs.KindedHeads.{has}
use Rattle.vlt_core.specs.KindedScopes.{Ids, with_key, with_var, with_binding, with_target}
use Rattle.vlt_meaning.specs.World.{Value, Frame}
use Rattle.vlt_meaning.specs.Step as step
use Rattle.vlt_meaning.specs.Step.{set_at}
use Rattle.vlt_core_laws.proofs.Ids.{or_split, not_both, same_number}
use Rattle.c_lower_worlds.specs.Naming.Naming.{IsKnownScope, IsOfKey, NamesRight}

-- ---- changes of the frame

pub of_key_moved : (keys others : ℕ → Option ℕ) (k : ℕ) (a : Value) → others k ≡ keys k → IsOfKey keys k a → IsOfKey others k a
of_key_moved keys others k a e h = record { number = h.number; is = h.is; named = e ∙ h.named }

pub set_here : {A : Type 0} (x : ℕ) (a : Option A) (old : ℕ → Option A) (y : ℕ) → (y == x) ≡ true → set_at x a old y ≡ a
set_here x a old y e = rw e refl

pub set_there : {A : Type 0} (x : ℕ) (a : Option A) (old : ℕ → Option A) (y : ℕ) → (y == x) ≡ false → set_at x a old y ≡ old y
set_there x a old y e = rw e refl

-- no key that was bound is changed, and no variable's value but for these
pub names_keys : (f : Func) (ids : Ids) (vars : List ℕ) (s s2 : Frame) → IsKnownScope f ids → ((v : ℕ) → has vars v ≡ true → has ids.vars v ≡ true) →
    ((v : ℕ) (a : Value) → s2.vars v ≡ Some a → s.vars v ≡ Some a) → ((k : ℕ) → has ids.keys_ever k ≡ true → s2.keys k ≡ s.keys k) → NamesRight f ids.vars s → NamesRight f vars s2
names_keys f ids vars s s2 known within same kept h = record {
  at = λ v k t args i ty a e.
      of_key_moved s.keys s2.keys k a (kept k (known.ever k (known.typed v k (tracked k t args) (within v i) ty (first k args)))) (h.at v k t args (within v i) ty a (same v a e));
}
  where
    first : (k : ℕ) (args : List ℕ) → has (k ∷ args) k ≡ true
    first k args = by (k == k) (self k)
      where
        self : (k : ℕ) → (k == k) ≡ true
        self k = Rattle.std.proofs.lemmas.Bool.eq-eqb k k refl

        by : (b : Bool) → b ≡ true → (b || has args k) ≡ true
        by true e = refl
        by false e = absurd (false≢true e)

-- a variable gets a value, which is named right where its type is a reference
pub names_set : (f : Func) (before vars : List ℕ) (s : Frame) (v : ℕ) (a : Value) → ((u : ℕ) → has vars u ≡ true → (has before u ≡ true) ⊎ (v ≡ u)) →
    ((k t : ℕ) (args : List ℕ) → var_type f v ≡ Some (tracked k t args) → IsOfKey s.keys k a) → NamesRight f before s → NamesRight f vars (step.with_var v (Some a) s)
names_set f before vars s v a adds fits h = record {
  at = λ u k t args i ty b e. by u k t args i ty b (u == v) refl e;
}
  where
    by : (u k t : ℕ) (args : List ℕ) → has vars u ≡ true → var_type f u ≡ Some (tracked k t args) → (b : Value) → (c : Bool) → (u == v) ≡ c →
        (if c then Some a else s.vars u) ≡ Some b → IsOfKey s.keys k b
    by u k t args i ty b true q e =
        subst (λ b. IsOfKey s.keys k b) (same_Some a b e) (fits k t args (subst (λ u. var_type f u ≡ Some (tracked k t args)) (eqb-true u v q) ty))
    by u k t args i ty b false q e = ⊎_elim (λ x. h.at u k t args x ty b e) (λ x. absurd (apart u v q (sym x))) (adds u i)
      where
        apart : (u v : ℕ) → (u == v) ≡ false → u ≡ v → ⊥
        apart u v q x = not_both (u == v) (Rattle.std.proofs.lemmas.Bool.eq-eqb u v x) q

pub names_emptied : (f : Func) (vars : List ℕ) (s : Frame) (v : ℕ) → NamesRight f vars s → NamesRight f vars (step.with_var v None s)
names_emptied f vars s v h = record { at = λ u k t args i ty b e. by u k t args i ty b (u == v) refl e }
  where
    by : (u k t : ℕ) (args : List ℕ) → has vars u ≡ true → var_type f u ≡ Some (tracked k t args) → (b : Value) → (c : Bool) → (u == v) ≡ c →
        (if c then None else s.vars u) ≡ Some b → IsOfKey s.keys k b
    by u k t args i ty b true q e = absurd (none-some b e)
    by u k t args i ty b false q e = h.at u k t args i ty b e

-- ---- what comes into scope

abbrev pub Adds : List ℕ → List ℕ → ℕ → Type 0
Adds before vars v = (u : ℕ) → has vars u ≡ true → (has before u ≡ true) ⊎ (v ≡ u)

pub adds_more : (before vars : List ℕ) (v : ℕ) → ((u : ℕ) → has vars u ≡ true → has before u ≡ true) → Adds before vars v
adds_more before vars v h u i = inl (h u i)

pub var_adds : (f : Func) (v : ℕ) (ids : Ids) → Adds ids.vars (with_var f v ids).vars v
var_adds f v ids u = by (nat_lt v (length f.vars))
  where
    by : (b : Bool) → has (if b then record ids { vars = v ∷ ids.vars; vars_ever = v ∷ ids.vars_ever } else ids).vars u ≡ true → (has ids.vars u ≡ true) ⊎ (v ≡ u)
    by true i = ⊎_elim (λ x. inr (same_number v u x)) (λ x. inl x) (or_split (v == u) (has ids.vars u) i)
    by false i = inl i

pub key_vars : (f : Func) (fresh : Option ℕ) (ids : Ids) → (with_key f fresh ids).vars ≡ ids.vars
key_vars f None ids = refl
key_vars f (Some k) ids = by (nat_lt k (length f.keys))
  where
    by : (b : Bool) → (if b then record ids { keys = k ∷ ids.keys; keys_ever = k ∷ ids.keys_ever } else ids).vars ≡ ids.vars
    by true = refl
    by false = refl

pub bare_adds : (f : Func) (fresh : Option ℕ) (v : ℕ) (ids : Ids) → Adds ids.vars (with_var f v (with_key f fresh ids)).vars v
bare_adds f fresh v ids u i = subst (λ vs. (has vs u ≡ true) ⊎ (v ≡ u)) (key_vars f fresh ids) (var_adds f v (with_key f fresh ids) u i)

pub binding_adds : (f : Func) (fresh : Option ℕ) (v : ℕ) (ids : Ids) → Adds ids.vars (with_binding f fresh v ids).vars v
binding_adds f fresh v ids u i = bare_adds f fresh v ids u i

pub target_adds : (f : Func) (v : ℕ) (ids : Ids) → Adds ids.vars (with_target f v ids).vars v
target_adds f v ids u = by (has ids.vars v)
  where
    by : (b : Bool) → has (if b then ids else with_binding f None v ids).vars u ≡ true → (has ids.vars u ≡ true) ⊎ (v ≡ u)
    by true i = inl i
    by false i = binding_adds f None v ids u i
