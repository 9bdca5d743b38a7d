-- What the rules on heads say of keys, and what is known of a call, is so of each instance of the callee.
use Rattle.std.proofs.Common.{◌≡◌, ℕ, Bool, true, false, List, [], ◌∷◌, ◌++◌, map, Option, Some, None, refl, sym, ◌∙◌, subst}
use Rattle.vlt_core.specs.Core.{Operand, Entry, Func, Program}
use Rattle.vlt_core.specs.Instances.{entry_of_instance, instance}
use Rattle.vlt_core.specs.Lookups.{is_new}
use Rattle.vlt_core.specs.KindedHeads.{has, new_keys, keys_of_parameters}
use Rattle.vlt_core.specs.KindedScopes.{Ids}
use Rattle.vlt_core.specs.KindedCalls.{with_call_target}
use Rattle.vlt_core_laws.proofs.Instanced.{new_keys_same}
use Rattle.c_lower_worlds.specs.Naming.Lists.{Each}
use Rattle.c_lower_worlds.proofs.OfNaming.RunningInstances.{new_of, any_new_instance}
use Rattle.c_lower_worlds.proofs.OfNaming.NamedCalls.{TargetSo, IsKnownCall}
use Rattle.c_lower_worlds.proofs.OfNaming.HeadKeys.{IsHeaded}

module _ (p : Program) (g : Func) (o : Option ℕ) where
  abbrev i : Func
  i = instance p g o

  -- of each entry: whether it is new, and its key
  each_instance : (P Q : Bool → ℕ → Type 0) → ((b : Bool) (k : ℕ) → P b k → Q b k) → (o : Option ℕ) → Each (λ (e : Entry). P (is_new e) e.key) g.clause → Each (λ (e : Entry). Q (is_new e) e.key) (instance p g o).clause
  each_instance P Q go None h = same g.clause h
    where
      same : (es : List Entry) → Each (λ (e : Entry). P (is_new e) e.key) es → Each (λ (e : Entry). Q (is_new e) e.key) es
      same [] h = tt
      same (e ∷ es) h = (go (is_new e) e.key h.0, same es h.1)
  each_instance P Q go (Some o) h = mapped g.clause h
    where
      mapped : (es : List Entry) → Each (λ (e : Entry). P (is_new e) e.key) es → Each (λ (e : Entry). Q (is_new e) e.key) (map (entry_of_instance p g o) es)
      mapped [] h = tt
      mapped (e ∷ es) h = (subst (λ b. Q b e.key) (sym (new_of e.mode)) (go (is_new e) e.key h.0), mapped es h.1)

  pub headed_instance : IsHeaded g → IsHeaded i
  headed_instance h = record {
    result = λ k m. let r = h.result k (subst (λ ks. has ks k ≡ true) (new_keys_same p g o) m) in record { type = r.type; args = r.args; is = r.is };
    plain = λ v k ty t m. subst (λ ks. has ks k ≡ false) (sym (new_keys_same p g o)) (h.plain v k ty t m);
    old = each_instance (λ b k. b ≡ false → has (keys_of_parameters g) k ≡ true) (λ b k. b ≡ false → has (keys_of_parameters g) k ≡ true) (λ b k q. q) o h.old;
    new = each_instance (λ b k. b ≡ true → has (new_keys g) k ≡ true) (λ b k. b ≡ true → has (new_keys i) k ≡ true)
        (λ b k q n. subst (λ ks. has ks k ≡ true) (sym (new_keys_same p g o)) (q n)) o h.new;
    given = λ k m. subst (λ ks. has (keys_of_parameters g ++ ks) k ≡ true) (sym (new_keys_same p g o)) (h.given k m);
  }

  target_instance : (f : Func) (ids : Ids) (keys : List ℕ) (target : Option ℕ) → TargetSo f ids g keys target → TargetSo f ids i keys target
  target_instance f ids keys None h = any_new_instance p g o ∙ h
  target_instance f ids keys (Some v) h =
      record { given = h.given; result = h.result; ty = h.ty; declared = h.declared; same = h.same; binds = λ e. h.binds (sym (any_new_instance p g o) ∙ e) }

  pub known_instance : (f : Func) (ids : Ids) (target : Option ℕ) (keys : List ℕ) (os : List Operand) → IsKnownCall p f ids g target keys os → IsKnownCall p f ids i target keys os
  known_instance f ids target keys os h = record {
    fits = h.fits;
    listed = λ k m. h.listed k (subst (λ ks. has (keys_of_parameters g ++ ks) k ≡ true) (new_keys_same p g o) m);
    scoped = λ j k q old. h.scoped j k q (subst (λ ks. has ks j ≡ false) (new_keys_same p g o) old);
    aimed = target_instance f ids keys target h.aimed;
  }

  pub aims_same : (f : Func) (ids : Ids) (target : Option ℕ) → with_call_target f (Some i) target ids ≡ with_call_target f (Some g) target ids
  aims_same f ids None = refl
  aims_same f ids (Some v) = rw (any_new_instance p g o) refl
