-- Statements keep what is known of a scope.
use Rattle.std.proofs.Common.{◌≡◌, ℕ, zero, suc, ◌+◌, ◌<◌, ◌==◌, nat_lt, Bool, true, false, if◌then◌else◌, List, [], ◌∷◌, ◌++◌, map, take, length, Option, Some, None, slice_get, refl, sym, ◌∙◌, subst, ⊎_elim, arith}
use Rattle.std.specs.List.{flat_map, range_with_len}
use Rattle.std.specs.Option.{option_map}
use Rattle.std.proofs.lemmas.Bool.Decides.{nat_tests}
use Rattle.std.proofs.lemmas.List.Concat.{flat_map-cons}
use Rattle.vlt_core.specs.Core as core
use Rattle.vlt_core.specs.Core.{Ty, a_key, Form, Block, VarDecl, Func, Program}
use Rattle.vlt_core.specs.Lookups.{var_type}
use Rattle.vlt_core.specs.Types.{keys_of_ty}
use Rattle.vlt_core.specs.Kinded.{IsKinded}
use Rattle.vlt_core.specs.KindedHeads.{has, keys_of_parameters, keys_of_result}
use Rattle.vlt_core.specs.KindedScopes.{Ids, Around, at_block_start, left_behind, with_key, with_var, with_binding, own_key, binding_broken}
use Rattle.vlt_core.specs.KindedOperands.{misfit}
use Rattle.vlt_core.specs.KindedBodies.{with_vars, with_focus, arm_vars_broken, focus_broken, first_ids, ids_following, ids_following_block, row_broken, form_rows, block_rows}
use Rattle.vlt_core_laws.specs.Scoped.{is_bound}
use Rattle.vlt_core_laws.proofs.Unbroken.{right_empty}
use Rattle.vlt_core_laws.specs.Unbroken.{EachEmpty}
use Rattle.vlt_core_laws.proofs.Ids.{type_keys, keys_in_type, AreTyped, Goes, or_split, not_both, same_number}
use Rattle.vlt_core_laws.proofs.Binding.{IsInRange, binding_goes, own_in_range}
use Rattle.vlt_core_laws.proofs.Going.{form_goes, block_goes, vars_grow, leaves}
use Rattle.vlt_core_laws.proofs.Headed.{kinded_parts, has_left, has_right, head_empty, ranged_keys}
use Rattle.c_lower_worlds.specs.Naming.Functions.{IsFunction}
use Rattle.c_lower_worlds.specs.Naming.Naming.{IsKnownScope}
use Rattle.c_lower_worlds.proofs.OfNaming.RuleFacts.{both_empty}

abbrev pub AreRanged : Func → Type 0
AreRanged f = (v k : ℕ) → has (type_keys f v) k ≡ true → nat_lt k (length f.keys) ≡ true

pub ranged : (p : Program) → IsKinded p → (n : ℕ) (f : Func) → slice_get p.fns n ≡ Some f → AreRanged f
ranged p kinded n f at = let e = head_empty p n f (kinded_parts p kinded) at in ranged_keys p e.0 f e.1

pub ranged_of : (p : Program) → IsKinded p → (f : Func) → IsFunction p f → AreRanged f
ranged_of p kinded f is = subst AreRanged is.function.is (ranged p kinded is.number is.function.declared is.function.at)

are_typed : (f : Func) (ids : Ids) → IsKnownScope f ids → AreTyped f ids
are_typed f ids h = record { each = λ v k i m. by v k i (var_type f v) refl m }
  where
    by : (v k : ℕ) → has ids.vars v ≡ true → (o : Option Ty) → var_type f v ≡ o → has (keys_in_type o) k ≡ true → has ids.keys k ≡ true
    by v k i None e m = not_both false m refl
    by v k i (Some ty) e m = h.typed v k ty i e m

type_typed : (f : Func) (ids : Ids) → AreTyped f ids → (v k : ℕ) (ty : Ty) → has ids.vars v ≡ true → var_type f v ≡ Some ty → has (keys_of_ty ty) k ≡ true → has ids.keys k ≡ true
type_typed f ids h v k ty i e m = h.each v k i (subst (λ o. has (keys_in_type o) k ≡ true) (sym e) m)

pub goes_known : (f : Func) (a b : Ids) → Goes f a b → IsKnownScope f a → IsKnownScope f b
goes_known f a b g h = record {
  typed = type_typed f b (g.typed (are_typed f a h));
  ever = λ k e. ⊎_elim (λ x. g.grows (a_key k) (h.ever k x)) (λ x. following k x.0) (g.keys k e);
  bound = following;
  head = λ k e. g.grows (a_key k) (h.head k e);
}
  where
    following : (k : ℕ) → is_bound b.bound (a_key k) ≡ true → has b.keys_ever k ≡ true
    following k e = ⊎_elim (λ x. g.grows (a_key k) (h.bound k x)) (λ x. x) (g.known (a_key k) e)

pub start_known : (f : Func) (ids : Ids) → IsKnownScope f ids → IsKnownScope f (at_block_start ids)
start_known f ids h = record { typed = h.typed; ever = h.ever; bound = λ k e. not_both false e refl; head = h.head }

-- a variable that is bound in no block: a focus, an arm
bare_bound : (f : Func) (fresh : Option ℕ) (v : ℕ) (ids : Ids) → (with_var f v (with_key f fresh ids)).bound ≡ ids.bound
bare_bound f fresh v ids = by_var (nat_lt v (length f.vars)) (with_key f fresh ids) ∙ by_fresh fresh
  where
    by_var : (b : Bool) (x : Ids) → (if b then record x { vars = v ∷ x.vars; vars_ever = v ∷ x.vars_ever } else x).bound ≡ x.bound
    by_var true x = refl
    by_var false x = refl

    by_key : (b : Bool) (k : ℕ) → (if b then record ids { keys = k ∷ ids.keys; keys_ever = k ∷ ids.keys_ever } else ids).bound ≡ ids.bound
    by_key true k = refl
    by_key false k = refl

    by_fresh : (o : Option ℕ) → (with_key f o ids).bound ≡ ids.bound
    by_fresh None = refl
    by_fresh (Some k) = by_key (nat_lt k (length f.keys)) k

bare_known : (f : Func) (r : AreRanged f) (fresh : Option ℕ) (v : ℕ) (ids : Ids) → IsInRange f r fresh → binding_broken f ids fresh v ≡ [] → IsKnownScope f ids →
    IsKnownScope f (with_var f v (with_key f fresh ids))
bare_known f r fresh v ids range e h =
    let g = binding_goes f r ids fresh v range e in
    let k = goes_known f ids (with_binding f fresh v ids) g h in
    record {
      typed = k.typed;
      ever = k.ever;
      bound = λ j m. g.grows (a_key j) (h.bound j (subst (λ ts. is_bound ts (a_key j) ≡ true) (bare_bound f fresh v ids) m));
      head = k.head;
    }

pub focus_known : (p : Program) (f : Func) → AreRanged f → (y z : ℕ) (ids : Ids) → focus_broken p f ids y z ≡ [] → IsKnownScope f ids → IsKnownScope f (with_focus f z ids)
focus_known p f r y z ids e h = bare_known f r (own_key f z) z ids (own_in_range f r z) (right_empty _ (binding_broken f ids (own_key f z) z) e) h

pub vars_known : (f : Func) → AreRanged f → (vs : List ℕ) (ws : List Ty) (ids : Ids) → arm_vars_broken f ids ws vs ≡ [] → IsKnownScope f ids → IsKnownScope f (with_vars f vs ids)
vars_known f r [] ws ids e h = h
vars_known f r (v ∷ vs) [] ids e h =
    let b = both_empty (binding_broken f ids None v) (arm_vars_broken f (with_var f v ids) [] vs) e in
    vars_known f r vs [] (with_var f v ids) b.right (bare_known f r None v ids tt b.left h)
vars_known f r (v ∷ vs) (w ∷ ws) ids e h =
    let b = both_empty (misfit (Some w) (var_type f v) ++ binding_broken f ids None v) (arm_vars_broken f (with_var f v ids) ws vs) e in
    let a = both_empty (misfit (Some w) (var_type f v)) (binding_broken f ids None v) b.left in
    vars_known f r vs ws (with_var f v ids) b.right (bare_known f r None v ids tt a.right h)

module _ (p : Program) (f : Func) (r : AreRanged f) where
  pub form_known : (form : Form) (around : Around) (ids : Ids) → row_broken p f around ids form ≡ [] → EachEmpty (form_rows p f around ids form) → IsKnownScope f ids →
      IsKnownScope f (ids_following p f form ids)
  form_known form around ids e rows h = goes_known f ids (ids_following p f form ids) (form_goes p f r form around ids e rows) h

  pub block_known : (b : Block) (around : Around) (ids : Ids) → EachEmpty (block_rows p f around ids b) → IsKnownScope f ids → IsKnownScope f (ids_following_block p f b ids)
  block_known b around ids rows h = goes_known f ids (ids_following_block p f b ids) (block_goes p f r b around ids rows) h

  -- after an arm
  pub arm_known : (vs : List ℕ) (b : Block) (around : Around) (ids : Ids) → EachEmpty (block_rows p f around (with_vars f vs ids) b) → IsKnownScope f ids →
      IsKnownScope f (left_behind ids (ids_following_block p f b (with_vars f vs ids)))
  arm_known vs b around ids rows h =
      goes_known f ids (left_behind ids (ids_following_block p f b (with_vars f vs ids)))
      (leaves f ids (ids_following_block p f b (with_vars f vs ids)) (λ t w. (block_goes p f r b around (with_vars f vs ids) rows).grows t (vars_grow p f r vs ids t w))) h

-- ---- where a body begins

range_below : (a n m : ℕ) → has (range_with_len a n) m ≡ true → m < a + n
range_below a zero m e = not_both false e refl
range_below a (suc n) m e = ⊎_elim (λ same. let is = same_number a m same in omega arith) (λ x. let more = range_below (a + 1) n m x in omega arith) (or_split (a == m) (has (range_with_len (a + 1) n) m) e)

pub param_keys : (ds : List VarDecl) (n v k : ℕ) → v < n → has (keys_in_type (option_map (λ (d : VarDecl). d.ty) (slice_get ds v))) k ≡ true →
    has (flat_map keys_of_ty (map (λ (d : VarDecl). d.ty) (take n ds))) k ≡ true
param_keys [] n v k less m = not_both false m refl
param_keys (d ∷ ds) zero v k less m = absurd (omega arith)
param_keys (d ∷ ds) (suc n) zero k less m =
    subst (λ ks. has ks k ≡ true) (sym (flat_map-cons keys_of_ty d.ty (map (λ (d : VarDecl). d.ty) (take n ds)))) (has_left (keys_of_ty d.ty) (flat_map keys_of_ty (map (λ (d : VarDecl). d.ty) (take n ds))) k m)
param_keys (d ∷ ds) (suc n) (suc v) k less m =
    subst (λ ks. has ks k ≡ true) (sym (flat_map-cons keys_of_ty d.ty (map (λ (d : VarDecl). d.ty) (take n ds))))
    (has_right (keys_of_ty d.ty) (flat_map keys_of_ty (map (λ (d : VarDecl). d.ty) (take n ds))) k (param_keys ds n v k (omega arith) m))

-- variables in scope there are parameters
pub first_below : (p : Program) (f : Func) (v : ℕ) → has (first_ids p f).vars v ≡ true → v < f.params
first_below p f v e = by (nat_lt f.params (length f.vars)) refl e
  where
    by : (b : Bool) → nat_lt f.params (length f.vars) ≡ b → has (range_with_len 0 (if b then f.params else length f.vars)) v ≡ true → v < f.params
    by true q e = let l = range_below 0 f.params v e in omega arith
    by false q e = let l = range_below 0 (length f.vars) v e in grind (arith, nat_tests)

pub first_keys : (p : Program) (f : Func) (v k : ℕ) (ty : Ty) → has (first_ids p f).vars v ≡ true → var_type f v ≡ Some ty → has (keys_of_ty ty) k ≡ true → has (keys_of_parameters f) k ≡ true
first_keys p f v k ty i e m = param_keys f.vars f.params v k (first_below p f v i) (subst (λ o. has (keys_in_type o) k ≡ true) (sym e) m)

pub first_known : (p : Program) (f : Func) → IsKnownScope f (first_ids p f)
first_known p f = record {
  typed = λ v k ty i e m. first_keys p f v k ty i e m;
  ever = λ k e. has_left (keys_of_result f ++ keys_of_parameters f) (map (λ (e : core.Entry). e.key) f.clause) k (has_right (keys_of_result f) (keys_of_parameters f) k e);
  bound = λ k e. not_both false e refl;
  head = λ k e. e;
}
