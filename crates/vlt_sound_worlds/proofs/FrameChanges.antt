-- What each kind of change keeps of the fact on a running function.
use Rattle.std.proofs.Common.{◌≡◌, ◌⊎◌, inl, inr, ⊎_elim, ℕ, ◌<◌, ◌==◌, nat_lt, Bool, true, false, ◌||◌, if◌then◌else◌, List, [], ◌∷◌, length, Option, Some, None, refl, sym, ap, ◌∙◌, subst}
use Rattle.std.proofs.lemmas.Bool.{cases_eq, eqb-true, eq-eqb, ne_eqb}
use Rattle.std.proofs.lemmas.Option.{same_Some}
use Rattle.vlt_core.specs.Core.{Ty, a_var, Func, Program}
use Rattle.vlt_core.specs.Lookups.{var_type, is_owning, is_owning_var, owns}
use Rattle.vlt_core.specs.Maps.{Status, absent, held, lent, full, HeldMap}
use Rattle.vlt_core.specs.KindedHeads.{has}
use Rattle.vlt_core.specs.KindedScopes.{Ids, with_var, with_binding, with_target}
use Rattle.vlt_meaning.specs.World.{Value, objects_in, Object, Frame}
use Rattle.vlt_meaning.specs.Step.{set_at}
use Rattle.vlt_meaning.specs.Step as step
use Rattle.vlt_sound_worlds.specs.Look.{look, IsLive}
use Rattle.vlt_sound_worlds.proofs.Ranks.{ranked_same}
use Rattle.vlt_sound_worlds.specs.Roots.{Root, in_var, in_hand, in_wait, in_cell, owned_by, cell_of, content, home}
use Rattle.vlt_sound_worlds.proofs.Placed as placed
use Rattle.vlt_sound_worlds.proofs.Roots.{homes, same_root}
use Rattle.vlt_sound_worlds.specs.Keys.{IsUnder, IsSameObject}
use Rattle.vlt_sound_worlds.proofs.KeysLaws.{key_kept, under_all}
use Rattle.vlt_sound_worlds.specs.Scene.{Focus, Scene, Grows}
use Rattle.vlt_sound_worlds.proofs.Scene.{Stays, grows}
use Rattle.vlt_sound_worlds.specs.Fits.{Fits}
use Rattle.vlt_sound_worlds.specs.Agrees.{ObjectFits, HasVar, InScope, Handed, Context, FociAgree, RestAgrees, scene, stock, Agrees}
use Rattle.vlt_sound_worlds.proofs.Kept.{KeepsOwned, var_states, rest_kept, hand_states, vars_kept, handed_kept}

-- ---- maps from numbers

pub set_here : {A : Type 0} (v : ℕ) (a : Option A) (old : ℕ → Option A) → set_at v a old v ≡ a
set_here v a old = ap (λ b. if b then a else old v) (eq-eqb v v refl)

pub set_other : {A : Type 0} (v : ℕ) (a : Option A) (old : ℕ → Option A) (u : ℕ) → (u ≡ v → ⊥) →
    set_at v a old u ≡ old u
set_other v a old u other = ap (λ b. if b then a else old u) (ne_eqb u v other)

-- ---- scopes

any_first : (n m : ℕ) (ns : List ℕ) → has (m ∷ ns) n ≡ true → (n ≡ m) ⊎ (has ns n ≡ true)
any_first n m ns e = by (m == n) refl e
  where
    by : (b : Bool) → (m == n) ≡ b → (b || has ns n) ≡ true → (n ≡ m) ⊎ (has ns n ≡ true)
    by true q e = inl (sym (eqb-true m n q))
    by false q e = inr e

-- a variable that is bound is the only new one
var_bound : (f : Func) (v : ℕ) (ids : Ids) (u : ℕ) → InScope (with_var f v ids) u → (u ≡ v) ⊎ InScope ids u
var_bound f v ids u e = by (nat_lt v (length f.vars)) e
  where
    by : (b : Bool) →
        has (if b then record ids { vars = v ∷ ids.vars; vars_ever = v ∷ ids.vars_ever } else ids).vars u ≡ true →
        (u ≡ v) ⊎ InScope ids u
    by true e = any_first u v ids.vars e
    by false e = inr e

pub target_scope : (f : Func) (v : ℕ) (ids : Ids) (u : ℕ) → InScope (with_target f v ids) u → (u ≡ v) ⊎ InScope ids u
target_scope f v ids u e = by (has ids.vars v) e
  where
    by : (b : Bool) → InScope (if b then ids else with_binding f None v ids) u → (u ≡ v) ⊎ InScope ids u
    by true e = inr e
    by false e = var_bound f v ids u e

-- ---- the same map, where rows change nothing

pub agrees_map : {p : Program} {f : Func} {c : Context} {h k : HeldMap} {ids : Ids} {hand : List Handed} {frame : Frame} {os : List Object} →
    h ≡ k → Agrees p f c h ids hand frame os → Agrees p f c k ids hand frame os
agrees_map {p} {f} {c} {h} {k} {ids} {hand} {frame} {os} e agrees =
    subst (λ h. Agrees p f c h ids hand frame os) e agrees

-- ---- what stands around says nothing of the function's own variables

pub rest_with_var : {p : Program} {c : Context} {s : Scene} {frame : Frame} (v : ℕ) (a : Option Value) →
    RestAgrees p c s frame → RestAgrees p c s (step.with_var v a frame)
rest_with_var v a rest = record {
  depth = rest.depth;
  within = rest.within;
  named = rest.named;
  bounded = rest.bounded;
  focused = rest.focused;
  pinned = rest.pinned;
  waits = rest.waits;
}

-- ---- a variable that owns nothing gets a value

module _ {p : Program} {f : Func} {c : Context} {h : HeldMap} {ids : Ids} {hand : List Handed} {frame : Frame} {os : List Object}
    (agrees : Agrees p f c h ids hand frame os) where
  -- the status of an owning variable's token says nothing of another variable's value
  pub var_filled : (v : ℕ) (a : Value) → is_owning_var f v ≡ false → (s : Status) →
      HasVar (is_owning_var f v) s (frame.vars v) → HasVar (is_owning_var f v) s (Some a)
  var_filled v a plain absent has = λ e. absurd (clash (sym plain ∙ e))
    where
      clash : false ≡ true → ⊥
      clash e = cc
  var_filled v a plain full has = (a, refl)
  var_filled v a plain (held s) has = has
  var_filled v a plain (lent s) has = has

  pub agrees_set : (v : ℕ) (ty : Ty) (a : Value) (ids' : Ids) → var_type f v ≡ Some ty → is_owning ty ≡ false →
      objects_in a ≡ [] →
      Fits p (scene c os agrees.heads) frame.keys ty a → ((u : ℕ) → InScope ids' u → (u ≡ v) ⊎ InScope ids u) →
      Agrees p f c h ids' hand (step.with_var v (Some a) frame) os
  agrees_set v ty a ids' is plain none fit scope = record {
    heads = agrees.heads;
    placed = placed.kept home same_root agrees.placed same_content (λ n o. refl) (λ n o. refl) homes;
    ranked = agrees.ranked;
    objects = agrees.objects;
    adopted = agrees.adopted;
    keys = agrees.keys;
    vars = record {
      plain = λ u e. ⊎_elim
          (λ same. ap owned_by (ap (set_at v (Some a) frame.vars) same ∙ set_here v (Some a) frame.vars) ∙ none)
          (λ other. ap owned_by (set_other v (Some a) frame.vars u other) ∙ agrees.vars.plain u e)
          (cases_eq u v);
      full = λ u. ⊎_elim
          (λ same. subst (λ u. HasVar (is_owning_var f u) (h (a_var u)) (set_at v (Some a) frame.vars u)) (sym same)
          (subst (HasVar (is_owning_var f v) (h (a_var v))) (sym (set_here v (Some a) frame.vars)) (var_filled v a owns_not (h (a_var v)) (agrees.vars.full v))))
          (λ other. subst (HasVar (is_owning_var f u) (h (a_var u))) (sym (set_other v (Some a) frame.vars u other)) (agrees.vars.full u))
          (cases_eq u v);
    };
    fit = record {
      fit = λ u t b scoped type at. ⊎_elim
          (λ same.
          let value : a ≡ b =
          same_Some a b
          (sym (set_here v (Some a) frame.vars) ∙ (ap (set_at v (Some a) frame.vars) (sym same) ∙ at)) in
          let types : ty ≡ t = same_Some ty t (sym is ∙ (ap (var_type f) (sym same) ∙ type)) in
          subst (λ b. Fits p (scene c os agrees.heads) frame.keys t b) value
          (subst (λ t. Fits p (scene c os agrees.heads) frame.keys t a) types fit))
          (λ other. agrees.fit.fit u t b (was u other (scope u scoped)) type (sym (set_other v (Some a) frame.vars u other) ∙ at))
          (cases_eq u v);
      there = λ u t scoped type o. ⊎_elim
          (λ same. (a, ap (set_at v (Some a) frame.vars) same ∙ set_here v (Some a) frame.vars))
          (λ other. let r = agrees.fit.there u t (was u other (scope u scoped)) type o in (r.0, set_other v (Some a) frame.vars u other ∙ r.1))
          (cases_eq u v);
    };
    handed = agrees.handed;
    rest = rest_with_var v _ agrees.rest;
  }
    where
      owns_not : is_owning_var f v ≡ false
      owns_not = ap owns is ∙ plain

      was : (u : ℕ) → (u ≡ v → ⊥) → (u ≡ v) ⊎ InScope ids u → InScope ids u
      was u other (inl same) = absurd (other same)
      was u other (inr scoped) = scoped

      same_content : (P : Root) →
          content (stock c hand (step.with_var v (Some a) frame) os) P ≡ content (stock c hand frame os) P
      same_content (in_var u) = ⊎_elim
          (λ same. ap owned_by (ap (set_at v (Some a) frame.vars) same ∙ set_here v (Some a) frame.vars) ∙ (none ∙ sym (ap (λ u. owned_by (frame.vars u)) same ∙ agrees.vars.plain v owns_not)))
          (λ other. ap owned_by (set_other v (Some a) frame.vars u other))
          (cases_eq u v)
      same_content in_hand = refl
      same_content (in_wait d u) = refl
      same_content (in_cell n i) = refl

  -- ---- objects change in nothing but cells that own nothing

  stays_same : (os' : List Object) → ((m : ℕ) → IsSameObject (look os m) (look os' m)) → length os' ≡ length os →
      Stays (scene c os agrees.heads) (scene c os' agrees.heads)
  stays_same os' same long = record {
    types = record { long = λ n lt. subst (λ k. n < k) (sym long) lt; type = λ n lt. (same n).type };
    heads = λ n lt. refl;
    ended = λ g lt e. (same g).owner ∙ e;
    adopted = λ g n e. inr (inl ((same n).owner ∙ e));
    foci = λ g n i. inr (inr i);
  }

  pub agrees_cells : (os' : List Object) → ((m : ℕ) → IsSameObject (look os m) (look os' m)) → length os' ≡ length os →
      ((m i : ℕ) → cell_of (look os' m) i ≡ cell_of (look os m) i) →
      (Grows (scene c os agrees.heads) (scene c os' agrees.heads) → KeepsOwned (look os) (look os') → (m : ℕ) → IsLive (look os) m → ObjectFits p (scene c os' agrees.heads) m) →
      Agrees p f c h ids hand frame os'
  agrees_cells os' same long cells fits = record {
    heads = agrees.heads;
    placed =
        placed.kept home same_root agrees.placed same_content (λ n o. (same n).owner) (λ n o. (same n).owner) homes;
    ranked = ranked_same (λ m. (same m).owner) agrees.ranked;
    objects = λ m live. fits growing keeping m (λ e. live ((same m).owner ∙ e));
    adopted = λ n g e.
        let was = agrees.adopted n g (sym (same n).owner ∙ e) in
        record { released = rw ((same n).type, (same n).state) was.released; droppable = rw (same n).type was.droppable };
    keys = λ k. key_kept refl refl (under_all frame.depth k same) (agrees.keys k);
    vars = agrees.vars;
    fit = vars_kept p growing f ids frame.keys frame.vars (var_states agrees keeping) agrees.fit;
    handed = handed_kept p growing frame.keys hand (hand_states agrees keeping) agrees.handed;
    rest = rest_kept agrees os' agrees.heads growing keeping (record {
      bounded = λ n d k u. agrees.rest.bounded n d k (subst (IsUnder d k) (same n).owner u);
      focused = foci c.foci agrees.rest.focused;
      under = λ d k lt. under_all d k same;
    });
  }
    where
      growing : Grows (scene c os agrees.heads) (scene c os' agrees.heads)
      growing = grows (scene c os agrees.heads) (scene c os' agrees.heads) (stays_same os' same long)

      keeping : KeepsOwned (look os) (look os')
      keeping = record { state = λ n o. (same n).state; type = λ n o. (same n).type }

      foci : (fs : List Focus) → FociAgree (look os) fs → FociAgree (look os') fs
      foci [] a = tt
      foci (q ∷ qs) a = ((same q.guard).owner ∙ a.0, foci qs a.1)

      same_content : (P : Root) → content (stock c hand frame os') P ≡ content (stock c hand frame os) P
      same_content (in_var u) = refl
      same_content in_hand = refl
      same_content (in_wait d u) = refl
      same_content (in_cell n i) = cells n i
