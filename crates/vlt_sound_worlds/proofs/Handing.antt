-- Values go from variables to what is handed over, and from there to variables.
use Rattle.std.proofs.Common.{◌≡◌, ◌⊎◌, inl, inr, ⊎_elim, ℕ, true, false, List, [], ◌∷◌, ◌++◌, Option, Some, None, refl, sym, ap, ◌∙◌, subst}
use Rattle.std.proofs.lemmas.Bool.{cases_eq}
use Rattle.std.proofs.lemmas.List.{append-nil}
use Rattle.std.proofs.lemmas.Option.{same_Some}
use Rattle.vlt_core.specs.Core.{Ty, Tok, a_key, a_var, Func, Program}
use Rattle.vlt_core.specs.Lookups.{var_type, is_owning, is_owning_var, owns, key_type}
use Rattle.vlt_core.specs.Maps.{Status, absent, full, HeldMap}
use Rattle.vlt_core.specs.KindedScopes.{Ids}
use Rattle.vlt_meaning.specs.World.{Value, objects_in, Object, Frame}
use Rattle.vlt_meaning.specs.Step as step
use Rattle.vlt_meaning.specs.Step.{set_at}
use Rattle.vlt_sound_worlds.specs.Look.{look}
use Rattle.vlt_sound_worlds.specs.Members.{In}
use Rattle.vlt_sound_worlds.specs.Roots.{Root, in_var, in_hand, in_wait, in_cell, owned_by, content, home}
use Rattle.vlt_sound_worlds.proofs.Members.{in_left}
use Rattle.vlt_sound_worlds.proofs.Placed as placed
use Rattle.vlt_sound_worlds.proofs.Roots.{same_root}
use Rattle.vlt_sound_worlds.specs.Keys.{KeyAgrees}
use Rattle.vlt_sound_worlds.specs.Fits.{Fits}
use Rattle.vlt_sound_worlds.specs.Agrees.{HasVar, InScope, VarsAgree, Handed, values_of, Context, scene, stock, Agrees}
use Rattle.vlt_sound_worlds.proofs.FrameChanges.{set_here, set_other, rest_with_var}
use Rattle.vlt_sound_worlds.proofs.FrameOwners.{ChangesTok}
use Rattle.vlt_sound_worlds.proofs.Leaving.{hand_more, handed_more}

key_is_no_var : {v k : ℕ} → a_key k ≡ a_var v → ⊥
key_is_no_var e = cc

var_same : {v u : ℕ} → a_var v ≡ a_var u → v ≡ u
var_same e = ap number e
  where
    number : Tok → ℕ
    number (a_key k) = k
    number (a_var v) = v

-- a variable gets a value or none; its own token may change with it, and nothing else does
module _ {p : Program} {f : Func} {c : Context} {h : HeldMap} {ids : Ids} {hand : List Handed} {frame : Frame} {os : List Object}
    (agrees : Agrees p f c h ids hand frame os) (v : ℕ) (h' : HeldMap) (s : Status)
    (tok : ChangesTok (a_var v) s h h') where
  keys_stay : (k : ℕ) → KeyAgrees (key_type f k) (h' (a_key k)) frame.depth k (frame.keys k) (look os)
  keys_stay k =
      subst (λ s. KeyAgrees (key_type f k) s frame.depth k (frame.keys k) (look os))
      (sym (tok.others (a_key k) key_is_no_var)) (agrees.keys k)

  vars_change : (a : Option Value) → (is_owning_var f v ≡ false → owned_by a ≡ []) →
      HasVar (is_owning_var f v) s a → VarsAgree f h' (set_at v a frame.vars)
  vars_change a plain has = record {
    plain = λ u e. ⊎_elim
        (λ same. ap owned_by (ap (set_at v a frame.vars) same ∙ set_here v a frame.vars) ∙ plain (ap (is_owning_var f) (sym same) ∙ e))
        (λ other. ap owned_by (set_other v a frame.vars u other) ∙ agrees.vars.plain u e)
        (cases_eq u v);
    full = λ u. ⊎_elim
        (λ same. subst (λ u. HasVar (is_owning_var f u) (h' (a_var u)) (set_at v a frame.vars u)) (sym same)
        (subst (HasVar (is_owning_var f v) (h' (a_var v))) (sym (set_here v a frame.vars)) (subst (λ s. HasVar (is_owning_var f v) s a) (sym tok.here) has)))
        (λ other. subst (HasVar (is_owning_var f u) (h' (a_var u))) (sym (set_other v a frame.vars u other))
        (subst (λ s. HasVar (is_owning_var f u) s (frame.vars u)) (sym (tok.others (a_var u) (λ e. other (var_same e)))) (agrees.vars.full u)))
        (cases_eq u v);
  }

  -- an owning variable's value is handed over
  pub agrees_moved : (a : Value) (ty : Ty) → frame.vars v ≡ Some a → var_type f v ≡ Some ty →
      is_owning ty ≡ true → InScope ids v → s ≡ absent →
      Agrees p f c h' ids (hand ++ record { value = a; type = ty } ∷ []) (step.with_var v None frame) os
  agrees_moved a ty at is owning scoped gone = record {
    heads = agrees.heads;
    placed = placed.shifted home same_root agrees.placed (in_var v) in_hand (objects_in a) [] (values_of hand)
        (record {
          apart = λ e. cc;
          was = ap owned_by at ∙ sym (append-nil (objects_in a));
          left = ap owned_by (set_here v None frame.vars);
          before = refl;
          now = hand_more hand (record { value = a; type = ty });
          others = same_content;
        })
        (record { those = λ n i. (agrees.placed.here (in_var v) n (subst (λ o. In n (owned_by o)) (sym at) i)).1; others = λ n i. refl });
    ranked = agrees.ranked;
    objects = agrees.objects;
    adopted = agrees.adopted;
    keys = keys_stay;
    vars = vars_change None (λ e. refl) (subst (λ s. HasVar (is_owning_var f v) s None) (sym gone) (λ e. refl));
    fit = record {
      fit = λ u t b in_scope type there. ⊎_elim
          (λ same. absurd (none_some b (sym (set_here v None frame.vars) ∙ (ap (set_at v None frame.vars) (sym same) ∙ there))))
          (λ other. agrees.fit.fit u t b in_scope type (sym (set_other v None frame.vars u other) ∙ there))
          (cases_eq u v);
      there = λ u t in_scope type plain. ⊎_elim
          (λ same. absurd (clash (sym owning ∙ (ap is_owning (same_Some ty t (sym is ∙ (ap (var_type f) (sym same) ∙ type))) ∙ plain))))
          (λ other. let r = agrees.fit.there u t in_scope type plain in (r.0, set_other v None frame.vars u other ∙ r.1))
          (cases_eq u v);
    };
    handed =
        handed_more p (scene c os agrees.heads) frame.keys hand (record { value = a; type = ty }) agrees.handed
        (agrees.fit.fit v ty a scoped is at);
    rest = rest_with_var v _ agrees.rest;
  }
    where
      none_some : (b : Value) → ◌≡◌ {A = Option Value} None (Some b) → ⊥
      none_some b e = cc

      clash : true ≡ false → ⊥
      clash e = cc

      same_content : (P : Root) → (P ≡ in_var v → ⊥) → (P ≡ in_hand → ⊥) →
          content
          (stock c (hand ++ record { value = a; type = ty } ∷ []) (step.with_var v None frame) os) P ≡ content
          (stock c hand frame os) P
      same_content (in_var u) x y = ap owned_by (set_other v None frame.vars u (λ e. x (ap in_var e)))
      same_content in_hand x y = absurd (y refl)
      same_content (in_wait d u) x y = refl
      same_content (in_cell n i) x y = refl

-- ---- to a variable

module _ {p : Program} {f : Func} {c : Context} {h : HeldMap} {ids : Ids} {x : Handed} {hand : List Handed} {frame : Frame} {os : List Object}
    (agrees : Agrees p f c h ids (x ∷ hand) frame os) (v : ℕ) (h' : HeldMap)
    (tok : ChangesTok (a_var v) full h h') where
  -- what was handed over first fills an owning variable that is empty
  pub agrees_filled : (ty : Ty) (ids' : Ids) → frame.vars v ≡ None → var_type f v ≡ Some ty → is_owning ty ≡ true →
      Fits p (scene c os agrees.heads) frame.keys ty x.value → ((u : ℕ) → InScope ids' u → (u ≡ v) ⊎ InScope ids u) →
      Agrees p f c h' ids' hand (step.with_var v (Some x.value) frame) os
  agrees_filled ty ids' empty is owning fits scope = record {
    heads = agrees.heads;
    placed = placed.shifted home same_root agrees.placed in_hand (in_var v) (objects_in x.value) (values_of hand) []
        (record {
          apart = λ e. cc;
          was = refl;
          left = refl;
          before = ap owned_by empty;
          now = ap owned_by (set_here v (Some x.value) frame.vars);
          others = same_content;
        })
        (record { those = λ n i. (agrees.placed.here in_hand n (in_left n (objects_in x.value) (values_of hand) i)).1; others = λ n i. refl });
    ranked = agrees.ranked;
    objects = agrees.objects;
    adopted = agrees.adopted;
    keys = keys_stay agrees v h' full tok;
    vars =
        vars_change agrees v h' full tok (Some x.value) (λ e. absurd (clash (sym (ap owns is ∙ owning) ∙ e)))
        (x.value, refl);
    fit = record {
      fit = λ u t b in_scope type there. ⊎_elim
          (λ same.
          let value : x.value ≡ b =
          same_Some x.value b
          (sym (set_here v (Some x.value) frame.vars) ∙ (ap (set_at v (Some x.value) frame.vars) (sym same) ∙ there)) in
          let types : ty ≡ t = same_Some ty t (sym is ∙ (ap (var_type f) (sym same) ∙ type)) in
          subst (λ b. Fits p (scene c os agrees.heads) frame.keys t b) value
          (subst (λ t. Fits p (scene c os agrees.heads) frame.keys t x.value) types fits))
          (λ other. agrees.fit.fit u t b (was u other (scope u in_scope)) type (sym (set_other v (Some x.value) frame.vars u other) ∙ there))
          (cases_eq u v);
      there = λ u t in_scope type plain. ⊎_elim
          (λ same. (x.value, ap (set_at v (Some x.value) frame.vars) same ∙ set_here v (Some x.value) frame.vars))
          (λ other. let r = agrees.fit.there u t (was u other (scope u in_scope)) type plain in (r.0, set_other v (Some x.value) frame.vars u other ∙ r.1))
          (cases_eq u v);
    };
    handed = agrees.handed.1;
    rest = rest_with_var v _ agrees.rest;
  }
    where
      clash : true ≡ false → ⊥
      clash e = cc

      was : (u : ℕ) → (u ≡ v → ⊥) → (u ≡ v) ⊎ InScope ids u → InScope ids u
      was u other (inl same) = absurd (other same)
      was u other (inr scoped) = scoped

      same_content : (P : Root) → (P ≡ in_hand → ⊥) → (P ≡ in_var v → ⊥) →
          content (stock c hand (step.with_var v (Some x.value) frame) os) P ≡ content (stock c (x ∷ hand) frame os) P
      same_content (in_var u) y z = ap owned_by (set_other v (Some x.value) frame.vars u (λ e. z (ap in_var e)))
      same_content in_hand y z = absurd (y refl)
      same_content (in_wait d u) y z = refl
      same_content (in_cell n i) y z = refl
