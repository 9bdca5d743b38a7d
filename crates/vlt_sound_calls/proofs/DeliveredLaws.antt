-- What a call gives goes to its target.
use Rattle.std.proofs.Common.{◌≡◌, ◌⊎◌, ⊎_elim, ℕ, ◌<◌, Bool, true, false, ◌&&◌, not, if◌then◌else◌, List, [], ◌∷◌, ◌++◌, length, Option, Some, None, is_some, refl, sym, ap, ◌∙◌, subst, slice_get}
use Rattle.std.proofs.lemmas.Bool.{cases_Bool}
use Rattle.std.proofs.lemmas.Option.{slice_get_within}
use Rattle.vlt_core.specs.Core.{Ty, int, bool, tracked, owning, guarded, variant, owning_variant, a_var, Func, Program}
use Rattle.vlt_core.specs.Lookups.{var_type, is_owning, is_owning_var, owns}
use Rattle.vlt_core.specs.Types.{same_ty, stands_for, with_keys}
use Rattle.vlt_core.specs.Maps.{HeldMap, wants_absent, becomes_full, CanPass, map_after}
use Rattle.vlt_core.specs.Rows.{row, fill_rows, target_rows}
use Rattle.vlt_core.specs.KindedHeads.{when_some, keys_of_result}
use Rattle.vlt_core.specs.declared.rules.TheConstants as rule
use Rattle.vlt_core.specs.KindedScopes.{Ids, with_binding, with_target, own_key, binding_broken, target_broken}
use Rattle.vlt_core.specs.KindedOperands.{is_owning_some}
use Rattle.vlt_core.specs.KindedCalls.{is_fresh_call, result_misfit, result_broken_by, call_target_broken, with_call_target}
use Rattle.vlt_meaning.specs.World.{Value, objects_in, Object, Frame, World, no_value, not_empty}
use Rattle.vlt_meaning.specs.Found.{or_fault}
use Rattle.vlt_sound_worlds.specs.Members.{In}
use Rattle.vlt_sound_worlds.specs.Look.{look}
use Rattle.vlt_sound_worlds.specs.Placed.{IsPlaced}
use Rattle.vlt_sound_worlds.specs.Roots.{content, home, owner_of}
use Rattle.vlt_sound_worlds.specs.Fits.{Fits}
use Rattle.vlt_sound_worlds.specs.Agrees.{InScope, Handed, Context, scene, Agrees}
use Rattle.vlt_sound_worlds.specs.Typed.{IsTyped}
use Rattle.vlt_sound_worlds.specs.Safe.{Safe, goes_to}
use Rattle.vlt_sound_worlds.proofs.Empty.{both_empty, both_so, unless_so}
use Rattle.vlt_sound_worlds.proofs.Plain.{same_plain, plain_value}
use Rattle.vlt_sound_worlds.proofs.Safe.{found_safe, so_safe}
use Rattle.vlt_sound_worlds.proofs.FrameChanges.{target_scope, agrees_set}
use Rattle.vlt_sound_worlds.proofs.TypeFacts.{var_known, target_known}
use Rattle.vlt_sound_worlds.proofs.Owning.{fill_safe}
use Rattle.vlt_sound_worlds.proofs.Binding.{binding_kept}
use Rattle.vlt_sound_calls.specs.Heads.{HasHead}
use Rattle.vlt_sound_calls.specs.Callee.{IsCall}
use Rattle.vlt_sound_calls.proofs.ResultsLaws.{owning_with, result_same, caller_type_is, same_fits, same_owning, new_entry, binding_scope}
use Rattle.vlt_meaning.specs.Step.{is_fillable, fill, deliver}
use Rattle.vlt_sound_calls.specs.ReturnGiven.{IsGiven}

pub not_so : (b : Bool) → not b ≡ true → b ≡ false
not_so true e = cc
not_so false e = refl

-- what owns nothing need not be handed over
pub let_be : {p : Program} {f : Func} {c : Context} {h : HeldMap} {ids : Ids} {frame : Frame} {os : List Object} (x : Handed) →
    Agrees p f c h ids (x ∷ []) frame os → objects_in x.value ≡ [] →
    (q : Agrees p f c h ids [] frame os) × Fits p (scene c os q.heads) frame.keys x.type x.value
let_be {c = c} {frame = frame} {os = os} x agrees none = (
  record {
    heads = agrees.heads;
    placed =
        subst (λ ns. IsPlaced (content (record { vars = frame.vars; hand = ns ++ []; waits = λ d. (c.waiting d).frame.vars; objects = look os })) home (owner_of (look os)))
        none agrees.placed;
    ranked = agrees.ranked;
    objects = agrees.objects;
    adopted = agrees.adopted;
    keys = agrees.keys;
    vars = agrees.vars;
    fit = agrees.fit;
    handed = tt;
    rest = agrees.rest;
  },
  agrees.handed.0,
)

-- a variant under other keys was one
variant_was : (keys : List ℕ) (ty : Ty) (t : ℕ) (args : List ℕ) → with_keys keys ty ≡ variant t args →
    (before : List ℕ) × (ty ≡ variant t before)
variant_was keys int t args e = cc
variant_was keys bool t args e = cc
variant_was keys (tracked k u others) t args e = cc
variant_was keys (owning S u others) t args e = cc
variant_was keys (guarded k u others) t args e = cc
variant_was keys (variant u others) t args e = (others, ap (λ t. variant t others) (type_of e))
  where
    name : Ty → ℕ
    name (variant t args) = t
    name ty = 0

    type_of : with_keys keys (variant u others) ≡ variant t args → u ≡ t
    type_of e = ap name e
variant_was keys (owning_variant u others) t args e = cc

module _ (p : Program) (f : Func) (c : Context) (h : HeldMap) (ids : Ids) (frame : Frame) (w : World) (g : Func) (keys : List ℕ)
    (call : IsCall p f g ids keys) (head : HasHead p g) (typed : IsTyped p f) (a : Option Value) where
  abbrev Has : Ty → Value → Type 0
  Has ty v = Agrees p f c h ids (record { value = v; type = with_keys keys ty } ∷ []) frame w.objects

  plain_owns : (ty : Ty) (v : Value) → g.result ≡ Some ty → Has ty v → is_owning (with_keys keys ty) ≡ false → objects_in v ≡ []
  plain_owns ty v is now plain =
      plain_value p (scene c w.objects now.heads) frame.keys (with_keys keys ty) v plain
      (λ t args e. let q = variant_was keys ty t args e in head.result_variants t q.0 (is ∙ ap Some q.1))
      now.handed.0

  -- the result for a variable of the same type
  to_target : (v : ℕ) (wt t : Ty) (ids' : Ids) → g.result ≡ Some wt → (b : Value) → a ≡ Some b → Has wt b → var_type f v ≡ Some t →
      same_ty (with_keys keys wt) t ≡ true → ((u : ℕ) → InScope ids' u → (u ≡ v) ⊎ InScope ids u) →
      CanPass (fill_rows f (v ∷ [])) h →
      Safe (goes_to p f c (map_after (fill_rows f (v ∷ [])) h) ids' []) (deliver f (Some v) a frame w)
  unfolding deliver fill
  to_target v wt t ids' result b at now is same scope rows =
      found_safe (goes_to p f c (map_after (fill_rows f (v ∷ [])) h) ids' []) (or_fault no_value a) b w _
      (ap (or_fault no_value) at) (⊎_elim owning plain (cases_Bool (is_owning t)))
    where
      plain : is_owning t ≡ false → Safe (goes_to p f c (map_after (fill_rows f (v ∷ [])) h) ids' []) (fill f v b frame w)
      plain off =
          let owner : is_owning_var f v ≡ false = ap owns is ∙ off in
          let type : with_keys keys wt ≡ t = same_plain (with_keys keys wt) t off same in
          let empty : objects_in b ≡ [] = plain_owns wt b result now (ap is_owning type ∙ off) in
          let after = let_be (record { value = b; type = with_keys keys wt }) now empty in
          let no_rows : fill_rows f (v ∷ []) ≡ [] = rw owner refl in
          subst (λ rs. Safe (goes_to p f c (map_after rs h) ids' []) (fill f v b frame w)) (sym no_rows)
          (so_safe (goes_to p f c h ids' []) (is_fillable f v frame) not_empty None w _
          (ap (λ o. not (o && is_some (frame.vars v))) owner)
          (agrees_set after.0 v t b ids' is off empty (subst (λ q. Fits p (scene c w.objects after.0.heads) frame.keys q b) type after.1) scope))

      owning : is_owning t ≡ true → Safe (goes_to p f c (map_after (fill_rows f (v ∷ [])) h) ids' []) (fill f v b frame w)
      owning on =
          let owner : is_owning_var f v ≡ true = ap owns is ∙ on in
          let own = same_owning (with_keys keys wt) t on same in
          let fills : fill_rows f (v ∷ []) ≡ row (a_var v) wants_absent becomes_full ∷ [] = rw owner refl in
          subst (λ rs. Safe (goes_to p f c (map_after rs h) ids' []) (fill f v b frame w)) (sym fills)
          (fill_safe p f typed.limited w now v t ids' is on own (same_fits (with_keys keys wt) t own same)
          (subst (λ rs. CanPass rs h) fills rows).0 scope)

  key_within : (k : ℕ) → In k (keys_of_result g) → k < length keys
  key_within k i = ⊎_elim
      (λ t.
      let e = new_entry g.clause k t in
      slice_get_within keys k (stands_for keys k)
      (subst (λ k. slice_get keys k ≡ Some (stands_for keys k)) e.is (call.entries e.entry e.among)))
      (λ t. slice_get_within keys k (stands_for keys k) (call.params k t))
      (head.result k i)

  -- where it is for nothing
  let_go : (o : Option Ty) → g.result ≡ o → is_owning_some o ≡ false → IsGiven p f c h ids frame w.objects keys o a →
      Agrees p f c h ids [] frame w.objects
  let_go None is plain given = given.1
  let_go (Some ty) is plain given =
      (let_be (record { value = given.0; type = with_keys keys ty }) given.2 (plain_owns ty given.0 is given.2 (owning_with keys ty ∙ plain))).0

  pub delivered : (target : Option ℕ) → call_target_broken f ids g keys target ≡ [] → CanPass (target_rows f target) h →
      IsGiven p f c h ids frame w.objects keys g.result a →
      Safe (goes_to p f c (map_after (target_rows f target) h) (with_call_target f (Some g) target ids) [])
      (deliver f target a frame w)
  unfolding deliver
  delivered None broken rows given =
      let both =
      both_so (not (is_owning_some g.result)) (not (is_fresh_call g)) (unless_so (not (is_owning_some g.result) && not (is_fresh_call g)) rule.DROPPED_RESULT broken) in
      let_go g.result refl (not_so (is_owning_some g.result) both.0) given
  delivered (Some v) broken rows given =
      let both =
      both_empty (result_broken_by g keys g.result (var_type f v))
      (if is_fresh_call g then binding_broken f ids (own_key f v) v else target_broken f ids v) broken in
      let t = target (is_fresh_call g) both.1 in
      by g.result refl t.0 t.1 (subst (λ o. result_broken_by g keys g.result o ≡ []) t.1 both.0) given
    where
      target : (b : Bool) → (if b then binding_broken f ids (own_key f v) v else target_broken f ids v) ≡ [] →
          (t : Ty) × (var_type f v ≡ Some t)
      target true e = var_known f v (binding_kept f ids (own_key f v) v e).within
      target false e = target_known f ids v e

      scope : (b : Bool) (u : ℕ) → InScope (if b then with_binding f (own_key f v) v ids else with_target f v ids) u →
          (u ≡ v) ⊎ InScope ids u
      scope true u e = binding_scope f (own_key f v) v ids u e
      scope false u e = target_scope f v ids u e

      by : (o : Option Ty) → g.result ≡ o → (t : Ty) → var_type f v ≡ Some t → result_broken_by g keys g.result (Some t) ≡ [] →
          IsGiven p f c h ids frame w.objects keys o a →
          Safe (goes_to p f c (map_after (target_rows f (Some v)) h) (with_call_target f (Some g) (Some v) ids) [])
          (deliver f (Some v) a frame w)
      by None result t is e given = let q = subst (λ o. result_broken_by g keys o (Some t) ≡ []) result e in absurd (none q)
        where
          none : rule.WRONG_TYPE ∷ [] ≡ [] → ⊥
          none e = cc
      by (Some wt) result t is e given =
          let q = subst (λ o. result_broken_by g keys o (Some t) ≡ []) result e in
          let known = caller_type_is keys wt (λ k i. key_within k (rw result i)) in
          let fit = subst (λ o. when_some o (λ w. result_misfit g w t) ≡ []) known q in
          to_target v wt t (with_call_target f (Some g) (Some v) ids) result given.0 given.1 given.2 is (result_same g (with_keys keys wt) t fit)
          (scope (is_fresh_call g)) rows
