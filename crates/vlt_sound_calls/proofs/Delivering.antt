-- The caller goes on with what its callee gave.
use Rattle.std.proofs.Common.{◌≡◌, ◌⊎◌, ⊎_elim, ℕ, ◌<◌, Bool, true, false, ◌&&◌, not, if◌then◌else◌, List, [], ◌∷◌, length, Option, Some, None, is_some, refl, sym, ap, ◌∙◌, subst, slice_get}
use Rattle.std.proofs.lemmas.Bool.{cases_Bool}
use Rattle.std.proofs.lemmas.List.{append-nil}
use Rattle.std.proofs.lemmas.Option.{slice_get_within}
use Rattle.vlt_core.specs.Core.{Ty, a_var, Func, Program}
use Rattle.vlt_core.specs.Lookups.{var_type, is_owning, is_owning_var, owns, is_held_after}
use Rattle.vlt_core.specs.Types.{same_ty, stands_for, with_keys}
use Rattle.vlt_core.specs.Maps.{HeldMap, wants_absent, becomes_full, CanPass, map_after}
use Rattle.vlt_core.specs.Rows.{row, clause_rows, fill_rows, target_rows}
use Rattle.vlt_core.specs.KindedHeads.{has, when_some, new_keys, keys_of_parameters, keys_of_result}
use Rattle.vlt_core.specs.declared.rules.TheConstants as rule
use Rattle.vlt_core.specs.KindedScopes.{Ids, with_binding, with_target, own_key, binding_broken, target_broken}
use Rattle.vlt_core.specs.KindedOperands.{is_owning_some}
use Rattle.vlt_core.specs.KindedCalls.{is_fresh_call, result_misfit, result_broken_by, call_target_broken, with_call_target}
use Rattle.vlt_meaning.specs.World.{Value, objects_in, Frame, World, no_value, not_empty}
use Rattle.vlt_meaning.specs.Found.{or_fault}
use Rattle.vlt_meaning.specs.Step.{leaves, with_objects, is_fillable, fill, deliver}
use Rattle.vlt_meaning.specs.Calls.{with_names, back_in}
use Rattle.vlt_sound_worlds.specs.Members.{In}
use Rattle.vlt_sound_worlds.specs.Roots.{owned_by}
use Rattle.vlt_sound_worlds.specs.Fits.{Fits}
use Rattle.vlt_sound_worlds.proofs.Fits.{fits_named, fits_before}
use Rattle.vlt_sound_worlds.specs.Agrees.{InScope, Handed, Context, scene, Agrees}
use Rattle.vlt_sound_worlds.specs.Typed.{IsTyped}
use Rattle.vlt_sound_worlds.specs.Safe.{Safe, goes_to}
use Rattle.vlt_sound_worlds.proofs.Empty.{both_empty, both_so, unless_so}
use Rattle.vlt_sound_worlds.proofs.Plain.{same_plain, plain_value}
use Rattle.vlt_sound_worlds.proofs.Safe.{found_safe, so_safe}
use Rattle.vlt_sound_worlds.proofs.FrameChanges.{target_scope, agrees_set}
use Rattle.vlt_sound_worlds.proofs.TypeFacts.{var_known, target_known}
use Rattle.vlt_sound_worlds.proofs.Owning.{fill_safe}
use Rattle.vlt_sound_worlds.specs.Scoped.{IsScoped}
use Rattle.vlt_sound_worlds.proofs.Binding.{binding_kept}
use Rattle.vlt_sound_calls.specs.Returned.{IsEntered, FitsResult, Returned}
use Rattle.vlt_sound_calls.specs.Heads.{HasHead}
use Rattle.vlt_sound_calls.specs.Callee.{IsCall, callee_context}
use Rattle.vlt_sound_calls.specs.Fresh.{IsFreshCall}
use Rattle.vlt_sound_calls.proofs.DeliveredLaws.{not_so, let_be}
use Rattle.vlt_sound_calls.proofs.Pairs.{entry_number, filtered_among}
use Rattle.vlt_sound_calls.proofs.ResultsLaws.{owning_with, result_same, caller_type_is, same_fits, same_owning, new_is_after, new_entry, binding_scope}
use Rattle.vlt_sound_calls.proofs.Back.{names_frame, back_names, back_objects, back_frame, back_map, callee_name, lasting, is_kept, named_back, keep_scoped, agrees_again}

module _ {p : Program} {f : Func} {c : Context} {h : HeldMap} {ids : Ids} {hand : List Handed} {frame : Frame} (w0 : World)
    (agrees : Agrees p f c h ids hand frame w0.objects) (g : Func) (keys : List ℕ) (call : IsCall p f g ids keys)
    (new : IsFreshCall f c g ids keys) (head : HasHead p g)
    (typed : IsTyped p f) (entered : IsEntered p f c) (scoped : IsScoped f c ids)
    (pass : CanPass (clause_rows p f keys g.clause) h) {a : Option Value} {ns : List ℕ} (w : World)
    (left : Returned p g (callee_context f h ids frame c g keys) a ns w) where
  abbrev frame' : Frame
  frame' = back_frame agrees g keys call new head typed entered scoped pass left

  abbrev map' : HeldMap
  map' = back_map agrees g keys call new head typed entered scoped pass left

  abbrev w' : World
  w' = with_objects w (back_objects agrees g keys call new head typed entered scoped pass left)

  -- a key of the result names for the caller what it does for the callee
  name_back : (k : ℕ) → In k (keys_of_result g) → frame'.keys (stands_for keys k) ≡ left.names k
  name_back k i = ⊎_elim fresh param (head.result k i)
    where
      fresh : has (new_keys g) k ≡ true → frame'.keys (stands_for keys k) ≡ left.names k
      fresh t =
          let e = new_entry g.clause k t in
          let among = filtered_among is_held_after g.clause e.entry e.among (new_is_after e.entry e.new) in
          let n = entry_number p g _ left.names _ _ ns left.kept e.entry among in
          subst (λ k. frame'.keys (stands_for keys k) ≡ left.names k) e.is
          (named_back agrees g keys call new head typed entered scoped pass left e.entry n.0 n.1 ∙
          sym (is_kept agrees g keys call new head typed entered scoped pass left e.entry n.0 n.1).named)

      param : has (keys_of_parameters g) k ≡ true → frame'.keys (stands_for keys k) ≡ left.names k
      param t =
          keep_scoped agrees g keys call new head typed entered scoped pass left (stands_for keys k) (call.scoped k t) ∙
          sym (left.named k (lasting agrees g keys call new head typed entered scoped pass left k t) ∙ callee_name agrees g keys call new head typed entered scoped pass left k t)

  pub record Given (ty : Ty) : Type 0 where
    pub value : Value
    pub is : a ≡ Some value
    pub fits : Fits p (scene c w.objects left.agrees.heads) frame'.keys (with_keys keys ty) value

  given : (ty : Ty) → g.result ≡ Some ty → Given ty
  given ty is =
      let r = subst (λ o. FitsResult p (scene c w.objects left.agrees.heads) left.names o a) is left.value in
      record {
        value = r.0;
        is = r.1;
        fits =
            fits_before p (scene c w.objects left.agrees.heads) frame'.keys keys ty r.0
            (fits_named p (scene c w.objects left.agrees.heads) left.names (λ k. frame'.keys (stands_for keys k)) ty r.0
            (λ k i. name_back k (rw is i)) r.2);
      }

  plain_given : (ty : Ty) → g.result ≡ Some ty → is_owning ty ≡ false → owned_by a ≡ []
  plain_given ty is plain =
      let r = subst (λ o. FitsResult p (scene c w.objects left.agrees.heads) left.names o a) is left.value in
      ap owned_by r.1 ∙
      plain_value p (scene c w.objects left.agrees.heads) left.names ty r.0 plain
      (λ t args e. head.result_variants t args (is ∙ ap Some e)) r.2

  none_given : (o : Option Ty) → g.result ≡ o → is_owning_some o ≡ false → owned_by a ≡ []
  none_given None is plain =
      ap owned_by (subst (λ o. FitsResult p (scene c w.objects left.agrees.heads) left.names o a) is left.value)
  none_given (Some ty) is plain = plain_given ty is plain

  -- where nothing is handed over
  nothing_left : owned_by a ≡ [] → Agrees p f c map' ids [] frame' w'.objects
  nothing_left none =
      agrees_again agrees g keys call new head typed entered scoped pass left [] (sym (left.owns ∙ none)) tt

  -- where the result is
  with_result : (ty : Ty) → (b : Given ty) →
      Agrees p f c map' ids (record { value = b.value; type = with_keys keys ty } ∷ []) frame' w'.objects
  with_result ty b =
      agrees_again agrees g keys call new head typed entered scoped pass left
      (record { value = b.value; type = with_keys keys ty } ∷ [])
      (append-nil (objects_in b.value) ∙ (sym (ap owned_by b.is) ∙ sym left.owns)) (b.fits, tt)

  -- the callee's result for a variable of the same type
  to_target : (v : ℕ) (w t : Ty) (ids' : Ids) → g.result ≡ Some w → var_type f v ≡ Some t →
      same_ty (with_keys keys w) t ≡ true → ((u : ℕ) → InScope ids' u → (u ≡ v) ⊎ InScope ids u) →
      CanPass (fill_rows f (v ∷ [])) map' →
      Safe (goes_to p f c (map_after (fill_rows f (v ∷ [])) map') ids' []) (deliver f (Some v) a frame' w')
  unfolding deliver fill
  to_target v wt t ids' result is same scope rows =
      let b = given wt result in
      found_safe (goes_to p f c (map_after (fill_rows f (v ∷ [])) map') ids' []) (or_fault no_value a) b.value w' _
      (ap (or_fault no_value) b.is) (⊎_elim (owning b) (plain b) (cases_Bool (is_owning t)))
    where
      plain : (b : Given wt) → is_owning t ≡ false →
          Safe (goes_to p f c (map_after (fill_rows f (v ∷ [])) map') ids' []) (fill f v b.value frame' w')
      plain b off =
          let owner : is_owning_var f v ≡ false = ap owns is ∙ off in
          let type : with_keys keys wt ≡ t = same_plain (with_keys keys wt) t off same in
          let wt_plain : is_owning wt ≡ false = sym (owning_with keys wt) ∙ (ap is_owning type ∙ off) in
          let none = plain_given wt result wt_plain in
          let empty : objects_in b.value ≡ [] = sym (ap owned_by b.is) ∙ none in
          let now = let_be (record { value = b.value; type = with_keys keys wt }) (with_result wt b) empty in
          let no_rows : fill_rows f (v ∷ []) ≡ [] = rw owner refl in
          subst (λ rs. Safe (goes_to p f c (map_after rs map') ids' []) (fill f v b.value frame' w')) (sym no_rows)
          (so_safe (goes_to p f c map' ids' []) (is_fillable f v frame') not_empty None w' _
          (ap (λ o. not (o && is_some (frame'.vars v))) owner)
          (agrees_set now.0 v t b.value ids' is off empty (subst (λ q. Fits p (scene c w'.objects now.0.heads) frame'.keys q b.value) type now.1) scope))

      owning : (b : Given wt) → is_owning t ≡ true →
          Safe (goes_to p f c (map_after (fill_rows f (v ∷ [])) map') ids' []) (fill f v b.value frame' w')
      owning b on =
          let owner : is_owning_var f v ≡ true = ap owns is ∙ on in
          let own = same_owning (with_keys keys wt) t on same in
          let fills : fill_rows f (v ∷ []) ≡ row (a_var v) wants_absent becomes_full ∷ [] = rw owner refl in
          let now = with_result wt b in
          subst (λ rs. Safe (goes_to p f c (map_after rs map') ids' []) (fill f v b.value frame' w')) (sym fills)
          (fill_safe p f typed.limited w' now v t ids' is on own (same_fits (with_keys keys wt) t own same)
          (subst (λ rs. CanPass rs map') fills rows).0 scope)

  key_within : (k : ℕ) → In k (keys_of_result g) → k < length keys
  key_within k i = ⊎_elim
      (λ t.
      let e = new_entry g.clause k t in
      slice_get_within keys k (stands_for keys k)
      (subst (λ k. slice_get keys k ≡ Some (stands_for keys k)) e.is (call.entries e.entry e.among)))
      (λ t. slice_get_within keys k (stands_for keys k) (call.params k t))
      (head.result k i)

  deliver_here : (target : Option ℕ) → call_target_broken f ids g keys target ≡ [] → CanPass (target_rows f target) map' →
      Safe (goes_to p f c (map_after (target_rows f target) map') (with_call_target f (Some g) target ids) [])
      (deliver f target a frame' w')
  unfolding deliver
  deliver_here None broken rows =
      let both =
      both_so (not (is_owning_some g.result)) (not (is_fresh_call g)) (unless_so (not (is_owning_some g.result) && not (is_fresh_call g)) rule.DROPPED_RESULT broken) in
      nothing_left (none_given g.result refl (not_so (is_owning_some g.result) both.0))
  deliver_here (Some v) broken rows =
      let both =
      both_empty (result_broken_by g keys g.result (var_type f v))
      (if is_fresh_call g then binding_broken f ids (own_key f v) v else target_broken f ids v) broken in
      let t = target (is_fresh_call g) both.1 in
      by g.result refl t.0 t.1 (subst (λ o. result_broken_by g keys g.result o ≡ []) t.1 both.0)
    where
      target : (b : Bool) → (if b then binding_broken f ids (own_key f v) v else target_broken f ids v) ≡ [] →
          (t : Ty) × (var_type f v ≡ Some t)
      target true e = var_known f v (binding_kept f ids (own_key f v) v e).within
      target false e = target_known f ids v e

      scope : (b : Bool) (u : ℕ) → InScope (if b then with_binding f (own_key f v) v ids else with_target f v ids) u →
          (u ≡ v) ⊎ InScope ids u
      scope true u e = binding_scope f (own_key f v) v ids u e
      scope false u e = target_scope f v ids u e

      by : (o : Option Ty) → g.result ≡ o → (t : Ty) → var_type f v ≡ Some t → result_broken_by g keys g.result (Some t) ≡ [] →
          Safe (goes_to p f c (map_after (target_rows f (Some v)) map') (with_call_target f (Some g) (Some v) ids) [])
          (deliver f (Some v) a frame' w')
      by None result t is e = let q = subst (λ o. result_broken_by g keys o (Some t) ≡ []) result e in absurd (none q)
        where
          none : rule.WRONG_TYPE ∷ [] ≡ [] → ⊥
          none e = cc
      by (Some wt) result t is e =
          let q = subst (λ o. result_broken_by g keys o (Some t) ≡ []) result e in
          let known = caller_type_is keys wt (λ k i. key_within k (rw result i)) in
          let fit = subst (λ o. when_some o (λ w. result_misfit g w t) ≡ []) known q in
          to_target v wt t (with_call_target f (Some g) (Some v) ids) result is (result_same g (with_keys keys wt) t fit)
          (scope (is_fresh_call g)) rows

  pub deliver_safe : (target : Option ℕ) → call_target_broken f ids g keys target ≡ [] → CanPass (target_rows f target) map' →
      Safe (goes_to p f c (map_after (target_rows f target) map') (with_call_target f (Some g) target ids) [])
      (deliver f target a (with_names (back_names agrees g keys call new head typed entered scoped pass left) frame) w')
  deliver_safe target broken rows =
      subst (λ fr. Safe (goes_to p f c (map_after (target_rows f target) map') (with_call_target f (Some g) target ids) [])
      (deliver f target a fr w'))
      (sym (names_frame (back_names agrees g keys call new head typed entered scoped pass left) frame))
      (deliver_here target broken rows)

  -- where a callee's body has left
  pub left_safe : (target : Option ℕ) → call_target_broken f ids g keys target ≡ [] → CanPass (target_rows f target) map' →
      Safe (goes_to p f c (map_after (target_rows f target) map') (with_call_target f (Some g) target ids) [])
      (back_in f target keys g frame (leaves a ns w))
  unfolding back_in
  left_safe target broken rows = deliver_safe target broken rows
