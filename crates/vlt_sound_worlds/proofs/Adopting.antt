-- Adoption ends in no fault, and keeps the fact.
use Rattle.std.proofs.Common.{◌≡◌, ℕ, true, not, List, [], ◌∷◌, ◌++◌, Some, Ok, refl, sym, ap, ◌∙◌, subst}
use Rattle.vlt_core.specs.Core.{States, tracked, a_key, Func}
use Rattle.vlt_core.specs.Lookups.{var_type, tracked_in}
use Rattle.vlt_core.specs.Maps.{Status, absent, kind_of, HeldMap, wants_in, becomes_absent, Row, row_passed, CanPass, map_after}
use Rattle.vlt_core.specs.Rows.{simple_rows, row}
use Rattle.vlt_core.specs.KindedScopes.{Ids, with_target, target_broken}
use Rattle.vlt_core.specs.KindedStatements.{wanted_of, simple_broken, ids_after}
use Rattle.vlt_meaning.specs.World.{one, owned, gone, World, Frame, missing, wrong_state}
use Rattle.vlt_meaning.specs.Found.{◌>>=◌, or_fault, if_so}
use Rattle.vlt_meaning.specs.Objects.{with_owner, in_states}
use Rattle.vlt_meaning.specs.Values.{object_of, tracked_object}
use Rattle.vlt_meaning.specs.Run.{Setup, does_simple}
use Rattle.vlt_sound_worlds.specs.Look.{look}
use Rattle.vlt_sound_worlds.proofs.Look.{look_at}
use Rattle.vlt_sound_worlds.specs.Agrees.{InScope, Context, scene, Agrees}
use Rattle.vlt_sound_worlds.specs.Typed.{IsTyped}
use Rattle.vlt_sound_worlds.specs.Safe.{Safe, goes_to}
use Rattle.vlt_sound_worlds.proofs.Empty.{both_empty}
use Rattle.vlt_sound_worlds.proofs.Rows.{row_here, row_other}
use Rattle.vlt_sound_worlds.proofs.Touch.{tracked_held, tracked_found, named}
use Rattle.vlt_sound_worlds.proofs.Safe.{found_safe, so_safe}
use Rattle.vlt_sound_worlds.proofs.FrameChanges.{target_scope}
use Rattle.vlt_sound_worlds.proofs.TypeFacts.{target_known}
use Rattle.std.proofs.lemmas.Bool.{ne_eqb}
use Rattle.std.proofs.Common.{map, inr, inl, not, ◌==◌, IsTrue, ◌≡◌, List, [], ◌∷◌, ◌++◌}
use Rattle.vlt_core.specs.Core.{adopt, guarded}
use Rattle.vlt_core.specs.Lookups.{Reference, release_set, tracked_in}
use Rattle.vlt_core.specs.Types.{is_droppable_struct}
use Rattle.vlt_core.specs.Maps.{wants_held, stays, is_held, kind_of, wants_in, becomes_absent}
use Rattle.vlt_core.specs.KindedScopes.{own_key, tracked_key}
use Rattle.vlt_core.specs.KindedStatements.{tracked_broken, droppable_broken, tracked_type, is_guarded_type, objects_apart, guarded_object, guard_key, keys_differ}
use Rattle.vlt_meaning.specs.World.{reference, adopted_by, above, same_object}
use Rattle.vlt_meaning.specs.Run.{any_state}
use Rattle.vlt_sound_worlds.proofs.Look.{changes_one}
use Rattle.vlt_sound_worlds.specs.Scene.{IsOf}
use Rattle.vlt_sound_worlds.proofs.Rows.{stays_passed}
use Rattle.vlt_sound_worlds.proofs.FrameChanges.{agrees_set, agrees_map}
use Rattle.vlt_sound_worlds.proofs.Leaving.{agrees_adopted, key_same}
use Rattle.vlt_sound_worlds.proofs.Owning.{row_tok}
use Rattle.vlt_meaning.specs.World.{Object}
use Rattle.std.proofs.Common.{slice_get, Some, Ok, ℕ, true, refl, sym, ap, subst, ◌∙◌}
use Rattle.std.proofs.lemmas.Option.{same_Some}
use Rattle.vlt_core.specs.Lookups.{reference_of}
use Rattle.vlt_meaning.specs.Objects.{with_changed_object}
use Rattle.vlt_meaning.specs.World as world
use Rattle.vlt_core.specs.declared.rules.TheConstants as rule
use Rattle.vlt_sound_worlds.proofs.TypeFacts.{tracked_known, droppable_known, guarded_known, apart_same, keys_agree}

-- a key's object is found, in a state that is wanted
pub object_found : (f : Func) (states : Reference → States) (x k t : ℕ) (frame : Frame) (os : List Object)
    (n : ℕ) → reference_of f x ≡ Some (record { key = k; type = t }) →
    frame.vars x ≡ Some (one (reference n)) → frame.keys k ≡ Some n → slice_get os n ≡ Some (look os n) →
    (look os n).owner ≡ world.held frame.depth k →
    states (record { key = k; type = t }) (look os n).state ≡ true →
    object_of f states x frame os ≡ Ok (named n (look os n))
object_found f states x k t frame os n is var name at mine state =
    ap (λ o. or_fault missing o >>= λ q. tracked_object q x frame os >>= in_states (states q)) is ∙
    (ap (λ m. m >>= in_states (states (record { key = k; type = t }))) (tracked_found (record { key = k; type = t }) x frame os n (look os n) var name at mine) ∙
    ap (λ b. if_so b wrong_state (named n (look os n))) state)

module _ (r : Setup) (f : Func)
    (typed : IsTyped r.program f) {c : Context} {h : HeldMap} {ids : Ids} {frame : Frame} (w : World)
    (agrees : Agrees r.program f c h ids [] frame w.objects) where
  -- the statement, where the types of its variables are known
  adopts : (y x q k t j u : ℕ) (args others : List ℕ) → InScope ids x → InScope ids q →
      var_type f x ≡ Some (tracked k t args) → var_type f q ≡ Some (tracked j u others) →
      is_droppable_struct r.program t ≡ true → var_type f y ≡ Some (guarded j t args) →
      CanPass (simple_rows r.program f (adopt y x q)) h →
      Safe (goes_to r.program f c (map_after (simple_rows r.program f (adopt y x q)) h) (with_target f y ids) [])
      (does_simple r f (adopt y x q) frame w)
  adopts y x q k t j u args others in_x in_q is_x is_q droppable is_y pass =
      let os = w.objects in
      let r1 : Row = row (a_key k) (wants_in (release_set r.program t)) becomes_absent in
      let r2 : Row = row (a_key j) wants_held stays in
      let rows : simple_rows r.program f (adopt y x q) ≡ r1 ∷ r2 ∷ [] = rw (is_x, is_q) refl in
      let ok = subst (λ rs. CanPass rs h) rows pass in
      let h1 : HeldMap = row_passed r1 h in
      let differ : j ≡ k → ⊥ =
      λ e. not_held (h1 (a_key k)) (row_here r1 h) (subst (λ j. kind_of (h1 (a_key j)) ≡ is_held) e ok.1.0) in
      let still : h1 (a_key j) ≡ h (a_key j) = row_other r1 h (a_key j) (λ e. differ (key_same e)) in
      let tx = tracked_held agrees x k t args in_x is_x ok.0.0 in
      let tq = tracked_held agrees q j u others in_q is_q (ap kind_of (sym still) ∙ ok.1.0) in
      let released : release_set r.program t (look os tx.number).state ≡ true =
      ok.0.1.each (look os tx.number).state tx.state in
      let apart : tx.number ≡ tq.number → ⊥ =
      λ e. differ (held_key (sym tq.owned ∙ (ap (λ m. (look os m).owner) (sym e) ∙ tx.owned))) in
      let next =
      agrees_adopted agrees k tx.number tx.named tx.owned tx.of.within h1
      (row_tok r1 h absent (row_here r1 h)) tq.number apart
      (λ e. held_lives (sym e ∙ tq.owned)) (ap above tq.owned)
      (record { released = subst (λ t. IsTrue (release_set r.program t (look os tx.number).state)) (sym tx.of.typed) released; droppable = ap (is_droppable_struct r.program) tx.of.typed ∙ droppable }) in
      let os1 = with_changed_object tx.number (with_owner (adopted_by tq.number)) os in
      let there = next.fit.there x (tracked k t args) in_x is_x refl in
      let fit = next.fit.fit x (tracked k t args) there.0 in_x is_x there.1 in
      let same : fit.fits.object ≡ tx.number = same_Some fit.fits.object tx.number (sym fit.fits.named ∙ tx.named) in
      let up : (look os1 tx.number).owner ≡ adopted_by tq.number =
      ap (λ o. o.owner) (changes_one os tx.number (with_owner (adopted_by tq.number)) tx.of.within).here in
      let map2 : h1 ≡ row_passed r2 h1 = sym (stays_passed (r2 ∷ []) h1 (refl, tt)) in
      let G = goes_to r.program f c (row_passed r2 h1) (with_target f y ids) [] in
      subst
      (λ rs. Safe (goes_to r.program f c (map_after rs h) (with_target f y ids) []) (does_simple r f (adopt y x q) frame w)) (sym rows)
      (found_safe G (object_of f (λ t. release_set r.program t.type) x frame os) (named tx.number (look os tx.number)) w _
      (object_found f (λ t. release_set r.program t.type) x k t frame os tx.number (ap tracked_in is_x) tx.var tx.named (look_at os tx.number tx.of.within) tx.owned released)
      (found_safe G (object_of f any_state q frame os) (named tq.number (look os tq.number)) w _
      (object_found f any_state q j u frame os tq.number (ap tracked_in is_q) tq.var tq.named (look_at os tq.number tq.of.within) tq.owned refl)
      (so_safe G (not (tx.number == tq.number)) same_object (Some tx.number) w _ (ap not (ne_eqb tx.number tq.number apart))
      (agrees_map map2
      (agrees_set next y (guarded j t args) (one (reference tx.number)) (with_target f y ids) is_y refl refl
      (record {
        part = reference tx.number;
        is = refl;
        fits = record {
          guard = tq.number;
          named = tq.named;
          object = tx.number;
          is = refl;
          of = subst (IsOf (scene c os1 next.heads) t (map frame.keys args)) same fit.fits.of;
          guarded = inr (inl up);
        };
      })
      (target_scope f y ids))))))
    where
      held_key : {a b : ℕ} → world.held frame.depth a ≡ world.held frame.depth b → a ≡ b
      held_key e = cc

      held_lives : gone ≡ world.held frame.depth j → ⊥
      held_lives e = cc

      not_held : (s : Status) → s ≡ absent → kind_of s ≡ is_held → ⊥
      not_held s e i = let q = ap kind_of (sym e) ∙ i in cc

  pub adopt_safe : (y x q : ℕ) → simple_broken r.program f ids (adopt y x q) ≡ [] →
      CanPass (simple_rows r.program f (adopt y x q)) h →
      Safe
      (goes_to r.program f c (map_after (simple_rows r.program f (adopt y x q)) h) (ids_after f (adopt y x q) ids) []) (does_simple r f (adopt y x q) frame w)
  adopt_safe y x q kinded pass =
      let A = tracked_broken f ids rule.WRONG_TYPE x in
      let B = tracked_broken f ids rule.WRONG_TYPE q in
      let D = droppable_broken r.program f x in
      let W = wanted_of (var_type f y) is_guarded_type in
      let O = objects_apart (guarded_object (var_type f y)) (tracked_type (var_type f x)) in
      let K = keys_differ (guard_key (var_type f y)) (own_key f q) in
      let s6 = both_empty (A ++ B ++ D ++ W ++ O ++ K) (target_broken f ids y) kinded in
      let s5 = both_empty (A ++ B ++ D ++ W ++ O) K s6.0 in
      let s4 = both_empty (A ++ B ++ D ++ W) O s5.0 in
      let s3 = both_empty (A ++ B ++ D) W s4.0 in
      let s2 = both_empty (A ++ B) D s3.0 in
      let s1 = both_empty A B s2.0 in
      let x' = tracked_known f ids rule.WRONG_TYPE x s1.0 in
      let q' = tracked_known f ids rule.WRONG_TYPE q s1.1 in
      let t = target_known f ids y s6.1 in
      let g = guarded_known (var_type f y) t.0 t.1 s3.1 in
      let y_is : var_type f y ≡ Some (guarded g.key g.type g.args) = t.1 ∙ ap Some g.is in
      let object =
      apart_same (guarded_object (var_type f y)) (tracked_type (var_type f x)) g.type x'.type g.args x'.args
      (ap guarded_object y_is) (ap tracked_type x'.is) s4.1 in
      let key =
      keys_agree (guard_key (var_type f y)) (own_key f q) g.key q'.key (ap guard_key y_is)
      (ap tracked_key q'.is) s5.1 in
      adopts y x q x'.key x'.type q'.key q'.type x'.args q'.args x'.scoped q'.scoped x'.is q'.is
      (droppable_known r.program f x x'.key x'.type x'.args typed x'.is s2.1)
      (y_is ∙ (ap (λ k. Some (guarded k g.type g.args)) key ∙ (ap (λ t. Some (guarded q'.key t g.args)) object.0 ∙ ap (λ a. Some (guarded q'.key x'.type a)) object.1)))
      pass
