-- Moves of owning values between variables, packed objects, and adoption end in no fault, and keep the fact.
use Rattle.std.proofs.Common.{◌≡◌, ◌⊎◌, ℕ, ◌<◌, true, false, ◌&&◌, not, if◌then◌else◌, List, [], ◌∷◌, ◌++◌, Some, None, is_some, Ok, refl, sym, ap, ◌∙◌, subst}
use Rattle.vlt_core.specs.Core.{States, Ty, tracked, owning, a_key, a_var, own, move, pack, Func, Program}
use Rattle.vlt_core.specs.Lookups.{var_type, is_owning, is_owning_var, owns, tracked_in}
use Rattle.vlt_core.specs.Maps.{Status, absent, held, lent, full, kind_of, is_absent, is_full, HeldMap, wants_absent, wants_in, becomes_absent, becomes_full, Row, row_passed, CanPass, map_after}
use Rattle.vlt_core.specs.Rows.{simple_rows, row, empty_row, fill_rows}
use Rattle.vlt_core.specs.KindedScopes.{Ids, with_target, target_broken, use_broken}
use Rattle.vlt_core.specs.KindedOperands.{move_broken, pack_broken, fits_owning, operand_broken}
use Rattle.vlt_core.specs.KindedStatements.{wanted_of, simple_broken, ids_after}
use Rattle.vlt_meaning.specs.World.{one, owned, loose, objects_in, gone, World, Frame, no_value, missing, wrong_state, not_empty}
use Rattle.vlt_meaning.specs.Found.{◌>>=◌, or_fault, if_so}
use Rattle.vlt_meaning.specs.Objects.{with_owner, in_states}
use Rattle.vlt_meaning.specs.Values.{object_of, tracked_object}
use Rattle.vlt_meaning.specs.Step.{with_found, is_fillable, fill, with_changed}
use Rattle.vlt_meaning.specs.Operands.{with_operand}
use Rattle.vlt_meaning.specs.Run.{Setup, does_simple}
use Rattle.vlt_sound_worlds.specs.Look.{look}
use Rattle.vlt_sound_worlds.proofs.Look.{look_at}
use Rattle.vlt_sound_worlds.specs.Members.{In}
use Rattle.vlt_sound_worlds.specs.Roots.{in_hand}
use Rattle.vlt_sound_worlds.proofs.Members.{in_left}
use Rattle.vlt_sound_worlds.specs.Agrees.{HasVar, InScope, Handed, values_of, Context, scene, Agrees}
use Rattle.vlt_sound_worlds.specs.Typed.{IsLimited, IsTyped}
use Rattle.vlt_sound_worlds.specs.Safe.{Safe, goes_to}
use Rattle.vlt_sound_worlds.proofs.Empty.{both_empty}
use Rattle.vlt_sound_worlds.proofs.Rows.{row_here, row_other}
use Rattle.vlt_sound_worlds.proofs.Touch.{used, tracked_held, tracked_found, named}
use Rattle.vlt_sound_worlds.proofs.Safe.{found_safe, so_safe}
use Rattle.vlt_sound_worlds.proofs.FrameChanges.{target_scope}
use Rattle.vlt_sound_worlds.proofs.FrameOwners.{ChangesTok}
use Rattle.vlt_sound_worlds.proofs.Leaving.{agrees_packed}
use Rattle.vlt_sound_worlds.proofs.Handing.{agrees_moved, agrees_filled}
use Rattle.vlt_sound_worlds.proofs.TypeFacts.{target_known, fits_wider, wanted_owning, move_facts, pack_facts, packed_tracked}

pub full_is : (s : Status) → kind_of s ≡ is_full → s ≡ full
full_is absent e = cc
full_is (held S) e = cc
full_is (lent S) e = cc
full_is full e = refl

pub absent_is : (s : Status) → kind_of s ≡ is_absent → s ≡ absent
absent_is absent e = refl
absent_is (held S) e = cc
absent_is (lent S) e = cc
absent_is full e = cc

-- what a row does to its own token and to others
pub row_tok : (r : Row) (h : HeldMap) (s : Status) → row_passed r h r.tok ≡ s → ChangesTok r.tok s h (row_passed r h)
row_tok r h s e = record { here = e; others = λ t other. row_other r h t other }

-- the first value that is handed over fills a variable of a type that is as wide
module _ (p : Program) (f : Func)
    (limited : IsLimited p) {c : Context} {h : HeldMap} {ids : Ids} {x : Handed} {hand : List Handed} {frame : Frame} (w : World)
    (agrees : Agrees p f c h ids (x ∷ hand) frame w.objects) where
  pub fill_safe : (v : ℕ) (ty : Ty) (ids' : Ids) → var_type f v ≡ Some ty → is_owning ty ≡ true →
      is_owning x.type ≡ true → fits_owning ty x.type ≡ true →
      kind_of (h (a_var v)) ≡ is_absent → ((u : ℕ) → InScope ids' u → (u ≡ v) ⊎ InScope ids u) →
      Safe (goes_to p f c (row_passed (row (a_var v) wants_absent becomes_full) h) ids' hand) (fill f v x.value frame w)
  unfolding fill
  fill_safe v ty ids' is own_ty own_x wide empty scope =
      let owner : is_owning_var f v ≡ true = ap owns is ∙ own_ty in
      let none : frame.vars v ≡ None =
      (subst (λ s. HasVar (is_owning_var f v) s (frame.vars v)) (absent_is (h (a_var v)) empty) (agrees.vars.full v)) owner in
      let fits =
      fits_wider p (scene c w.objects agrees.heads) frame.keys ty x.type x.value small own_x wide agrees.handed.0 in
      so_safe (goes_to p f c (row_passed (row (a_var v) wants_absent becomes_full) h) ids' hand)
      (is_fillable f v frame) not_empty None w _
      (ap (λ a. not (is_owning_var f v && is_some a)) none ∙ (ap (λ b. not (b && false)) owner))
      (agrees_filled agrees v (row_passed (row (a_var v) wants_absent becomes_full) h)
      (row_tok (row (a_var v) wants_absent becomes_full) h full (row_here (row (a_var v) wants_absent becomes_full) h))
      ty ids' none is own_ty fits scope)
    where
      clash : gone ≡ loose → ⊥
      clash e = cc

      -- a state of a live object has a number below 32
      small : (n : ℕ) → In n (objects_in x.value) → (look w.objects n).state < 32
      small n i =
          let loose_now = (agrees.placed.here in_hand n (in_left n (objects_in x.value) (values_of hand) i)).1 in
          (limited.narrow (look w.objects n).type).below (look w.objects n).state
          (agrees.objects n (λ e. clash (sym e ∙ loose_now))).state

module _ (r : Setup) (f : Func)
    (typed : IsTyped r.program f) {c : Context} {h : HeldMap} {ids : Ids} {frame : Frame} (w : World)
    (agrees : Agrees r.program f c h ids [] frame w.objects) where
  fills : (v : ℕ) → is_owning_var f v ≡ true → fill_rows f (v ∷ []) ≡ row (a_var v) wants_absent becomes_full ∷ []
  fills v owner = rw owner refl

  -- a whole owning value goes from a variable to another one
  pub own_move_safe : (v u : ℕ) → simple_broken r.program f ids (own v (move u)) ≡ [] →
      CanPass (simple_rows r.program f (own v (move u))) h →
      Safe
      (goes_to r.program f c (map_after (simple_rows r.program f (own v (move u))) h) (ids_after f (own v (move u)) ids) []) (does_simple r f (own v (move u)) frame w)
  unfolding with_operand
  own_move_safe v u kinded pass =
      let s2 =
      both_empty
      (wanted_of (var_type f v) is_owning ++ operand_broken r.program f ids (if is_owning_var f v then var_type f v else None) (move u)) (target_broken f ids v) kinded in
      let s1 =
      both_empty (wanted_of (var_type f v) is_owning)
      (operand_broken r.program f ids (if is_owning_var f v then var_type f v else None) (move u)) s2.0 in
      let t = target_known f ids v s2.1 in
      let own_ty = wanted_owning (var_type f v) t.0 t.1 s1.0 in
      let owner : is_owning_var f v ≡ true = ap owns t.1 ∙ own_ty in
      let s0 =
      both_empty (use_broken f ids u)
      (move_broken (if is_owning_var f v then var_type f v else None) (var_type f u)) s1.1 in
      let from = used f ids u s0.0 in
      let facts = move_facts (is_owning_var f v) (var_type f v) (var_type f u) t.0 from.ty owner t.1 from.is s0.1 in
      let rows : simple_rows r.program f (own v (move u)) ≡ empty_row u ∷ row (a_var v) wants_absent becomes_full ∷ [] =
      ap (λ rs. empty_row u ∷ rs) (fills v owner) in
      let ok = subst (λ rs. CanPass rs h) rows pass in
      let value =
      subst (λ s. HasVar (is_owning_var f u) s (frame.vars u)) (full_is (h (a_var u)) ok.0) (agrees.vars.full u) in
      let h1 : HeldMap = row_passed (empty_row u) h in
      let next =
      agrees_moved agrees u h1 absent
      (row_tok (empty_row u) h absent (row_here (empty_row u) h)) value.0 from.ty value.1 from.is facts.0 from.scoped refl in
      subst
      (λ rs. Safe (goes_to r.program f c (map_after rs h) (with_target f v ids) []) (does_simple r f (own v (move u)) frame w)) (sym rows)
      (found_safe (goes_to r.program f c (row_passed (row (a_var v) wants_absent becomes_full) h1) (with_target f v ids) []) (or_fault no_value (frame.vars u)) value.0 w _
      (ap (or_fault no_value) value.1)
      (fill_safe r.program f typed.limited w next v t.0 (with_target f v ids) t.1 own_ty facts.0 facts.1 ok.1.0 (target_scope f v ids)))

  -- the object of a tracked variable becomes an owning value
  pub own_pack_safe : (v x : ℕ) (states : States) → simple_broken r.program f ids (own v (pack x states)) ≡ [] →
      CanPass (simple_rows r.program f (own v (pack x states))) h →
      Safe
      (goes_to r.program f c (map_after (simple_rows r.program f (own v (pack x states))) h) (ids_after f (own v (pack x states)) ids) []) (does_simple r f (own v (pack x states)) frame w)
  unfolding with_operand
  own_pack_safe v x states kinded pass =
      let s2 =
      both_empty
      (wanted_of (var_type f v) is_owning ++ operand_broken r.program f ids (if is_owning_var f v then var_type f v else None) (pack x states)) (target_broken f ids v) kinded in
      let s1 =
      both_empty (wanted_of (var_type f v) is_owning)
      (operand_broken r.program f ids (if is_owning_var f v then var_type f v else None) (pack x states)) s2.0 in
      let t = target_known f ids v s2.1 in
      let own_ty = wanted_owning (var_type f v) t.0 t.1 s1.0 in
      let owner : is_owning_var f v ≡ true = ap owns t.1 ∙ own_ty in
      let s0 =
      both_empty (use_broken f ids x)
      (pack_broken r.program (if is_owning_var f v then var_type f v else None) (var_type f x) states) s1.1 in
      let from = used f ids x s0.0 in
      let tr =
      packed_tracked r.program (if is_owning_var f v then var_type f v else None)
      (var_type f x) from.ty states from.is s0.1 in
      by v x states t.0 t.1 own_ty owner tr.0 tr.1 tr.2 (from.is ∙ ap Some tr.3) from.scoped
      (pack_facts r.program (is_owning_var f v) (var_type f v) (var_type f x) t.0 tr.0 tr.1 tr.2 states owner t.1 (from.is ∙ ap Some tr.3) s0.1) pass
    where
      by : (v x : ℕ) (states : States) (ty : Ty) → var_type f v ≡ Some ty → is_owning ty ≡ true →
          is_owning_var f v ≡ true →
          (k t : ℕ) (args : List ℕ) → var_type f x ≡ Some (tracked k t args) → InScope ids x →
          fits_owning ty (owning states t args) ≡ true →
          CanPass (simple_rows r.program f (own v (pack x states))) h →
          Safe
          (goes_to r.program f c (map_after (simple_rows r.program f (own v (pack x states))) h) (ids_after f (own v (pack x states)) ids) [])
          (with_found (object_of f (λ q. states) x frame w.objects) w (λ n. fill f v (one (owned n.number)) frame (with_changed w n.number (with_owner loose))))
      by v x states ty is own_ty owner k t args from scoped wide pass =
          let kr : Row = row (a_key k) (wants_in states) becomes_absent in
          let rows : simple_rows r.program f (own v (pack x states)) ≡ kr ∷ row
          (a_var v) wants_absent becomes_full ∷ [] =
          rw (from, owner) refl in
          let ok = subst (λ rs. CanPass rs h) rows pass in
          let tr = tracked_held agrees x k t args scoped from ok.0.0 in
          let h1 : HeldMap = row_passed kr h in
          let given : Handed = record { value = one (owned tr.number); type = owning states t args } in
          let next =
          agrees_packed agrees k tr.number tr.named tr.owned tr.of.within h1
          (row_tok kr h absent (row_here kr h)) given refl
          (record { part = owned tr.number; is = refl; fits = record { object = tr.number; is = refl; of = tr.of; state = ok.0.1.each (look w.objects tr.number).state tr.state } }) in
          let found : object_of f (λ q. states) x frame w.objects ≡ Ok (named tr.number (look w.objects tr.number)) =
          ap (λ o. or_fault missing o >>= λ q. tracked_object q x frame w.objects >>= in_states states)
          (ap tracked_in from) ∙
          (ap (λ m. m >>= in_states states) (tracked_found (record { key = k; type = t }) x frame w.objects tr.number (look w.objects tr.number) tr.var tr.named
          (look_at w.objects tr.number tr.of.within) tr.owned) ∙
          ap (λ b. if_so b wrong_state (named tr.number (look w.objects tr.number)))
          (ok.0.1.each (look w.objects tr.number).state tr.state)) in
          subst (λ rs. Safe (goes_to r.program f c (map_after rs h) (with_target f v ids) [])
          (with_found (object_of f (λ q. states) x frame w.objects) w (λ n. fill f v (one (owned n.number)) frame (with_changed w n.number (with_owner loose))))) (sym rows)
          (found_safe (goes_to r.program f c (row_passed (row (a_var v) wants_absent becomes_full) h1) (with_target f v ids) []) (object_of f (λ q. states) x frame w.objects)
          (named tr.number (look w.objects tr.number)) w _ found
          (fill_safe r.program f typed.limited (with_changed w tr.number (with_owner loose)) next v ty (with_target f v ids) is own_ty refl wide ok.1.0 (target_scope f v ids)))
