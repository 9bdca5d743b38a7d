-- The statement that exchanges a field's value with a variable's.
use Rattle.std.proofs.Common.{◌≡◌, inl, inr, ⊎_elim, ℕ, ◌==◌, ◌<◌, Bool, true, false, not, ◌||◌, if◌then◌else◌, List, [], ◌∷◌, ◌++◌, length, Some, None, Ok, Err, refl, sym, ap, ◌∙◌, subst, slice_get}
use Rattle.std.proofs.lemmas.Bool.{cases_Bool, eqb-true, eq-eqb}
use Rattle.std.proofs.lemmas.Option.{same_Some, slice_get_cases}
use Rattle.std.specs.List.{list_all}
use Rattle.std.specs.Result.{is_ok}
use Rattle.vlt_core.specs.Core.{States, Ty, int, bool, tracked, owning, guarded, variant, owning_variant, Tok, a_key, a_var, FieldDecl, TypeDecl, swap, Func, Program}
use Rattle.vlt_core.specs.Lookups.{var_type, is_owning, is_owning_var, fields_of, fields_in, tracked_in, permitted_in}
use Rattle.vlt_core.specs.Maps.{full, HeldMap, wants_in, wants_full, stays, becomes_full, Row, row_passed, is_tok, CanPass, map_after}
use Rattle.vlt_core.specs.Rows.{simple_rows, touch_rows, row}
use Rattle.vlt_core.specs.Types.{decl_of, is_struct, same_ty, same_states, is_same_bool, same_keys, same_object, lies_within, with_keys, state_numbers}
use Rattle.vlt_core.specs.declared.rules.TheConstants as rule
use Rattle.vlt_core.specs.KindedScopes.{Ids, use_broken}
use Rattle.vlt_core.specs.KindedOperands.{misfit, object_in, field_decl, field_type_in, touch_broken, fits_owning}
use Rattle.vlt_core.specs.KindedStatements.{tracked_broken, swap_broken, simple_broken, ids_after}
use Rattle.vlt_meaning.specs.World.{Value, objects_in, loose, inside, is_loose, is_inside, World, Frame, Object, missing, no_value, not_owned}
use Rattle.vlt_meaning.specs.World as world
use Rattle.vlt_meaning.specs.Found.{Found, Named, or_fault}
use Rattle.vlt_meaning.specs.Objects.{owned_at, with_cell, with_changed_object}
use Rattle.vlt_meaning.specs.Values.{object_of, touchable}
use Rattle.vlt_meaning.specs.Step.{with_objects}
use Rattle.vlt_meaning.specs.Run.{Setup, does_simple, swap_step}
use Rattle.vlt_sound_worlds.specs.Look.{look, IsLive}
use Rattle.vlt_sound_worlds.proofs.Look.{look_at, live_within, changes_one}
use Rattle.vlt_sound_worlds.specs.Members.{In, IsOnce}
use Rattle.vlt_sound_worlds.specs.Roots.{in_var, in_cell, owned_by, cell_of}
use Rattle.vlt_sound_worlds.specs.Agrees.{HasVar, InScope, Context, scene, Agrees}
use Rattle.vlt_sound_worlds.specs.Typed.{IsTyped}
use Rattle.vlt_sound_worlds.specs.Safe.{Goal, Safe, goes_to}
use Rattle.vlt_sound_worlds.proofs.Empty.{both_empty, both_so, unless_so}
use Rattle.vlt_sound_worlds.proofs.Rows.{pass_after, passed_split, stays_passed, touch_stays, tok_is}
use Rattle.vlt_sound_worlds.proofs.Touch.{used, tracked_held, named}
use Rattle.vlt_sound_worlds.proofs.Expressions.{Read, read}
use Rattle.vlt_sound_worlds.proofs.Plain.{keys_same}
use Rattle.vlt_sound_worlds.proofs.Safe.{found_safe, so_safe}
use Rattle.vlt_sound_worlds.proofs.Kept.{cells_in}
use Rattle.vlt_sound_worlds.proofs.Leaving.{length_changed}
use Rattle.vlt_sound_worlds.proofs.Adopting.{object_found}
use Rattle.vlt_sound_worlds.proofs.Fields.{owns_after}
use Rattle.vlt_sound_worlds.proofs.Owning.{full_is}
use Rattle.vlt_sound_worlds.proofs.TypeFacts.{tracked_known, fits_wider}
use Rattle.vlt_sound_worlds.specs.Moved.{ArePassing, IsMoved}
use Rattle.vlt_sound_worlds.proofs.Moved.{owned_found, moved_all, moved_safe}
use Rattle.vlt_sound_statements.proofs.Swapping.{agrees_swapped}

-- ---- types that are the same

-- sets with the same states below 32 lie within each other
all_both : (f g : ℕ → Bool) → ((s : ℕ) → f s ≡ true → g s ≡ true) → (ns : List ℕ) → list_all f ns ≡ true →
    list_all g ns ≡ true
all_both f g to [] e = refl
all_both f g to (n ∷ ns) e = let both = both_so (f n) (list_all f ns) e in rw (to n both.0) (all_both f g to ns both.1)

same_within : (a b : States) → same_states a b ≡ true →
    (lies_within a b ≡ true) × (lies_within b a ≡ true)
same_within a b e = (
  all_both (λ s. is_same_bool (a s) (b s)) _ (λ s. left (a s) (b s)) state_numbers e,
  all_both (λ s. is_same_bool (a s) (b s)) _ (λ s. right (a s) (b s)) state_numbers e,
)
  where
    left : (x y : Bool) → is_same_bool x y ≡ true → (not x || y) ≡ true
    left true true e = refl
    left true false e = cc
    left false y e = refl

    right : (x y : Bool) → is_same_bool x y ≡ true → (not y || x) ≡ true
    right true true e = refl
    right true false e = cc
    right false true e = cc
    right false false e = refl

pub keys_itself : (ks : List ℕ) → same_keys ks ks ≡ true
keys_itself [] = refl
keys_itself (k ∷ ks) = rw (eq-eqb k k refl) (keys_itself ks)

object_back : (t u : ℕ) (args others : List ℕ) → same_object t args u others ≡ true →
    same_object u others t args ≡ true
object_back t u args others e =
    let both = both_so (t == u) (same_keys args others) e in
    let type = eqb-true t u both.0 in
    let keys = keys_same args others both.1 in
    rw (type, keys, eq-eqb u u refl) (keys_itself others)

-- owning types that are the same are as wide as each other
pub record AsWide (w t : Ty) : Type 0 where
  pub owning : is_owning t ≡ true
  pub to : fits_owning w t ≡ true
  pub back : fits_owning t w ≡ true

pub same_wide : (w t : Ty) → is_owning w ≡ true → same_ty w t ≡ true → AsWide w t
same_wide (owning a t args) (owning b u others) o e =
    let both = both_so (same_states a b) (same_object t args u others) e in
    let states = same_within a b both.0 in
    record {
      owning = refl;
      to = rw (object_back t u args others both.1) states.1;
      back = rw both.1 states.0;
    }
same_wide (owning_variant t args) (owning_variant u others) o e =
    record { owning = refl; to = e; back = object_back t u args others e }
same_wide (owning a t args) int o e = cc
same_wide (owning a t args) bool o e = cc
same_wide (owning a t args) (tracked k u others) o e = cc
same_wide (owning a t args) (guarded k u others) o e = cc
same_wide (owning a t args) (variant u others) o e = cc
same_wide (owning a t args) (owning_variant u others) o e = cc
same_wide (owning_variant t args) int o e = cc
same_wide (owning_variant t args) bool o e = cc
same_wide (owning_variant t args) (tracked k u others) o e = cc
same_wide (owning_variant t args) (owning b u others) o e = cc
same_wide (owning_variant t args) (guarded k u others) o e = cc
same_wide (owning_variant t args) (variant u others) o e = cc
same_wide int t o e = cc
same_wide bool t o e = cc
same_wide (tracked k t args) u o e = cc
same_wide (guarded k t args) u o e = cc
same_wide (variant t args) u o e = cc

-- ---- what a swap that breaks no rule says

pub record SwapFacts (p : Program) (f : Func) (i v t : ℕ) (args : List ℕ) : Type 0 where
  pub decl : FieldDecl
  pub at : slice_get (fields_of p t) i ≡ Some decl
  pub owning : is_owning decl.ty ≡ true
  pub fits : misfit (Some (with_keys args decl.ty)) (var_type f v) ≡ []

swap_facts : (p : Program) (f : Func) (x i v k t : ℕ) (args : List ℕ) (d : TypeDecl) →
    var_type f x ≡ Some (tracked k t args) → decl_of p t ≡ Some d → swap_broken p f x i v ≡ [] →
    SwapFacts p f i v t args
swap_facts p f x i v k t args d is dec e =
    let e1 = rw is at e in
    let e2 = rw dec at e1 in
    ⊎_elim
    (λ struct.
    let e3 = rw struct at e2 in
    ⊎_elim
    (λ r.
    let e4 = rw r.2 at e3 in
    ⊎_elim
    (λ own.
    let e5 = rw own at e4 in
    record { decl = r.0; at = ap (λ o. slice_get (fields_in o) i) dec ∙ r.2; owning = own; fits = e5 })
    (λ plain. let e5 = rw plain at e4 in cc)
    (cases_Bool (is_owning r.0.ty)))
    (λ past. let e4 = rw past.1 at e3 in cc)
    (slice_get_cases (fields_in (Some d)) i).1)
    (λ other. let e3 = rw other at e2 in cc)
    (cases_Bool (is_struct (Some d)))

-- a touch of the field breaks no rule
touch_kept : (p : Program) (f : Func) (ids : Ids) (x i k t : ℕ) (args : List ℕ) (d : TypeDecl) (fd : FieldDecl) →
    use_broken f ids x ≡ [] → var_type f x ≡ Some (tracked k t args) → decl_of p t ≡ Some d →
    slice_get (fields_in (Some d)) i ≡ Some fd → touch_broken p f ids x i ≡ []
touch_kept p f ids x i k t args d fd use_ok is dec at = rw (use_ok, is, dec, at, is) refl

-- ---- rows and objects

tracked_row : (p : Program) (f : Func) (x i k t : ℕ) (args : List ℕ) → var_type f x ≡ Some (tracked k t args) →
    touch_rows p f x i ≡ row (a_key k) (wants_in (permitted_in p t i)) stays ∷ []
tracked_row p f x i k t args is = rw is refl

-- a row that leaves a full token full keeps the map
full_stays : (v : ℕ) (h : HeldMap) → h (a_var v) ≡ full → row_passed (row (a_var v) wants_full becomes_full) h ≡ h
full_stays v h e = λ i t. (at t) i
  where
    at : (t : Tok) → row_passed (row (a_var v) wants_full becomes_full) h t ≡ h t
    at t = ⊎_elim
        (λ same. ap (λ b. if b then full else h t) same ∙ (sym e ∙ ap h (sym (tok_is t (a_var v) same))))
        (λ other. ap (λ b. if b then full else h t) other)
        (cases_Bool (is_tok t (a_var v)))

all_owned : (os : List Object) (ns : List ℕ) →
    ((n : ℕ) → In n ns → (n < length os) × ((look os n).owner ≡ loose)) →
    list_all (λ m. is_ok (owned_at is_loose os m)) ns ≡ true
all_owned os [] all = refl
all_owned os (n ∷ ns) all =
    let here = all n (inl refl) in
    rw (owned_found is_loose os n here.0 (ap is_loose here.1)) (all_owned os ns (λ m i. all m (inr i)))

abbrev number_found : Found Named → ℕ
number_found (Ok m) = m.number
number_found (Err o) = 0

module _ (r : Setup) (f : Func)
    (typed : IsTyped r.program f) {c : Context} {h : HeldMap} {ids : Ids} {frame : Frame} (w : World)
    (agrees : Agrees r.program f c h ids [] frame w.objects) where
  -- the statement, where its field and its variable are known
  swaps : (x i v k : ℕ) (at : Read typed ids agrees x i) (new : Value) (ty : Ty) → frame.vars v ≡ Some new →
      (look w.objects at.touch.number).owner ≡ world.held frame.depth k → var_type f v ≡ Some ty →
      InScope ids v → h (a_var v) ≡ full →
      AsWide (with_keys at.args at.field.decl.ty) ty → is_owning (with_keys at.args at.field.decl.ty) ≡ true →
      Safe (goes_to r.program f c h ids [])
      (swap_step i v (named at.touch.number (look w.objects at.touch.number)) at.value new frame w)
  unfolding swap_step
  swaps x i v k at new ty there mine is scoped filled wide owns_it =
      let M1 = moved_all (is_inside n) loose (objects_in old) os once_old passing_old in
      let M2 = moved_all is_loose (inside n) (objects_in new) M1.objects once_new (passing_new M1) in
      let os3 = with_changed_object n (with_cell i new) M2.objects in
      let within : n < length M2.objects =
      subst (λ k. n < k) (sym (M2.long ∙ M1.long)) (live_within os n at.touch.live) in
      so_safe G (list_all (λ m. is_ok (owned_at is_loose os m)) (objects_in new)) not_owned None w _
      (all_owned os (objects_in new) (λ m j. (live_within os m (loose_live m (new_owner m j)), new_owner m j)))
      (moved_safe G (is_inside n) loose (objects_in old) w _ M1
      (moved_safe G is_loose (inside n) (objects_in new) (with_objects w M1.objects) _ M2
      (agrees_swapped typed agrees x i v at new there k mine M1.objects M2.objects os3
      (record {
        first = M1.change;
        second = M2.change;
        third = changes_one M2.objects n (with_cell i new) within;
        long = length_changed M2.objects n (with_cell i new) ∙ (M2.long ∙ M1.long);
      })
      ty is wide.owning filled
      (fits_wider r.program (scene c os agrees.heads) frame.keys (with_keys at.args at.field.decl.ty) ty new
      (λ m j. small m (loose_live m (new_owner m j))) wide.owning wide.to (agrees.fit.fit v ty new scoped is there))
      (fits_wider r.program (scene c os agrees.heads) frame.keys ty (with_keys at.args at.field.decl.ty) old
      (λ m j. small m (inside_live m (old_owner m j))) owns_it wide.back at.fits))))
    where
      G : Goal
      G = goes_to r.program f c h ids []

      os : List Object
      os = w.objects

      n : ℕ
      n = at.touch.number

      old : Value
      old = at.value

      was_cell : cell_of (look os n) i ≡ objects_in old
      was_cell = cells_in (look os n) at.touch.live i ∙ ap owned_by at.at

      old_owner : (m : ℕ) → In m (objects_in old) → (look os m).owner ≡ inside n
      old_owner m j = (agrees.placed.here (in_cell n i) m (subst (In m) (sym was_cell) j)).1

      new_owner : (m : ℕ) → In m (objects_in new) → (look os m).owner ≡ loose
      new_owner m j = (agrees.placed.here (in_var v) m (subst (λ a. In m (owned_by a)) (sym there) j)).1

      loose_live : (m : ℕ) → (look os m).owner ≡ loose → IsLive (look os) m
      loose_live m e q = let z = sym q ∙ e in cc

      inside_live : (m : ℕ) → (look os m).owner ≡ inside n → IsLive (look os) m
      inside_live m e q = let z = sym q ∙ e in cc

      small : (m : ℕ) → IsLive (look os) m → (look os m).state < 32
      small m live = (typed.limited.narrow (look os m).type).below (look os m).state (agrees.objects m live).state

      once_old : IsOnce (objects_in old)
      once_old = subst IsOnce was_cell (agrees.placed.once (in_cell n i))

      once_new : IsOnce (objects_in new)
      once_new = subst (λ a. IsOnce (owned_by a)) there (agrees.placed.once (in_var v))

      passing_old : ArePassing (is_inside n) (objects_in old) os
      passing_old m j =
          let e = old_owner m j in (live_within os m (inside_live m e), ap (is_inside n) e ∙ eq-eqb n n refl)

      passing_new : (M1 : IsMoved (is_inside n) loose (objects_in old) os) → ArePassing is_loose (objects_in new) M1.objects
      passing_new M1 m j =
          let e = new_owner m j in
          let off : In m (objects_in old) → ⊥ = λ l. clash (sym (old_owner m l) ∙ e) in (
            subst (λ k. m < k) (sym M1.long) (live_within os m (loose_live m e)),
            ap (λ o. is_loose o.owner) (M1.change.others m off) ∙ ap is_loose e,
          )
        where
          clash : inside n ≡ loose → ⊥
          clash e = cc

  pub swap_safe : (x i v : ℕ) → simple_broken r.program f ids (swap x i v) ≡ [] →
      CanPass (simple_rows r.program f (swap x i v)) h →
      Safe
      (goes_to r.program f c (map_after (simple_rows r.program f (swap x i v)) h) (ids_after f (swap x i v) ids) [])
      (does_simple r f (swap x i v) frame w)
  swap_safe x i v kinded pass =
      let s2 =
      both_empty (tracked_broken f ids rule.WRONG_SWAP x ++ use_broken f ids v) (swap_broken r.program f x i v) kinded in
      let s1 = both_empty (tracked_broken f ids rule.WRONG_SWAP x) (use_broken f ids v) s2.0 in
      let x' = tracked_known f ids rule.WRONG_SWAP x s1.0 in
      let v' = used f ids v s1.1 in
      let dec = typed.vars x (tracked x'.key x'.type x'.args) x'.type x'.is refl in
      let facts = swap_facts r.program f x i v x'.key x'.type x'.args dec.decl x'.is dec.is s2.1 in
      let field : slice_get (fields_in (Some dec.decl)) i ≡ Some facts.decl =
      ap (λ o. slice_get (fields_in o) i) (sym dec.is) ∙ facts.at in
      let touch =
      touch_kept r.program f ids x i x'.key x'.type x'.args dec.decl facts.decl
      (both_empty (use_broken f ids x) _ s1.0).0 x'.is dec.is field in
      let rowing : Row = row (a_var v) wants_full becomes_full in
      let ok = pass_after (touch_rows r.program f x i) (rowing ∷ []) h (touch_stays r.program f x i) pass in
      let filled = full_is (h (a_var v)) ok.1.0 in
      let map : h ≡ map_after (touch_rows r.program f x i ++ rowing ∷ []) h =
      sym
      (passed_split (touch_rows r.program f x i) (rowing ∷ []) h ∙
      (ap (row_passed rowing) (stays_passed (touch_rows r.program f x i) h (touch_stays r.program f x i)) ∙ full_stays v h filled)) in
      let value =
      subst (λ s. HasVar (is_owning_var f v) s (frame.vars v)) filled (agrees.vars.full v) in
      let R = read typed ids agrees x i touch ok.0 in
      let one_row = tracked_row r.program f x i x'.key x'.type x'.args x'.is in
      let wanted = (subst (λ rs. CanPass rs h) one_row ok.0).0 in
      let T = tracked_held agrees x x'.key x'.type x'.args x'.scoped x'.is wanted.0 in
      let state = wanted.1.each (look w.objects T.number).state T.state in
      let found =
      object_found f (λ q. permitted_in r.program q.type i) x x'.key x'.type frame w.objects T.number (ap tracked_in x'.is)
      T.var T.named (look_at w.objects T.number T.of.within) T.owned state in
      let same : R.touch.number ≡ T.number =
      ap number_found (sym R.touch.found ∙ (touch_is x i x'.key x'.type x'.args x'.is ∙ found)) in
      let type : with_keys R.args R.field.decl.ty ≡ with_keys x'.args facts.decl.ty =
      same_Some (with_keys R.args R.field.decl.ty) (with_keys x'.args facts.decl.ty)
      (sym R.field_is ∙ (ap (λ o. field_type_in o (field_decl r.program o i)) (ap object_in x'.is) ∙ ap (field_type_in (Some (x'.type, x'.args))) facts.at)) in
      let owning : is_owning (with_keys R.args R.field.decl.ty) ≡ true =
      ap is_owning type ∙ (owns_after x'.args facts.decl.ty ∙ facts.owning) in
      let fits : misfit (Some (with_keys R.args R.field.decl.ty)) (Some v'.ty) ≡ [] =
      subst (λ o. misfit (Some (with_keys R.args R.field.decl.ty)) o ≡ []) v'.is
      (subst (λ t. misfit (Some t) (var_type f v) ≡ []) (sym type) facts.fits) in
      subst (λ k. Safe (goes_to r.program f c k ids []) (does_simple r f (swap x i v) frame w)) map
      (found_safe (goes_to r.program f c h ids []) (object_of f (λ q. permitted_in r.program q.type i) x frame w.objects)
      (named R.touch.number (look w.objects R.touch.number)) w _
      (found ∙ ap (λ n. Ok (named n (look w.objects n))) (sym same))
      (found_safe (goes_to r.program f c h ids []) (or_fault missing (slice_get (look w.objects R.touch.number).cells i)) R.value w _
      (ap (or_fault missing) R.at)
      (found_safe (goes_to r.program f c h ids []) (or_fault no_value (frame.vars v)) value.0 w _
      (ap (or_fault no_value) value.1)
      (swaps x i v x'.key R value.0 v'.ty value.1
      (ap (λ n. (look w.objects n).owner) same ∙ T.owned) v'.is v'.scoped filled
      (same_wide (with_keys R.args R.field.decl.ty) v'.ty owning (unless_so (same_ty (with_keys R.args R.field.decl.ty) v'.ty) rule.WRONG_TYPE fits)) owning))))
    where
      -- a touch of a tracked variable's field is of the variable's object
      touch_is : (x i k t : ℕ) (args : List ℕ) → var_type f x ≡ Some (tracked k t args) →
          touchable r.program f x i frame w.objects ≡
          object_of f (λ q. permitted_in r.program q.type i) x frame w.objects
      touch_is x i k t args is = rw is refl
