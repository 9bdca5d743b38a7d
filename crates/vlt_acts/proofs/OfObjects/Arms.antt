-- The objects of a case come back to its keys, and its payload goes into the arm's variables.
use Rattle.std.proofs.Common.{◌≡◌, inr, ℕ, suc, ◌+◌, ◌*◌, ◌==◌, ◌<◌, ◌≤◌, ℤ, pos, Bool, true, false, if◌then◌else◌, List, [], ◌∷◌, ◌++◌, map, length, Option, Some, None, Ok, Err, refl, sym, ap, ◌∙◌, subst, arith, slice_get}
use Rattle.std.proofs.lemmas.Option.{none-some, same_Some}
use Rattle.vlt_core.specs.Core.{Func}
use Rattle.vlt_core.specs.Lookups.{KeyIn, is_owning_var}
use Rattle.vlt_heap.specs.declared.slots.Slot.{Slot}
use Rattle.vlt_heap.specs.declared.slots.Slot.TheVariants.{Number}
use Rattle.vlt_heap.specs.declared.heap.Heap.{Heap}
use Rattle.vlt_heap.specs.Items.{Items}
use Rattle.vlt_meaning.specs.World.{Part, number, owned, is_fault, Value, one, of_case, held, loose, is_loose, is_gone, is_out, above, Object as Thing, World, Frame, no_value, other_object, wrong_state}
use Rattle.vlt_meaning.specs.Found.{Found, ◌>>=◌, or_fault, Named, if_so}
use Rattle.vlt_meaning.specs.Objects.{owned_at, in_states, with_owner}
use Rattle.vlt_meaning.specs.Operands.{Case, case_in, case_object, with_empty_variable}
use Rattle.vlt_meaning.specs.Step.{with_changed, with_var}
use Rattle.vlt_meaning_laws.proofs.Keeping.{bound, err-ok}
use Rattle.vlt_meaning_laws.specs.Machine.Got.{Got, got, stopped, then_got, found_in, opened_got, filled_got}
use Rattle.vlt_acts.specs.declared.values.values.Values.{Values}
use Rattle.vlt_acts.specs.Values.Parts.{HaveParts, HaveValue}
use Rattle.vlt_acts.specs.Values.Filled.{IsFilled}
use Rattle.vlt_acts.specs.Values.Shown.{ShowObjects, ShowsFrame, IsTable, var_at, key_at, IsKept, IsGrown, IsCut, AreApart, IsVarSlot}
use Rattle.vlt_acts.proofs.OfValues.Touching.{OrFault, then_fault, some_fault, so_fault}
use Rattle.vlt_acts.proofs.OfValues.Fronts.{IsSlotAt, has_part, front_part}
use Rattle.vlt_acts.proofs.OfValues.Writing.{value_moved, apart_from}
use Rattle.vlt_acts.proofs.OfValues.Pushing.{emptied_shown, owner_shown, frame_grown, grown_kept, value_grown}
use Rattle.vlt_acts.specs.Objects.Cases.{IsFrameSet, IsFilledWith, FillsParts, TellsCase, IsOpened, OpensArm}
use Rattle.vlt_acts.proofs.OfObjects.Going.{owned_fault}
use Rattle.vlt_acts.proofs.OfObjects.Owning.{found_at, loose_is}
use Rattle.vlt_acts.proofs.OfObjects.Tables.{grown_long, cut_shown, keys_within}

-- ---- the objects come back

case_fault : (k : KeyIn) (n : ℕ) (frame : Frame) (objects : List Thing) → OrFault (case_object k n frame objects)
case_fault k n frame objects =
    then_fault (or_fault no_value (frame.keys k.key)) (λ m. owned_at is_loose objects n >>= (λ o. if_so (m == n) other_object o >>= in_states k.states)) (some_fault no_value (frame.keys k.key)) (λ m.
    then_fault (owned_at is_loose objects n) (λ o. if_so (m == n) other_object o >>= in_states k.states) (owned_fault is_loose objects n) (λ o.
    then_fault (if_so (m == n) other_object o) (in_states k.states) (so_fault (m == n) other_object o) (λ q. so_fault (k.states q.object.state) wrong_state q)))

-- what its owner is, and where it stands
case_loose : (k : KeyIn) (n : ℕ) (frame : Frame) (objects : List Thing) (q : Named) → case_object k n frame objects ≡ Ok q → (o : Thing) × (slice_get objects n ≡ Some o) × (o.owner ≡ loose)
case_loose k n frame objects q e =
    let a = bound (or_fault no_value (frame.keys k.key)) _ q e in
    let b = bound (owned_at is_loose objects n) _ q a.2 in
    let f = found_at is_loose objects n b.0 b.1 in
    (f.object, f.at, loose_is f.object.owner f.test)

abbrev pub OpenShows : Items → (width : ℕ) → Frame → Got (Unit {0}) → Type 0
OpenShows items width frame (got u g w) = (g ≡ frame) × ShowObjects items width w.objects
OpenShows items width frame (stopped o w) = is_fault o ≡ true

pub open_shows : (items : Items) (width : ℕ) (ks : List KeyIn) (ns : List ℕ) (frame : Frame) (w : World) → ShowObjects items width w.objects → OpenShows items width frame (opened_got ks ns frame w)
unfolding then_got found_in
open_shows items width [] [] frame w shown = (refl, shown)
open_shows items width [] (n ∷ ns) frame w shown = refl
open_shows items width (k ∷ ks) [] frame w shown = refl
open_shows items width (k ∷ ks) (n ∷ ns) frame w shown =
    by (case_object k n frame w.objects) refl (case_fault k n frame w.objects) (λ z s. open_shows items width ks ns frame z s)
  where
    by : (x : Found Named) → case_object k n frame w.objects ≡ x → OrFault x → ((z : World) → ShowObjects items width z.objects → OpenShows items width frame (opened_got ks ns frame z))
        → OpenShows items width frame (then_got (found_in x frame w) (λ q frame w. opened_got ks ns frame (with_changed w n (with_owner (held frame.depth k.key)))))
    by (Ok q) e bad again =
        let l = case_loose k n frame w.objects q e in
        again (with_changed w n (with_owner (held frame.depth k.key)))
        (owner_shown items width n w.objects l.0 (held frame.depth k.key) shown l.1 (sym (ap is_gone l.2)) (sym (ap above l.2)) (sym (ap is_out l.2)))
    by (Err o) e bad again = bad

-- ---- the case

-- a value of a case
case_is : (x : Option Value) (d : Case) → case_in x ≡ Ok d → x ≡ Some (of_case d.number d.parts d.keys)
case_is None d e = absurd (err-ok e)
case_is (Some (one a)) d e = absurd (err-ok e)
case_is (Some (of_case c parts keys)) d e = ap (λ z. Some (of_case z.number z.parts z.keys)) (same e)
  where
    the : Case
    the = record { number = c; parts = parts; keys = keys }

    same : ◌≡◌ {A = Found Case} (Ok (record { number = c; parts = parts; keys = keys })) (Ok d) → record { number = c; parts = parts; keys = keys } ≡ d
    same e = ap of_ok e
      where
        of_ok : Found Case → Case
        of_ok (Ok z) = z
        of_ok (Err o) = record { number = c; parts = parts; keys = keys }

abbrev pub slot_number : Slot → Option ℤ
slot_number (Number z) = Some z
slot_number _ = None

pub number_reads : (a : Slot) (z y : ℤ) → a ≡ Number z → a ≡ Number y → z ≡ y
number_reads a z y e f = same_Some z y (ap slot_number (sym e ∙ f))

pub other_reads : (a : Slot) (z y : ℤ) → slot_number a ≡ None → a ≡ Number y → z ≡ y
other_reads a z y e f = absurd (none-some y (sym e ∙ ap slot_number f))

pub tells_case : (values : Values) (v : ℕ) (a : Slot) (z : ℤ) → IsSlotAt values.slots.items (var_at values v) a → ((y : ℤ) → a ≡ Number y → z ≡ y) → TellsCase v values z
tells_case values v a z front reads h c d e =
    let has = c.fits.vars v (of_case d.number d.parts d.keys) (case_is (c.frame.vars v) d e) in
    reads (pos d.number) (has_part c.items values.slots.items (var_at values v) (number (pos d.number)) a front (front_part c.items values.slots.items (var_at values v) values.width (of_case d.number d.parts d.keys) has.value.parts))

-- ---- an arm

have_first : (items : Items) (slots : List Slot) (k : ℕ) (ps qs : List Part) → HaveParts items slots k (ps ++ qs) → HaveParts items slots k ps
have_first items slots k [] qs have = tt
have_first items slots k (p ∷ ps) qs have = (have.0, have_first items slots (suc k) ps qs have.1)

-- the payload after the case
payload_at : (items : Items) (slots : List Slot) (k w c : ℕ) (parts : List Part) (keys : List ℕ) → HaveValue items slots k w (of_case c parts keys) → HaveParts items slots (suc k) parts
payload_at items slots k w c parts keys have = have_first items slots (suc k) parts _ (have_first items slots (suc k) (parts ++ map owned keys) _ have.parts.1)

emptied_keeps : (items : Items) (values : Values) (f : Func) (v : ℕ) (frame : Frame) → ShowsFrame items values frame → ShowsFrame items values (with_empty_variable f v frame) × ((with_empty_variable f v frame).keys ≡ frame.keys)
emptied_keeps items values f v frame shown = by (is_owning_var f v)
  where
    by : (t : Bool) → ShowsFrame items values (if t then with_var v None frame else frame) × ((if t then with_var v None frame else frame).keys ≡ frame.keys)
    by true = (emptied_shown items values frame v shown, refl)
    by false = (shown, refl)

pub opens_arm : (heap : Heap) (values grown mid set last : Values) (v end next : ℕ) (vs : List ℕ) → end ≡ length values.slots.items → next ≡ suc end → IsTable values → v < values.vars → IsGrown values grown → IsKept end grown mid
    → (AreApart (var_at grown v) end grown.width → IsFilled (IsVarSlot grown v) mid.slots.items end grown.width) → IsFrameSet mid set → FillsParts next vs mid set → IsCut end set last → OpensArm v vs heap values last
unfolding then_got
opens_arm heap values grown mid set last v end next vs is_end is_next table within g kept filled frame_set fills cut c w d ks same is =
    by (opened_got ks d.keys c.frame w) (open_shows c.items values.width ks d.keys c.frame w (subst (ShowObjects c.items values.width) (sym same) c.shown))
  where
    gm : IsGrown values mid
    gm = grown_kept values grown mid end g is_end kept

    all : IsTable grown
    all = rw (g.base, g.vars, g.width) (let l = grown_long values grown g in omega (arith, l, table))

    place : grown.base + grown.vars * grown.width ≤ end
    place = rw (g.base, g.vars, g.width) (omega (arith, is_end, table))

    payload : HaveParts c.items mid.slots.items next d.parts
    payload =
        let has = value_grown c.items values grown (var_at values v) values.width (of_case d.number d.parts d.keys) g (c.fits.vars v (of_case d.number d.parts d.keys) (case_is (c.frame.vars v) d is)).value in
        let at : HaveValue c.items grown.slots.items (var_at grown v) grown.width (of_case d.number d.parts d.keys) = rw (g.base, g.width) has in
        let moved = value_moved c.items grown.slots.items mid.slots.items (var_at grown v) end grown.width (of_case d.number d.parts d.keys)
        (λ j b l at_b. filled (apart_from grown v end (subst (λ z. v < z) (sym g.vars) within) (inr place)) j b l at_b) at in
        subst (λ j. HaveParts c.items mid.slots.items j d.parts) (sym is_next) (payload_at c.items mid.slots.items end grown.width d.number d.parts d.keys moved)

    shown : ShowsFrame c.items mid c.frame
    shown = frame_grown c.items values mid c.frame gm c.fits

    end_with : (u : World) → ShowObjects c.items values.width u.objects → (x : Got (Unit {0})) → IsFilledWith c.items set (with_empty_variable c.func v c.frame) u x → IsOpened c.items heap last x
    end_with u objects (got t f2 u2) h = record {
      items = c.items;
      holds = c.holds;
      objects_shown = subst (λ z. ShowObjects c.items z u2.objects) (sym (cut.width ∙ frame_set.width ∙ gm.width)) (subst (λ z. ShowObjects c.items values.width z.objects) (sym h.2) objects);
      frame_shown = cut_shown c.items set last f2 end cut (rw (frame_set.base, frame_set.vars, frame_set.width, gm.base, gm.vars, gm.width) (omega (arith, table, is_end)))
          (λ k m e. rw (frame_set.base, frame_set.vars, frame_set.width) (subst (λ z. key_at mid k < z) (sym is_end) (keys_within c.items values mid c.frame gm c.fits k m
          (ap (λ z. z k) (sym ((emptied_keeps c.items mid c.func v c.frame shown).1)) ∙ ap (λ z. z k) (sym h.1) ∙ e)))) h.0;
      kept = λ b m made. made;
    }
    end_with u objects (stopped o u2) h = h

    by : (x : Got (Unit {0})) → OpenShows c.items values.width c.frame x → IsOpened c.items heap last (then_got x (λ u f w. filled_got c.func vs (map one d.parts) (with_empty_variable c.func v c.frame) w))
    by (got t f u) h = end_with u h.1 (filled_got c.func vs (map one d.parts) (with_empty_variable c.func v c.frame) u)
        (fills c.items c.func (with_empty_variable c.func v c.frame) u d.parts (emptied_keeps c.items mid c.func v c.frame shown).0 payload)
    by (stopped o u) h = h
