-- Keys that name objects.
use Rattle.std.proofs.Common.{◌≡◌, ◌≢◌, ℕ, ◌<◌, ◌≤◌, ◌==◌, Bool, true, false, if◌then◌else◌, List, Option, Some, None, Ok, Err, refl, sym, ap, ◌∙◌, subst, arith, slice_get}
use Rattle.std.proofs.lemmas.Bool.{false≢true}
use Rattle.std.proofs.lemmas.Bool.Decides.{nat_tests}
use Rattle.std.proofs.lemmas.Option.{same_Some}
use Rattle.vlt_core.specs.Core.{States, unpack}
use Rattle.vlt_core.specs.Lookups.{Reference, reference_of, owning_states}
use Rattle.vlt_rings.proofs.Rows.{row_fits}
use Rattle.vlt_heap.specs.declared.slots.Obj.{Obj}
use Rattle.vlt_heap.specs.declared.slots.Slot.{Slot}
use Rattle.vlt_heap.specs.declared.slots.Slot.TheVariants.{Object as Referred, Owned}
use Rattle.vlt_heap.specs.declared.heap.Heap.{Heap}
use Rattle.vlt_heap.specs.Items.{Items}
use Rattle.vlt_meaning.specs.World.{Value, one, of_case, number, reference, owned, Owner, held, lent, loose, inside, adopted_by, out, gone, is_loose, is_gone, is_out, above, Object, World, Frame, trap, fault, done, fuel_end, heap_end, depth_end, input_end, answers_end, bad_answer, missing}
use Rattle.vlt_meaning.specs.Found as sd
use Rattle.vlt_meaning.specs.Found.{◌>>=◌, or_fault, Named}
use Rattle.vlt_meaning.specs.Objects.{owned_at, in_states, with_owner, with_changed_object}
use Rattle.vlt_meaning.specs.Operands.{owned_in}
use Rattle.vlt_meaning.specs.Step.{Step, goes, with_found, with_changed, with_var, with_key}
use Rattle.vlt_meaning.specs.Run.{does_simple}
use Rattle.vlt_meaning_laws.proofs.Keeping.{bound}
use Rattle.vlt_acts.specs.declared.values.values.Values.{Values}
use Rattle.vlt_acts.specs.Values.Parts.{IsObject, IsOwned, HasPartAt}
use Rattle.vlt_acts.specs.Values.Filled.{IsFilled, IsSingleSlot}
use Rattle.vlt_acts.specs.Values.Shown.{ShowObjects, var_at, key_at, ShowsFrame, Seen, IsKept, IsKeySet}
use Rattle.vlt_acts.proofs.OfValues.Touching.{OrFault, then_fault, object_fault, so_fault, so_is, object_is}
use Rattle.vlt_acts.proofs.OfValues.Fronts.{IsSlotAt, has_part}
use Rattle.vlt_acts.proofs.OfValues.Pushing.{emptied_shown, owner_shown}
use Rattle.vlt_acts.specs.Acts.Acts.{setup, Does}
use Rattle.vlt_acts.proofs.OfActs.Keeping.{value_same, single_at, assigned}

-- ---- a key names an object

pub named_shown : (items : Items) (old new : Values) (frame : Frame) (k n : ℕ) (a : Slot) → IsKeySet k a old new → IsObject items n a → ShowsFrame items old frame → ShowsFrame items new (with_key k n frame)
named_shown items old new frame k n a set is h = record {
  vars = λ v b e.
      let q = h.vars v b e in
      let fits = row_fits v old.vars old.width old.width q.within (omega arith) in
      record {
        within = subst (λ z. v < z) (sym set.vars) q.within;
        value = rw (set.base, set.width) (value_same items old.slots.items new.slots.items (var_at old v) old.width b (λ j low high. set.others j (λ e. absurd (omega (arith, e, high, fits)))) q.value);
      };
  keys = λ j m e. rw (set.base, set.vars, set.width) (by j m (j == k) refl e);
}
  where
    same_key : (j : ℕ) → (j == k) ≡ true → j ≡ k
    same_key j e = grind (arith, nat_tests)

    other_key : (j : ℕ) → (j == k) ≡ false → j ≢ k
    other_key j e same = absurd (grind (arith, nat_tests))

    by : (j m : ℕ) (t : Bool) → (j == k) ≡ t → (if t then Some n else frame.keys j) ≡ Some m → HasPartAt items new.slots.items (key_at old j) (reference m)
    by j m true t e = record {
      slot = a;
      at = ap (λ z. slice_get new.slots.items (key_at old z)) (same_key j t) ∙ set.here;
      part = subst (λ z. IsObject items z a) (same_Some n m e) is;
    }
    by j m false t e =
        let q = h.keys j m e in
        record { slot = q.slot; at = set.others (key_at old j) (λ z. other_key j t (omega (arith, z))) ∙ q.at; part = q.part }

-- ---- an owning variable's object goes under a key

loose_root : (o : Owner) → is_loose o ≡ true → (is_gone o ≡ false) × (above o ≡ None) × (is_out o ≡ false)
loose_root (held e j) h = absurd (false≢true h)
loose_root (lent e j) h = absurd (false≢true h)
loose_root loose h = (refl, refl, refl)
loose_root (inside n) h = absurd (false≢true h)
loose_root (adopted_by n) h = absurd (false≢true h)
loose_root out h = absurd (false≢true h)
loose_root gone h = absurd (false≢true h)

loose_fault : (states : States) (objects : List Object) (n : ℕ) → OrFault (owned_at is_loose objects n >>= in_states states)
loose_fault states objects n =
    then_fault (owned_at is_loose objects n) _ (then_fault _ _ (object_fault objects n) (λ m. so_fault _ _ m)) (λ m. so_fault _ _ m)

pub unpack_does : (h : Heap) (old mid new : Values) (c : Seen h old) (w : World) (n d x v to : ℕ) (q : Reference) (a b : Slot) → w.objects ≡ c.objects → reference_of c.func x ≡ Some q → x < old.vars → 1 ≤ old.width → IsSlotAt old.slots.items (var_at old v) a → ((o : Obj) (i : ℕ) → a ≡ Owned o i → b ≡ Referred o i)
    → IsKeySet q.key b old mid → to ≡ var_at mid x → IsKept to mid new → IsFilled (IsSingleSlot b) new.slots.items to mid.width → Does c.items h new (Ok tt) (does_simple (setup c.program n d) c.func (unpack x v) c.frame w)
unfolding with_found
unpack_does h old mid new c w n d x v to q a b same is within wide front unpacked set is_to kept filled =
    subst (λ z. Does c.items h new (Ok tt) (with_found (or_fault missing z) w start)) (sym is) (first (owning_states c.func v))
  where
    last : ℕ → Step
    last m = goes (with_var x (Some (one (reference m))) (with_key q.key m (with_var v None c.frame))) (with_changed w m (with_owner (held c.frame.depth q.key)))

    start : Reference → Step
    start q = with_found (or_fault missing (owning_states c.func v)) w (λ states. with_found (owned_in (c.frame.vars v)) w (λ m. with_found (owned_at is_loose w.objects m >>= in_states states) w (λ o.
        goes (with_var x (Some (one (reference m))) (with_key q.key m (with_var v None c.frame))) (with_changed w m (with_owner (held c.frame.depth q.key))))))

    done_it : (m : ℕ) (o : Object) → c.frame.vars v ≡ Some (one (owned m)) → slice_get w.objects m ≡ Some o → is_loose o.owner ≡ true → Does c.items h new (Ok tt) (last m)
    done_it m o has at_o free =
        let part : IsOwned c.items m a = has_part c.items old.slots.items (var_at old v) (owned m) a front (c.fits.vars v (one (owned m)) has).value.parts.0 in
        let ref : IsObject c.items m b = record { object = part.object; is = unpacked part.object m part.is; made = part.made } in
        let root = loose_root o.owner free in
        let width : new.width ≡ old.width = kept.width ∙ set.width in
        record {
          is = refl;
          shows = record {
            items = c.items;
            holds = c.holds;
            objects_shown = subst (λ z. ShowObjects c.items z (with_changed_object m (with_owner (held c.frame.depth q.key)) w.objects)) (sym width)
                (owner_shown c.items old.width m w.objects o (held c.frame.depth q.key) (subst (ShowObjects c.items old.width) (sym same) c.shown) at_o (sym root.0) (sym root.1) (sym root.2));
            frame_shown = assigned c.items mid new (with_key q.key m (with_var v None c.frame)) x (one (reference m)) (subst (λ z. x < z) (sym set.vars) within) (subst (λ z. IsKept z mid new) is_to kept)
                (single_at c.items new.slots.items to (var_at mid x) mid.width new.width b (reference m) is_to kept.width (subst (λ z. 1 ≤ z) (sym set.width) wide) ref filled)
                (named_shown c.items old mid (with_var v None c.frame) q.key m b set ref (emptied_shown c.items old c.frame v c.fits));
            kept = λ b k made. made;
          };
        }

    third : (states : States) (m : ℕ) → c.frame.vars v ≡ Some (one (owned m)) → (z : sd.Found Named) → owned_at is_loose w.objects m >>= in_states states ≡ z → OrFault z → Does c.items h new (Ok tt) (with_found z w (λ o. last m))
    third states m has (Ok o) e bad =
        let b = bound (owned_at is_loose w.objects m) _ o e in
        let f = bound _ _ b.0 b.1 in
        let s = so_is (is_loose f.0.object.owner) _ f.0 b.0 f.2 in
        let at_o = object_is w.objects m f.0 f.1 in
        done_it m f.0.object has at_o.1 s.0
    third states m has (Err done) e bad = bad
    third states m has (Err (trap t)) e bad = absurd (false≢true bad)
    third states m has (Err fuel_end) e bad = bad
    third states m has (Err heap_end) e bad = bad
    third states m has (Err depth_end) e bad = bad
    third states m has (Err input_end) e bad = bad
    third states m has (Err answers_end) e bad = bad
    third states m has (Err (bad_answer k)) e bad = bad
    third states m has (Err (fault s k)) e bad = bad

    second : (states : States) (z : Option Value) → c.frame.vars v ≡ z
        → Does c.items h new (Ok tt) (with_found (owned_in z) w (λ m. with_found (owned_at is_loose w.objects m >>= in_states states) w (λ o. last m)))
    second states None e = refl
    second states (Some (one (owned m))) e = third states m e (owned_at is_loose w.objects m >>= in_states states) refl (loose_fault states w.objects m)
    second states (Some (one (number k))) e = refl
    second states (Some (one (reference k))) e = refl
    second states (Some (of_case k ps ks)) e = refl

    first : (z : Option States) → Does c.items h new (Ok tt) (with_found (or_fault missing z) w (λ states. with_found (owned_in (c.frame.vars v)) w (λ m. with_found (owned_at is_loose w.objects m >>= in_states states) w (λ o. last m))))
    first None = refl
    first (Some states) = second states (c.frame.vars v) refl

pub unpack_none : (h : Heap) (values : Values) (c : Seen h values) (w : World) (n d x v : ℕ) → reference_of c.func x ≡ None → Does c.items h values (Ok tt) (does_simple (setup c.program n d) c.func (unpack x v) c.frame w)
unfolding with_found
unpack_none h values c w n d x v is =
    subst (λ z. Does c.items h values (Ok tt) (with_found (or_fault missing z) w (λ q. with_found (or_fault missing (owning_states c.func v)) w (λ states. with_found (owned_in (c.frame.vars v)) w (λ m. with_found (owned_at is_loose w.objects m >>= in_states states) w (λ o.
    goes (with_var x (Some (one (reference m))) (with_key q.key m (with_var v None c.frame))) (with_changed w m (with_owner (held c.frame.depth q.key))))))))) (sym is) refl
