-- Objects of a case that come back to its value.
use Rattle.std.proofs.Common.{◌≡◌, ℕ, Bool, true, false, List, [], ◌∷◌, None, Some, Ok, Err, refl, sym, ap, ◌∙◌, subst}
use Rattle.std.specs.Option.{option_and_then}
use Rattle.std.proofs.lemmas.Bool.{false≢true}
use Rattle.std.proofs.lemmas.Option.{none-some}
use Rattle.vlt_core.specs.Core.{CaseKey}
use Rattle.vlt_heap.specs.declared.slots.Obj.{Obj}
use Rattle.vlt_heap.specs.declared.slots.Slot.{Slot}
use Rattle.vlt_heap.specs.declared.slots.Slot.TheVariants.{Object}
use Rattle.vlt_heap.specs.declared.heap.Heap.{Heap}
use Rattle.vlt_heap.specs.Items.{IsMadeAt}
use Rattle.vlt_heap.specs.Shown.{TakesBack}
use Rattle.vlt_meaning.specs.World.{Object as Thing, is_out, loose}
use Rattle.vlt_meaning.specs.Found.{Found, ◌>>=◌}
use Rattle.vlt_meaning.specs.Objects.{owned_at, with_owner, with_changed_object, objects_after_move}
use Rattle.vlt_acts.specs.declared.values.values.Values.{Values}
use Rattle.vlt_acts.specs.Values.Parts.{IsObject}
use Rattle.vlt_acts.specs.Values.Shown.{Seen, key_at}
use Rattle.vlt_acts.proofs.OfValues.Fronts.{IsSlotAt, IsNoObject, has_part, same_object}
use Rattle.vlt_acts.specs.Acts.Acts.{Shows}
use Rattle.vlt_externals.specs.Back.{AreBack}
use Rattle.vlt_externals.proofs.Going.{all_shown, seen_after, shows_twice, shows_same}
use Rattle.vlt_externals.proofs.Coming.{IsOneBack, one_back}
use Rattle.vlt_externals.specs.Results.Stated.{key_for, AreCaseObjects, ComesOneLoose, ComesLoose}

module _ (old new : Heap) (values : Values) (k : ℕ) (a : Slot) (slot : IsSlotAt values.slots.items (key_at values k) a) where
  slot_is : (c : Seen old values) (n : ℕ) → c.frame.keys k ≡ Some n → IsObject c.items n a
  slot_is c n named = has_part c.items values.slots.items (key_at values k) _ a slot (c.fits.keys k n named)

  pub key_loose : (o : Obj) (m : ℕ) (b : Bool) → a ≡ Object o m → TakesBack b o m old new → ComesOneLoose k values old new b
  key_loose o m b is back c n named =
      let ref = slot_is c n named in
      let same = same_object (sym is ∙ ref.is) in
      by (objects_after_move is_out loose (n ∷ []) c.objects)
      (one_back old new c.items values.width c.objects o n loose b (record { live = refl; root = refl; here = refl }) c.holds c.shown (subst (λ q. IsMadeAt c.items q.0 n) (sym same.0) ref.made) (subst (λ i. TakesBack b o i old new) same.1 back))
    where
      by : (x : Found (List Thing)) → IsOneBack c.items new values.width b x → AreBack c.items new values c.frame b x
      by (Ok objects) h = (h.0, all_shown old new values c objects h.1)
      by (Err q) h = h

pub other_loose : (h : Heap) (values : Values) (k : ℕ) (a : Slot) → IsSlotAt values.slots.items (key_at values k) a → IsNoObject a → ComesOneLoose k values h h false
other_loose h values k a slot other c n named =
    let ref = slot_is h h values k a slot c n named in absurd (other ref.object n ref.is)

-- ---- one after another

moved_split : (n : ℕ) (ns : List ℕ) (objects : List Thing) → objects_after_move is_out loose (n ∷ ns) objects ≡ (objects_after_move is_out loose (n ∷ []) objects >>= (λ back. objects_after_move is_out loose ns back))
moved_split n ns objects = by (owned_at is_out objects n)
  where
    by : {A : Type 0} → (x : Found A) → (x >>= (λ m. objects_after_move is_out loose ns (with_changed_object n (with_owner loose) objects))) ≡ ((x >>= (λ m. Ok (with_changed_object n (with_owner loose) objects))) >>= (λ back. objects_after_move is_out loose ns back))
    by (Ok m) = refl
    by (Err o) = refl

module _ (keys args : List ℕ) where
  pub none_loose : (h : Heap) (values : Values) → ComesLoose keys args [] values h h true
  none_loose h values c ns are = by ns are
    where
      by : (ns : List ℕ) → AreCaseObjects keys args c.frame [] ns → AreBack c.items h values c.frame true (objects_after_move is_out loose ns c.objects)
      by [] are = (refl, shows_same h values c)
      by (n ∷ ns) are = absurd are

  pub missing_loose : (h : Heap) (values : Values) (k : CaseKey) (ks : List CaseKey) → key_for keys args k.position ≡ None → ComesLoose keys args (k ∷ ks) values h h false
  missing_loose h values k ks key c ns are = by ns are
    where
      by : (ns : List ℕ) → AreCaseObjects keys args c.frame (k ∷ ks) ns → AreBack c.items h values c.frame false (objects_after_move is_out loose ns c.objects)
      by [] are = absurd are
      by (n ∷ ns) are = absurd (none-some n (ap (option_and_then c.frame.keys) (sym key) ∙ are.0))

  pub both_loose : (old between new : Heap) (values : Values) (k : CaseKey) (ks : List CaseKey) (key : ℕ) (b : Bool) → key_for keys args k.position ≡ Some key → ComesOneLoose key values old between true → ComesLoose keys args ks values between new b
      → ComesLoose keys args (k ∷ ks) values old new b
  both_loose old between new values k ks key b is first others c ns are = by ns are
    where
      later : (ns : List ℕ) → AreCaseObjects keys args c.frame ks ns → (objects : List Thing) (s : Shows c.items between values c.frame objects) (y : Found (List Thing)) → AreBack s.items new values c.frame b y → AreBack c.items new values c.frame b y
      later ns are objects s (Ok after) h = (h.0, shows_twice old between new values c objects after s h.1)
      later ns are objects s (Err o) h = h

      one : (n : ℕ) (ns : List ℕ) → AreCaseObjects keys args c.frame ks ns → (x : Found (List Thing)) → AreBack c.items between values c.frame true x → AreBack c.items new values c.frame b (x >>= (λ back. objects_after_move is_out loose ns back))
      one n ns are (Ok objects) h = later ns are objects h.1 (objects_after_move is_out loose ns objects) (others (seen_after old between values c objects h.1) ns are)
      one n ns are (Err o) h = absurd (false≢true (sym h))

      by : (ns : List ℕ) → AreCaseObjects keys args c.frame (k ∷ ks) ns → AreBack c.items new values c.frame b (objects_after_move is_out loose ns c.objects)
      by [] are = absurd are
      by (n ∷ ns) are =
          subst (AreBack c.items new values c.frame b) (sym (moved_split n ns c.objects))
          (one n ns are.1 (objects_after_move is_out loose (n ∷ []) c.objects) (first c n (ap (option_and_then c.frame.keys) (sym is) ∙ are.0)))

  pub loose_stops : (old new : Heap) (values : Values) (k : CaseKey) (ks : List CaseKey) (key : ℕ) → key_for keys args k.position ≡ Some key → ComesOneLoose key values old new false → ComesLoose keys args (k ∷ ks) values old new false
  loose_stops old new values k ks key is first c ns are = by ns are
    where
      one : (ns : List ℕ) (x : Found (List Thing)) → AreBack c.items new values c.frame false x → AreBack c.items new values c.frame false (x >>= (λ back. objects_after_move is_out loose ns back))
      one ns (Ok objects) h = absurd (false≢true h.0)
      one ns (Err o) h = refl

      by : (ns : List ℕ) → AreCaseObjects keys args c.frame (k ∷ ks) ns → AreBack c.items new values c.frame false (objects_after_move is_out loose ns c.objects)
      by [] are = absurd are
      by (n ∷ ns) are =
          subst (AreBack c.items new values c.frame false) (sym (moved_split n ns c.objects))
          (one ns (objects_after_move is_out loose (n ∷ []) c.objects) (first c n (ap (option_and_then c.frame.keys) (sym is) ∙ are.0)))
