-- Objects that come back, and states.
use Rattle.std.proofs.Common.{◌≡◌, ◌≢◌, ◌⊎◌, inl, inr, ℕ, Bool, true, false, if◌then◌else◌, List, [], ◌∷◌, length, Option, None, Some, Ok, Err, refl, sym, ap, ◌∙◌, subst, arith, slice_get}
use Rattle.std.specs.Option.{option_and_then}
use Rattle.std.proofs.lemmas.Bool.{false≢true}
use Rattle.std.proofs.lemmas.List.{length-set}
use Rattle.std.proofs.lemmas.Option.{none-some, same_Some}
use Rattle.vlt_core.specs.Core.{Entry}
use Rattle.vlt_rings.proofs.Calls.{item_at}
use Rattle.vlt_rings.proofs.Lists.{equal_or_not}
use Rattle.vlt_heap.specs.declared.slots.Obj.{Obj}
use Rattle.vlt_heap.specs.declared.slots.Slot.{Slot}
use Rattle.vlt_heap.specs.declared.slots.Slot.TheVariants.{Object}
use Rattle.vlt_heap.specs.declared.heap.Heap.{Heap}
use Rattle.vlt_heap.specs.Items.{Item, Items, IsAt, IsMadeAt, with_item, with_out, with_state as item_state}
use Rattle.vlt_heap.specs.Shown.{Holds, Changes, Tells, TakesBack, CameBack}
use Rattle.vlt_heap.proofs.Listed.{kept_with}
use Rattle.vlt_meaning.specs.World.{Owner, held, lent, loose, inside, adopted_by, out, gone, is_gone, is_out, above, Object as Thing, Frame, fault, missing, not_owned}
use Rattle.vlt_meaning.specs.Found.{Found, ◌>>=◌, or_fault, if_so}
use Rattle.vlt_meaning.specs.Objects.{named_in, with_owner, with_state, with_changed_object, changed_in, objects_after_move}
use Rattle.vlt_meaning.specs.Externals.{is_given, come_back}
use Rattle.vlt_meaning_laws.proofs.Keeping.{change_here, change_elsewhere}
use Rattle.vlt_acts.specs.declared.values.values.Values.{Values}
use Rattle.vlt_acts.specs.Values.Parts.{IsObject}
use Rattle.vlt_acts.specs.Values.Shown.{ShowsIt, ShowObjects, Seen, key_at}
use Rattle.vlt_acts.proofs.OfValues.Fronts.{IsSlotAt, IsNoObject, has_part, same_object}
use Rattle.vlt_acts.specs.Acts.Acts.{Shows}
use Rattle.vlt_acts.proofs.OfActs.Showing.{one_shown}
use Rattle.vlt_externals.specs.Sent.{ShowsAll, IsNamed}
use Rattle.vlt_externals.specs.Back.{AreBack, ComesBack, IsStateSet, Becomes}
use Rattle.vlt_externals.proofs.Going.{all_shown, seen_after, shows_twice, shows_same}

-- ---- one object

-- what is at a position is there
pub record Known (items : Items) (width : ℕ) (objects : List Thing) (n : ℕ) : Type 0 where
  pub item : Option Item
  pub at : slice_get items n ≡ Some item
  pub object : Thing
  pub object_at : slice_get objects n ≡ Some object
  pub shown : ShowsIt items width item object

pub known : (items : Items) (width c n : ℕ) (objects : List Thing) → ShowObjects items width objects → IsMadeAt items c n → Known items width objects n
known items width c n objects shown made =
    let x = item_at items n made.made in
    let o = item_at objects n (let l = made.made in omega (arith, l, shown.long)) in
    record { item = x.item; at = x.at; object = o.item; object_at = o.at; shown = shown.each n x.item o.item x.at o.at }

abbrev pub come_to : (n : ℕ) → Owner → List Thing → Bool → Found (List Thing)
come_to n owner objects b = if b then Ok (with_changed_object n (with_owner owner) objects) else Err (fault not_owned (Some n))

-- one object is moved where its owner passes the test
pub moved_at : (from : Owner → Bool) (to : Owner) (n : ℕ) (objects : List Thing) (x : Thing) (b : Bool) → slice_get objects n ≡ Some x → from x.owner ≡ b → objects_after_move from to (n ∷ []) objects ≡ come_to n to objects b
moved_at from to n objects x b at is =
    ap (λ y. (named_in n y >>= (λ m. if_so (from m.object.owner) not_owned m)) >>= (λ m. Ok (with_changed_object n (with_owner to) objects))) at
    ∙ ap (λ t. if_so t not_owned (record { number = n; object = x }) >>= (λ m. Ok (with_changed_object n (with_owner to) objects))) is
    ∙ by b
  where
    by : (b : Bool) → (if_so b not_owned (record { number = n; object = x }) >>= (λ m. Ok (with_changed_object n (with_owner to) objects))) ≡ come_to n to objects b
    by true = refl
    by false = refl

gone_not_out : (o : Owner) → is_gone o ≡ true → is_out o ≡ false
gone_not_out gone h = refl
gone_not_out (held e j) h = refl
gone_not_out (lent e j) h = refl
gone_not_out loose h = refl
gone_not_out (inside n) h = refl
gone_not_out (adopted_by n) h = refl
gone_not_out out h = absurd (false≢true h)

out_above : (o : Owner) → is_out o ≡ true → above o ≡ None
out_above out h = refl
out_above (held e j) h = absurd (false≢true h)
out_above (lent e j) h = absurd (false≢true h)
out_above loose h = absurd (false≢true h)
out_above (inside n) h = absurd (false≢true h)
out_above (adopted_by n) h = absurd (false≢true h)
out_above gone h = absurd (false≢true h)

-- what is come to, at one object
abbrev pub IsOneBack : Items → Heap → (width : ℕ) → Bool → Found (List Thing) → Type 0
IsOneBack items heap width b (Ok objects) = (b ≡ true) × ShowsAll items heap width objects
IsOneBack items heap width b (Err o) = b ≡ false

-- who may have an object that comes back
pub record IsKeeper (to : Owner) : Type 0 where
  pub live : is_gone to ≡ false
  pub root : above to ≡ None
  pub here : is_out to ≡ false

pub one_back : (old new : Heap) (items : Items) (width : ℕ) (objects : List Thing) (o : Obj) (n : ℕ) (to : Owner) (b : Bool) → IsKeeper to → Holds old items → ShowObjects items width objects → IsMadeAt items o.0 n → TakesBack b o n old new
    → IsOneBack items new width b (objects_after_move is_out to (n ∷ []) objects)
one_back old new items width objects o n to b keeper holds shown made back = by b (back items holds)
  where
    k : Known items width objects n
    k = known items width o.0 n objects shown made

    by : (b : Bool) → CameBack b items n o.0 old new → IsOneBack items new width b (objects_after_move is_out to (n ∷ []) objects)
    by true q =
        let s = subst (λ y. ShowsIt items width y k.object) (same_Some k.item (Some q.0) (sym k.at ∙ q.1)) k.shown in
        let keep = kept_with items n q.0 (with_out false q.0) q.1 refl in
        let outside = sym s.is_out ∙ q.3 in
        subst (IsOneBack items new width true) (sym (moved_at is_out to n objects k.object true k.object_at outside)) (
          refl,
          record {
            items = with_item n (with_out false q.0) items;
            holds = q.4;
            shown = one_shown items width n objects q.0 (with_out false q.0) k.object (with_owner to) keep shown q.1 k.object_at
                (record { live = keeper.live; type = s.type; state = s.state; parent = s.parent ∙ out_above k.object.owner outside ∙ sym keeper.root; is_out = sym keeper.here; cells = s.cells });
            kept = keep;
          },
        )
    by false q = subst (IsOneBack items new width false) (sym (moved_at is_out to n objects k.object false k.object_at (here k.item k.at k.shown))) refl
      where
        here : (x : Option Item) → slice_get items n ≡ Some x → ShowsIt items width x k.object → is_out k.object.owner ≡ false
        here None at s = gone_not_out k.object.owner s
        here (Some x) at s = sym s.is_out ∙ q.0 x at (made.place x at)

-- ---- an entry

given_is : (keys : List ℕ) (frame : Frame) (e : Entry) (es : List Entry) (objects : List Thing) (k n : ℕ) → is_given e ≡ true → slice_get keys e.key ≡ Some k → frame.keys k ≡ Some n
    → come_back keys frame (e ∷ es) objects ≡ (objects_after_move is_out (held frame.depth k) (n ∷ []) objects >>= (λ back. come_back keys frame es back))
given_is keys frame e es objects k n given key named =
    ap (λ b. if b then (or_fault missing (slice_get keys e.key) >>= (λ k. or_fault missing (frame.keys k) >>= (λ n. objects_after_move is_out (held frame.depth k) (n ∷ []) objects >>= (λ back. come_back keys frame es back)))) else come_back keys frame es objects) given
    ∙ ap (λ x. or_fault missing x >>= (λ k. or_fault missing (frame.keys k) >>= (λ n. objects_after_move is_out (held frame.depth k) (n ∷ []) objects >>= (λ back. come_back keys frame es back)))) key
    ∙ ap (λ x. or_fault missing x >>= (λ n. objects_after_move is_out (held frame.depth k) (n ∷ []) objects >>= (λ back. come_back keys frame es back))) named

pub not_given : (keys : List ℕ) (frame : Frame) (e : Entry) (es : List Entry) (objects : List Thing) → is_given e ≡ false → come_back keys frame (e ∷ es) objects ≡ come_back keys frame es objects
not_given keys frame e es objects given =
    ap (λ b. if b then (or_fault missing (slice_get keys e.key) >>= (λ k. or_fault missing (frame.keys k) >>= (λ n. objects_after_move is_out (held frame.depth k) (n ∷ []) objects >>= (λ back. come_back keys frame es back)))) else come_back keys frame es objects) given

module _ (old new : Heap) (values : Values) (keys : List ℕ) (e : Entry) (k : ℕ) (a : Slot) (given : is_given e ≡ true) (key : slice_get keys e.key ≡ Some k) (slot : IsSlotAt values.slots.items (key_at values k) a) where
  named_key : (c : Seen old values) (n : IsNamed keys c.frame e) → c.frame.keys k ≡ Some n.number
  named_key c n = ap (option_and_then c.frame.keys) (sym key) ∙ n.is

  slot_is : (c : Seen old values) (n : IsNamed keys c.frame e) → IsObject c.items n.number a
  slot_is c n = has_part c.items values.slots.items (key_at values k) _ a slot (c.fits.keys k n.number (named_key c n))

  pub key_back : (o : Obj) (m : ℕ) (b : Bool) → a ≡ Object o m → TakesBack b o m old new → ComesBack keys (e ∷ []) values old new b
  key_back o m b is back c named =
      let n = named.0 given in
      let ref = slot_is c n in
      let same = same_object (sym is ∙ ref.is) in
      let one = one_back old new c.items values.width c.objects o n.number (held c.frame.depth k) b (record { live = refl; root = refl; here = refl }) c.holds c.shown (subst (λ q. IsMadeAt c.items q.0 n.number) (sym same.0) ref.made) (subst (λ i. TakesBack b o i old new) same.1 back) in
      subst (AreBack c.items new values c.frame b) (sym (given_is keys c.frame e [] c.objects k n.number given key (named_key c n))) (by c (objects_after_move is_out (held c.frame.depth k) (n.number ∷ []) c.objects) one)
    where
      by : (c : Seen old values) (x : Found (List Thing)) → IsOneBack c.items new values.width b x → AreBack c.items new values c.frame b (x >>= (λ back. Ok back))
      by c (Ok objects) h = (h.0, all_shown old new values c objects h.1)
      by c (Err q) h = h

pub other_back : (h : Heap) (values : Values) (keys : List ℕ) (e : Entry) (k : ℕ) (a : Slot) → is_given e ≡ true → slice_get keys e.key ≡ Some k → IsSlotAt values.slots.items (key_at values k) a → IsNoObject a → ComesBack keys (e ∷ []) values h h false
other_back h values keys e k a given key slot other c named =
    let ref = slot_is h h values keys e k a given key slot c (named.0 given) in absurd (other ref.object _ ref.is)

pub missing_back : (h : Heap) (values : Values) (keys : List ℕ) (e : Entry) → is_given e ≡ true → slice_get keys e.key ≡ None → ComesBack keys (e ∷ []) values h h false
missing_back h values keys e given key c named =
    let n = named.0 given in absurd (none-some n.number (ap (option_and_then c.frame.keys) (sym key) ∙ n.is))

-- ---- one entry, then the others

come_split : (keys : List ℕ) (frame : Frame) (e : Entry) (es : List Entry) (objects : List Thing) → come_back keys frame (e ∷ es) objects ≡ (come_back keys frame (e ∷ []) objects >>= (λ back. come_back keys frame es back))
come_split keys frame e es objects = by (is_given e)
  where
    last : (x : Found (List Thing)) → (x >>= (λ back. come_back keys frame es back)) ≡ ((x >>= (λ back. Ok back)) >>= (λ back. come_back keys frame es back))
    last (Ok back) = refl
    last (Err o) = refl

    named : (k : ℕ) (x : Option ℕ) → (or_fault missing x >>= (λ n. objects_after_move is_out (held frame.depth k) (n ∷ []) objects >>= (λ back. come_back keys frame es back)))
        ≡ ((or_fault missing x >>= (λ n. objects_after_move is_out (held frame.depth k) (n ∷ []) objects >>= (λ back. Ok back))) >>= (λ back. come_back keys frame es back))
    named k None = refl
    named k (Some n) = last (objects_after_move is_out (held frame.depth k) (n ∷ []) objects)

    keyed : (x : Option ℕ) → (or_fault missing x >>= (λ k. or_fault missing (frame.keys k) >>= (λ n. objects_after_move is_out (held frame.depth k) (n ∷ []) objects >>= (λ back. come_back keys frame es back))))
        ≡ ((or_fault missing x >>= (λ k. or_fault missing (frame.keys k) >>= (λ n. objects_after_move is_out (held frame.depth k) (n ∷ []) objects >>= (λ back. Ok back)))) >>= (λ back. come_back keys frame es back))
    keyed None = refl
    keyed (Some k) = named k (frame.keys k)

    by : (b : Bool) → (if b then (or_fault missing (slice_get keys e.key) >>= (λ k. or_fault missing (frame.keys k) >>= (λ n. objects_after_move is_out (held frame.depth k) (n ∷ []) objects >>= (λ back. come_back keys frame es back)))) else come_back keys frame es objects)
        ≡ ((if b then (or_fault missing (slice_get keys e.key) >>= (λ k. or_fault missing (frame.keys k) >>= (λ n. objects_after_move is_out (held frame.depth k) (n ∷ []) objects >>= (λ back. Ok back)))) else Ok objects) >>= (λ back. come_back keys frame es back))
    by true = keyed (slice_get keys e.key)
    by false = refl

pub back_both : (old between new : Heap) (values : Values) (keys : List ℕ) (e : Entry) (es : List Entry) (b : Bool) → ComesBack keys (e ∷ []) values old between true → ComesBack keys es values between new b → ComesBack keys (e ∷ es) values old new b
back_both old between new values keys e es b first rest c named =
    subst (AreBack c.items new values c.frame b) (sym (come_split keys c.frame e es c.objects)) (by (come_back keys c.frame (e ∷ []) c.objects) (first c (named.0, tt)))
  where
    later : (objects : List Thing) (s : Shows c.items between values c.frame objects) (y : Found (List Thing)) → AreBack s.items new values c.frame b y → AreBack c.items new values c.frame b y
    later objects s (Ok after) h = (h.0, shows_twice old between new values c objects after s h.1)
    later objects s (Err o) h = h

    by : (x : Found (List Thing)) → AreBack c.items between values c.frame true x → AreBack c.items new values c.frame b (x >>= (λ back. come_back keys c.frame es back))
    by (Ok objects) h = later objects h.1 (come_back keys c.frame es objects) (rest (seen_after old between values c objects h.1) named.1)
    by (Err o) h = absurd (false≢true (sym h))

pub back_stops : (old new : Heap) (values : Values) (keys : List ℕ) (e : Entry) (es : List Entry) → ComesBack keys (e ∷ []) values old new false → ComesBack keys (e ∷ es) values old new false
back_stops old new values keys e es first c named =
    subst (AreBack c.items new values c.frame false) (sym (come_split keys c.frame e es c.objects)) (by (come_back keys c.frame (e ∷ []) c.objects) (first c (named.0, tt)))
  where
    by : (x : Found (List Thing)) → AreBack c.items new values c.frame false x → AreBack c.items new values c.frame false (x >>= (λ back. come_back keys c.frame es back))
    by (Ok objects) h = absurd (false≢true h.0)
    by (Err o) h = refl

pub back_skip : (old new : Heap) (values : Values) (keys : List ℕ) (e : Entry) (es : List Entry) (b : Bool) → is_given e ≡ false → ComesBack keys es values old new b → ComesBack keys (e ∷ es) values old new b
back_skip old new values keys e es b free rest c named = subst (AreBack c.items new values c.frame b) (sym (not_given keys c.frame e es c.objects free)) (rest c named.1)

pub back_none : (h : Heap) (values : Values) (keys : List ℕ) → ComesBack keys [] values h h true
back_none h values keys c named = (refl, shows_same h values c)

-- ---- states

length_changed : (objects : List Thing) (n : ℕ) (change : Thing → Thing) → length (with_changed_object n change objects) ≡ length objects
length_changed objects n change = by (slice_get objects n)
  where
    by : (x : Option Thing) → length (changed_in n change objects x) ≡ length objects
    by None = refl
    by (Some q) = length-set objects n (change q)

-- an object that is gone may have any state
gone_shown : (items : Items) (width n s : ℕ) (objects : List Thing) → ShowObjects items width objects → slice_get items n ≡ Some None → (x : Thing) → slice_get objects n ≡ Some x → ShowObjects items width (with_changed_object n (with_state s) objects)
gone_shown items width n s objects h none_at x at = record {
  long = h.long ∙ sym (length_changed objects n (with_state s));
  each = λ m y q at_y at_q. by m y q at_y at_q (equal_or_not m n);
}
  where
    by : (m : ℕ) (y : Option Item) (q : Thing) → slice_get items m ≡ Some y → slice_get (with_changed_object n (with_state s) objects) m ≡ Some q → (m ≡ n) ⊎ (m ≢ n) → ShowsIt items width y q
    by m y q at_y at_q (inl e) =
        let none : None ≡ y = same_Some None y (sym none_at ∙ ap (slice_get items) (sym e) ∙ at_y) in
        let same : with_state s x ≡ q = same_Some (with_state s x) q (sym (change_here objects n x (with_state s) at) ∙ ap (slice_get (with_changed_object n (with_state s) objects)) (sym e) ∙ at_q) in
        subst (λ z. ShowsIt items width z q) none (subst (λ z. is_gone z.owner ≡ true) same (h.each n None x none_at at))
    by m y q at_y at_q (inr d) = h.each m y q at_y (sym (change_elsewhere objects n (with_state s) m d) ∙ at_q)

module _ (old new : Heap) (values : Values) (key s : ℕ) (a : Slot) (slot : IsSlotAt values.slots.items (key_at values key) a) where
  state_slot : (c : Seen old values) (n : ℕ) → c.frame.keys key ≡ Some n → IsObject c.items n a
  state_slot c n is = has_part c.items values.slots.items (key_at values key) _ a slot (c.fits.keys key n is)

  -- it is there
  becomes_it : (o : Obj) (m : ℕ) → a ≡ Object o m → Tells true o m old → Changes o (item_state s) old new → Becomes key s values old new
  becomes_it o m is tells changes c n named =
      let ref = state_slot c n named in
      let same = same_object (sym is ∙ ref.is) in
      let made : IsMadeAt c.items o.0 n = subst (λ q. IsMadeAt c.items q.0 n) (sym same.0) ref.made in
      let t = tells c.items c.holds (subst (IsMadeAt c.items o.0) (sym same.1) made) in
      let at : IsAt c.items n t.0 = ap (slice_get c.items) (sym same.1) ∙ t.1 in
      let k = known c.items values.width o.0 n c.objects c.shown made in
      let sh = subst (λ y. ShowsIt c.items values.width y k.object) (same_Some k.item (Some t.0) (sym k.at ∙ at)) k.shown in
      let keep = kept_with c.items n t.0 (item_state s t.0) at refl in
      all_shown old new values c (with_changed_object n (with_state s) c.objects) (record {
        items = with_item n (item_state s t.0) c.items;
        holds = changes c.items n t.0 c.holds at t.2;
        shown = one_shown c.items values.width n c.objects t.0 (item_state s t.0) k.object (with_state s) keep c.shown at k.object_at
            (record { live = sh.live; type = sh.type; state = refl; parent = sh.parent; is_out = sh.is_out; cells = sh.cells });
        kept = keep;
      })

  -- it is gone
  becomes_gone : (o : Obj) (m : ℕ) → a ≡ Object o m → Tells false o m old → new ≡ old → Becomes key s values old new
  becomes_gone o m is tells quiet c n named =
      let ref = state_slot c n named in
      let same = same_object (sym is ∙ ref.is) in
      let made : IsMadeAt c.items o.0 n = subst (λ q. IsMadeAt c.items q.0 n) (sym same.0) ref.made in
      let t = tells c.items c.holds (subst (IsMadeAt c.items o.0) (sym same.1) made) in
      let k = known c.items values.width o.0 n c.objects c.shown made in
      subst (λ h. Shows c.items h values c.frame (with_changed_object n (with_state s) c.objects)) (sym quiet) (record {
        items = c.items;
        holds = c.holds;
        objects_shown = gone_shown c.items values.width n s c.objects c.shown (ap (slice_get c.items) (sym same.1) ∙ t) k.object k.object_at;
        frame_shown = c.fits;
        kept = λ i j made. made;
      })

  pub becomes_so : (o : Obj) (m : ℕ) → a ≡ Object o m → IsStateSet o m s old new → Becomes key s values old new
  becomes_so o m is (inl set) = becomes_it o m is set.there set.changes
  becomes_so o m is (inr set) = becomes_gone o m is set.0 set.1

  pub becomes_other : IsNoObject a → Becomes key s values old new
  becomes_other other c n named = let ref = state_slot c n named in absurd (other ref.object n ref.is)
